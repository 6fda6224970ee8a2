use Rattle.std.proofs.Common.{ℕ, ℤ, pos, ◌≤◌, ◌^◌, ◌∙◌, ◌≡◌, unsigned_abs, ap, sym, subst}
use Rattle.fx_num.specs.declared.number.Number.{Number}
use Rattle.mj_types.specs.Parts.{number_at, plain}
use Rattle.mj_passive.specs.Forces.{v_at}
use Rattle.mj_passive.proofs.JointLaws.{velocity_small}
use Rattle.mj_passive.proofs.joints.velocity.Goals as goal

pub returns-clause-small : goal.returns-clause-small
returns-clause-small c =
    let value : c.at.result.mid ≡ v_at c.args.model.now c.args.state.now c.args.number
    = ap (λ (x : Number (Unit {0}) 32). x.mid) (sym (c.at.ensures (plain (pos 0)))) ∙ ap (λ (p : ℕ). number_at c.args.state.now.v p) c.dof_of.ensures.place in
    subst (λ (x : ℤ). unsigned_abs x ≤ 2 ^ 52) (sym value) (velocity_small c.args.model.now c.args.number c.requires.joint c.args.state.now c.requires.fits)
