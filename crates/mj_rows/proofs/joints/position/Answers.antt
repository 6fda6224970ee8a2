use Rattle.std.proofs.Common.{ℤ, pos, ◌≤◌, ◌^◌, ◌∙◌, ◌≡◌, unsigned_abs, ap, sym, subst, arith}
use Rattle.fx_num.specs.declared.number.Number.{Number}
use Rattle.mj_types.specs.declared.parts.Joint.{Joint}
use Rattle.mj_types.specs.Parts.{no_joint, number_at, plain}
use Rattle.mj_rows.specs.Joints.{position}
use Rattle.mj_rows.proofs.JointLaws.{position_there, position_small}
use Rattle.mj_rows.proofs.joints.position.Goals as goal

pub at-requires : goal.at-requires
at-requires c =
    let at = ap (λ (x : Joint). x.qadr) (c.entry.ensures no_joint) in
    omega (arith, at, c.requires.fits.positions.many, position_there c.args.model.now c.args.j c.requires.joint)

value : (c : goal.After-at) → c.at.result.mid ≡ position c.args.model.now c.args.state.now c.args.j
value c =
    ap (λ (x : Number (Unit {0}) 32). x.mid) (sym (c.at.ensures (plain (pos 0))))
    ∙ ap (λ (x : Joint). number_at c.args.state.now.q x.qadr) (sym (c.entry.ensures no_joint))

pub returns-clause-value : goal.returns-clause-value
returns-clause-value c = value c

pub returns-clause-small : goal.returns-clause-small
returns-clause-small c =
    subst (λ (x : ℤ). unsigned_abs x ≤ 2 ^ 52) (sym (value c)) (position_small c.args.model.now c.args.j c.requires.joint c.args.state.now c.requires.fits)
