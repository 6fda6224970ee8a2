use Rattle.std.proofs.Common.{ℕ, ◌-◌, ◌≤◌, ◌^◌, ◌+ℤ◌, ℤ, unsigned_abs, ap, ap₂, sym, subst, ◌∙◌, arith}
use Rattle.fx_whole.proofs.SumLaws.{sum_to-more}
use Rattle.mj_types.specs.declared.parts.Term.{Term}
use Rattle.mj_types.specs.Lawful.{IsScalar}
use Rattle.mj_types.specs.Parts.{term, no_term}
use Rattle.mj_rows.specs.Joints.{at_joint}
use Rattle.mj_rows.proofs.limits.write_terms.Goals as goal

pub add_term-requires-clause-joint : goal.add_term-requires-clause-joint
add_term-requires-clause-joint c =
    subst (λ (x : Term). IsScalar c.args.model.now.joints x.joint) (c.entry.ensures no_term) (c.requires.terms.scalar c.loop-i.i (omega arith))

pub add_term-requires-clause-coef : goal.add_term-requires-clause-coef
add_term-requires-clause-coef c =
    subst (λ (x : Term). unsigned_abs x.coef.mid ≤ 2 ^ 42) (c.entry.ensures no_term) (c.requires.terms.coef c.loop-i.i (omega arith))

pub add_term-requires-clause-small : goal.add_term-requires-clause-small
add_term-requires-clause-small c d =
    let h = c.loop-i.invariant.size d in
    omega (arith, h, c.requires.terms.few)

pub loop-i-preserved : goal.loop-i-preserved
loop-i-preserved c =
    let m = c.args.model.now in
    let ts = c.args.terms.now in
    record {
      value = λ d.
          let f = λ (i : ℕ). at_joint m ((term ts i).joint - 1) (term ts i).coef.mid d in
          c.add_term.ensures.value d
          ∙ ap₂ (λ (x y : ℤ). x +ℤ y) (c.loop-i.invariant.value d) (ap (λ (x : Term). at_joint m (x.joint - 1) x.coef.mid d) (sym (c.entry.ensures no_term)))
          ∙ sym (sum_to-more c.loop-i.i f);
      size = λ d.
          let h = c.loop-i.invariant.size d in
          let g = c.add_term.ensures.size d in
          omega (arith, h, g);
    }
