use Rattle.std.proofs.Common.{ℤ, ◌+ℤ◌, ◌*ℤ◌, ap, ◌∙◌, sym, subst, arith}
use Rattle.fx_whole.specs.Sums.{sum_to}
use Rattle.fx_whole.proofs.SumLaws.{sum_to-more}
use Rattle.mj_types.specs.declared.parts.Term.{Term}
use Rattle.mj_types.specs.Lawful.{IsScalar}
use Rattle.mj_types.specs.Parts.{term, no_term}
use Rattle.mj_passive.specs.Forces.{q_at, v_at}
use Rattle.mj_passive.proofs.tendons.stretch.Goals as goal

pub add_term-total-requires-clause-joint : goal.add_term-total-requires-clause-joint
add_term-total-requires-clause-joint c =
    subst (λ (x : Term). IsScalar c.args.model.now.joints x.joint) (c.entry.ensures no_term) (c.requires.terms.scalar c.loop-i.i (omega arith))

pub loop-i-preserved : goal.loop-i-preserved
loop-i-preserved c =
    let m = c.args.model.now in
    let s = c.args.state.now in
    let terms = c.args.terms.now in
    let i = c.loop-i.i in
    record {
      length_ = c.add_term-total.ensures.length_ ∙ ap (λ (x : ℤ). x +ℤ c.entry.result.now.coef.mid *ℤ q_at m s c.entry.result.now.joint) c.loop-i.invariant.length_
          ∙ ap (λ (x : Term). sum_to i (λ k. (term terms k).coef.mid *ℤ q_at m s (term terms k).joint) +ℤ x.coef.mid *ℤ q_at m s x.joint) (sym (c.entry.ensures no_term)) ∙ sym (sum_to-more i (λ k. (term terms k).coef.mid *ℤ q_at m s (term terms k).joint));
      rate = c.add_term-total.ensures.rate ∙ ap (λ (x : ℤ). x +ℤ c.entry.result.now.coef.mid *ℤ v_at m s c.entry.result.now.joint) c.loop-i.invariant.rate
          ∙ ap (λ (x : Term). sum_to i (λ k. (term terms k).coef.mid *ℤ v_at m s (term terms k).joint) +ℤ x.coef.mid *ℤ v_at m s x.joint) (sym (c.entry.ensures no_term)) ∙ sym (sum_to-more i (λ k. (term terms k).coef.mid *ℤ v_at m s (term terms k).joint));
      length_size = omega (arith, c.add_term-total.ensures.length_size, c.loop-i.invariant.length_size);
      rate_size = omega (arith, c.add_term-total.ensures.rate_size, c.loop-i.invariant.rate_size);
    }
