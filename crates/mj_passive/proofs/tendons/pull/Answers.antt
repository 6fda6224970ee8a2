use Rattle.std.proofs.Common.{◌≡◌, ◌+◌, length, ℕ, ℤ, ◌+ℤ◌, ap, ◌∙◌, sym, subst, arith}
use Rattle.std.proofs.lemmas.Int.{ints}
use Rattle.fx_whole.specs.Sums.{sum_to}
use Rattle.fx_whole.proofs.SumLaws.{sum_to-more}
use Rattle.mj_types.specs.declared.parts.Term.{Term}
use Rattle.mj_types.specs.Duals.{wide_at}
use Rattle.mj_types.specs.Lawful.{IsScalar}
use Rattle.mj_types.specs.Parts.{term, no_term, dof}
use Rattle.mj_passive.specs.Forces.{term_pull}
use Rattle.mj_passive.proofs.tendons.pull.Goals as goal

pub pull_one-requires-clause-joint : goal.pull_one-requires-clause-joint
pull_one-requires-clause-joint c =
    subst (λ (x : Term). IsScalar c.args.model.now.joints x.joint) (c.entry.ensures no_term) (c.requires.terms.scalar c.loop-i.i (omega arith))

more : (new old now x s t : ℤ) → new ≡ now +ℤ x → now ≡ old +ℤ s → s +ℤ x ≡ t → new ≡ old +ℤ t
more new old now x s t e f g = omega (arith, ints)

pub loop-i-preserved : goal.loop-i-preserved
loop-i-preserved c =
    let m = c.args.model.now in
    let f = c.args.force.now.mid in
    let i = c.loop-i.i in
    let terms = c.args.terms.now in
    record {
      dofs = λ d h. more (wide_at c.pull_one.new.dofs d) (wide_at c.args.dofs.now d) (wide_at c.loop-i.dofs d) (term_pull c.entry.result.now f (dof m.dofs d).joint)
          (sum_to i (λ k. term_pull (term terms k) f (dof m.dofs d).joint)) (sum_to (i + 1) (λ k. term_pull (term terms k) f (dof m.dofs d).joint))
          (c.pull_one.ensures.dofs d h) (c.loop-i.invariant.dofs d h)
          (ap (λ (x : Term). sum_to i (λ k. term_pull (term terms k) f (dof m.dofs d).joint) +ℤ term_pull x f (dof m.dofs d).joint) (sym (c.entry.ensures no_term))
          ∙ sym (sum_to-more i (λ k. term_pull (term terms k) f (dof m.dofs d).joint)));
      sizes = λ d. omega (arith, c.pull_one.ensures.sizes d, c.loop-i.invariant.sizes d);
    }

pub returns-clause-dofs : goal.returns-clause-dofs
returns-clause-dofs c d h =
    let whole : c.loop-i.i ≡ length c.args.terms.now = omega (arith, c.len-i-end.ensures) in
    c.loop-i.invariant.dofs d h
    ∙ ap (λ (n : ℕ). wide_at c.args.dofs.now d +ℤ sum_to n (λ k. term_pull (term c.args.terms.now k) c.args.force.now.mid (dof c.args.model.now.dofs d).joint)) whole
