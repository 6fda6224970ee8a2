use Rattle.std.proofs.Common.{◌≡◌, ℕ, ◌+◌, ◌*◌, ◌+ℤ◌, ◌^◌, ◌<◌, ◌≤◌, unsigned_abs}
use Rattle.fx_whole.specs.Sums.{sum_to}
use Rattle.mj_types.specs.Duals.{wide_at}
use Rattle.mj_types.specs.Parts.{term, dof}
use Rattle.mj_passive.specs.Forces.{term_pull}
use Rattle.mj_passive.proofs.tendons.pull.Given as goal

abbrev pub invariant-loop-i : goal.invariant-loop-i
invariant-loop-i l = record {
  dofs : (d : ℕ) → d < l.model.nv → wide_at l.dofs d
      ≡ wide_at l.initial.dofs d +ℤ sum_to l.i (λ i. term_pull (term l.terms i) l.force.mid (dof l.model.dofs d).joint);
  sizes : (d : ℕ) → unsigned_abs (wide_at l.dofs d) ≤ unsigned_abs (wide_at l.initial.dofs d) + l.i * 2 ^ 94;
}
