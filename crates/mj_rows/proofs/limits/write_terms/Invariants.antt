use Rattle.std.proofs.Common.{◌≡◌, ℕ, ◌-◌, ◌*◌, ◌^◌, ◌≤◌, unsigned_abs}
use Rattle.fx_whole.specs.Sums.{sum_to}
use Rattle.mj_types.specs.Parts.{term, number_at}
use Rattle.mj_rows.specs.Joints.{at_joint}
use Rattle.mj_rows.proofs.limits.write_terms.Given as goal

abbrev pub invariant-loop-i : goal.invariant-loop-i
invariant-loop-i l = record {
  value : (d : ℕ) → number_at l.jacobian d ≡ sum_to l.i (λ i. at_joint l.model ((term l.terms i).joint - 1) (term l.terms i).coef.mid d);
  size : (d : ℕ) → unsigned_abs (number_at l.jacobian d) ≤ l.i * 2 ^ 42;
}
