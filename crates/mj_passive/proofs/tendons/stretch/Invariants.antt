use Rattle.std.proofs.Common.{◌≡◌, ◌*◌, ◌*ℤ◌, ◌^◌, ◌≤◌, unsigned_abs}
use Rattle.fx_whole.specs.Sums.{sum_to}
use Rattle.mj_types.specs.Parts.{term}
use Rattle.mj_passive.specs.Forces.{q_at, v_at}
use Rattle.mj_passive.proofs.tendons.stretch.Given as goal

abbrev pub invariant-loop-i : goal.invariant-loop-i
invariant-loop-i l = record {
  length_ : l.total.length.raw ≡ sum_to l.i (λ i. (term l.terms i).coef.mid *ℤ q_at l.model l.state (term l.terms i).joint);
  rate : l.total.rate.raw ≡ sum_to l.i (λ i. (term l.terms i).coef.mid *ℤ v_at l.model l.state (term l.terms i).joint);
  length_size : unsigned_abs l.total.length.raw ≤ l.i * 2 ^ 94;
  rate_size : unsigned_abs l.total.rate.raw ≤ l.i * 2 ^ 94;
}
