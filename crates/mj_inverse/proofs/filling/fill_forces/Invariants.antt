use Rattle.std.proofs.Common.{◌≡◌, ℕ, ◌^◌, ◌<◌, ◌≤◌, ℤ, ◌-ℤ◌, unsigned_abs, length, None}
use Rattle.fx_whole.specs.First.{first_to}
use Rattle.mj_factor.specs.Residuals.{greatest_to}
use Rattle.mj_types.specs.Parts.{number_at}
use Rattle.mj_types.specs.Problems.{forces}
use Rattle.mj_inverse.specs.Carriers.{motion_of, row_of}
use Rattle.mj_inverse.specs.Rows.{separate, row_fault}
use Rattle.mj_inverse.proofs.filling.fill_forces.Given as goal

abbrev pub invariant-loop-k : goal.invariant-loop-k
invariant-loop-k l =
    let force : ℕ → ℤ = λ k. separate (motion_of l.smooth l.accel) (row_of (length l.accel) l.rows l.dual k) in
    record {
      room : length l.out ≡ length l.initial.out;
      values : (j : ℕ) → j < l.k → number_at l.out j ≡ force j;
      small : (j : ℕ) → j < l.k → unsigned_abs (number_at l.out j) ≤ 2 ^ 50;
      gap : l.gap ≡ greatest_to l.k (λ k. unsigned_abs (force k -ℤ forces l.step k));
      near : l.gap ≤ 2 ^ 51;
      passed : first_to l.k (λ k. row_fault (motion_of l.smooth l.accel) (row_of (length l.accel) l.rows l.dual k)) ≡ None;
    }
