use Rattle.std.proofs.Common.{◌≡◌, ◌^◌, ◌<◌, ℕ, ℤ, length, None}
use Rattle.fx_whole.specs.First.{first_to}
use Rattle.mj_types.specs.Masses.{mass_at}
use Rattle.mj_types.specs.Parts.{number_at}
use Rattle.mj_factor.specs.Residuals.{greatest_to, residual_at}
use Rattle.mj_inverse.specs.Carriers.{jacobian_of}
use Rattle.mj_inverse.specs.Separated.{load, load_fault}
use Rattle.mj_inverse.proofs.loads.judge_loads.Given as goal

abbrev pub invariant-loop-i : goal.invariant-loop-i
invariant-loop-i l =
    let n = length l.accel in
    let s : ℕ → ℤ = load l.dual.m (jacobian_of n l.rows l.dual) (number_at l.free) (number_at l.x) in
    record {
      so_far : l.greatest ≡ greatest_to l.i (residual_at n (mass_at n l.mass.m) (number_at l.accel) s);
      small : l.greatest < 2 ^ 127;
      passed : first_to l.i (load_fault s) ≡ None;
    }
