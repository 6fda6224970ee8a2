use Rattle.std.proofs.Common.{◌≡◌, ◌<◌, ◌≤◌, ◌^◌, ℕ, None, length, unsigned_abs}
use Rattle.fx_whole.specs.First.{first_to}
use Rattle.mj_types.specs.Parts.{number_at}
use Rattle.mj_euler.specs.Advance.{velocity, velocity_fault}
use Rattle.mj_euler.proofs.integration.move_velocities.Given as goal

abbrev pub invariant-loop-d : goal.invariant-loop-d
invariant-loop-d l = record {
  len : length l.v ≡ length l.fn.v;
  value : (d : ℕ) → d < l.d → number_at l.v d ≡ velocity l.model l.state (number_at l.accel) d;
  within : (d : ℕ) → d < l.d → unsigned_abs (number_at l.v d) ≤ 2 ^ 44;
  passed : first_to l.d (velocity_fault l.model l.state (number_at l.accel)) ≡ None;
}
