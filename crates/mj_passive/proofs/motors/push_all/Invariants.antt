use Rattle.std.proofs.Common.{◌≡◌, ℕ, suc, ◌*◌, ◌^◌, ◌<◌, ◌≤◌, unsigned_abs, length}
use Rattle.fx_whole.specs.Sums.{sum_to}
use Rattle.mj_types.specs.Duals.{wide_at}
use Rattle.mj_types.specs.Parts.{dof}
use Rattle.mj_passive.specs.Forces.{joint_motor, tendon_motor}
use Rattle.mj_passive.proofs.motors.push_all.Given as goal

abbrev pub invariant-loop-k : goal.invariant-loop-k
invariant-loop-k l = record {
  dofs : (d : ℕ) → d < l.model.nv → wide_at l.dofs d ≡ sum_to l.k (joint_motor l.model l.controls (dof l.model.dofs d).joint);
  tendons : (t : ℕ) → t < length l.model.tendons → wide_at l.tendons t ≡ sum_to l.k (tendon_motor l.model l.controls (suc t));
  dof_sizes : (d : ℕ) → unsigned_abs (wide_at l.dofs d) ≤ l.k * 2 ^ 94;
  tendon_sizes : (t : ℕ) → unsigned_abs (wide_at l.tendons t) ≤ l.k * 2 ^ 94;
}
