use Rattle.std.proofs.Common.{◌≡◌, ℕ, ◌+◌, ◌*◌, ◌+ℤ◌, ◌^◌, ◌<◌, ◌≤◌, unsigned_abs, None}
use Rattle.fx_whole.specs.First.{first_to}
use Rattle.fx_whole.specs.Sums.{sum_to}
use Rattle.mj_types.specs.Duals.{wide_at}
use Rattle.mj_types.specs.Parts.{dof}
use Rattle.mj_types.specs.Rooms.{AppliedRoom}
use Rattle.mj_passive.specs.Forces.{pull_from, tendon_fault_from}
use Rattle.mj_passive.specs.Taken.{HasStretches}
use Rattle.mj_passive.proofs.tendons.take_tendons.Given as goal

abbrev pub invariant-loop-t : goal.invariant-loop-t
invariant-loop-t l = record {
  room : AppliedRoom l.model l.out;
  stretches : HasStretches l.model l.state l.t l.out;
  dofs : (d : ℕ) → d < l.model.nv → wide_at l.dofs d
      ≡ wide_at l.initial.dofs d +ℤ sum_to l.t (pull_from l.model l.state (dof l.model.dofs d).joint (wide_at l.motors));
  sizes : (d : ℕ) → unsigned_abs (wide_at l.dofs d) ≤ 2 ^ 100 + l.t * 2 ^ 100;
  passed : first_to l.t (λ t. tendon_fault_from l.model l.state t (wide_at l.motors t)) ≡ None;
}
