use Rattle.std.proofs.Common.{◌≡◌, None}
use Rattle.fx_whole.specs.First.{first_to}
use Rattle.mj_types.specs.Placed.{spatial_at}
use Rattle.mj_types.specs.Rooms.{MassRoom}
use Rattle.mj_inertia.specs.MassEntries.{dof_fault}
use Rattle.mj_inertia.specs.Written.{HasEntries, near_from, joint_momentum}
use Rattle.mj_inertia.proofs.matrix.mass_matrix.Given as goal

abbrev pub invariant-loop-j : goal.invariant-loop-j
invariant-loop-j l = record {
  room : MassRoom l.model l.out;
  entries : HasEntries l.model.nv l.j (near_from l.model (spatial_at l.column) (joint_momentum l.model (spatial_at l.column) l.composite)) l.out.m;
  passed : first_to l.j (dof_fault l.model (spatial_at l.column) (joint_momentum l.model (spatial_at l.column) l.composite)) ≡ None;
}
