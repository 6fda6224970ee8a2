use Rattle.std.proofs.Common.{◌≡◌, ℕ, None}
use Rattle.fx_whole.specs.First.{first_to}
use Rattle.fx_vec.specs.Views.{spatial, spatial_radii}
use Rattle.mj_types.specs.Placed.{spatial_at}
use Rattle.mj_types.specs.Rooms.{MassRoom}
use Rattle.mj_inertia.specs.MassEntries.{entry_fault}
use Rattle.mj_inertia.specs.Written.{WritesTo, near_entry}
use Rattle.mj_inertia.proofs.matrix.write_row.Given as goal

abbrev pub invariant-loop-i : goal.invariant-loop-i
invariant-loop-i l = record {
  room : MassRoom l.model l.out;
  writes : WritesTo l.model.nv l.j l.i (λ (i : ℕ). near_entry l.model (spatial_at l.column i) (spatial l.momentum) (spatial_radii (λ r. r) l.momentum) i l.j) l.initial.out.m l.out.m;
  passed : first_to l.i (entry_fault l.model (spatial_at l.column) (spatial l.momentum) l.j) ≡ None;
}
