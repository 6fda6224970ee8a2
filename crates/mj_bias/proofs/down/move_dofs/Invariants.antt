use Rattle.std.proofs.Common.{◌≡◌, None}
use Rattle.fx_whole.specs.First.{first_to}
use Rattle.mj_types.specs.BiasRooms.{BiasRoom}
use Rattle.mj_bias.specs.Faults.{dof_fault}
use Rattle.mj_bias.specs.Carried.{movement, IsBegun}
use Rattle.mj_bias.proofs.down.move_dofs.Given as goal

abbrev pub invariant-loop-j : goal.invariant-loop-j
invariant-loop-j g l = record {
  room : BiasRoom l.model l.out;
  begun : IsBegun g.K.Carry.settled g.K.Carry.width g.K.Carry.wide_width (movement l.model l.frames l.state) l.b l.j l.out;
  passed : first_to l.j (dof_fault g.K.Carry.settled (movement l.model l.frames l.state)) ≡ None;
}
