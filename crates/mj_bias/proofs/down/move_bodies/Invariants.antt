use Rattle.std.proofs.Common.{◌≡◌, None}
use Rattle.fx_whole.specs.First.{first_to}
use Rattle.mj_types.specs.BiasRooms.{BiasRoom}
use Rattle.mj_bias.specs.Faults.{dof_fault}
use Rattle.mj_bias.specs.Carried.{movement, IsCarried}
use Rattle.mj_bias.proofs.PlaceLaws.{place}
use Rattle.mj_bias.proofs.down.move_bodies.Given as goal

abbrev pub invariant-loop-b : goal.invariant-loop-b
invariant-loop-b g l = record {
  room : BiasRoom l.model l.out;
  carried : IsCarried g.K.Carry.settled g.K.Carry.width g.K.Carry.wide_width (movement l.model l.frames l.state) l.b (place l.model l.b) l.out;
  passed : first_to (place l.model l.b) (dof_fault g.K.Carry.settled (movement l.model l.frames l.state)) ≡ None;
}
