use Rattle.std.proofs.Common.{◌≡◌, ◌^◌, None}
use Rattle.fx_whole.specs.First.{first_to}
use Rattle.fx_vec.specs.Sizes.{Within}
use Rattle.fx_vec.specs.Views.{mids}
use Rattle.mj_types.specs.Rooms.{FramesRoom}
use Rattle.mj_kin.specs.Bodies.{body_fault}
use Rattle.mj_kin.specs.Poses.{pose}
use Rattle.mj_kin.specs.Working.{pose_of, ArePlaced}
use Rattle.mj_kin.proofs.placing.place_bodies.Given as goal

abbrev pub invariant-loop-b : goal.invariant-loop-b
invariant-loop-b l = record {
  room : FramesRoom l.model l.out;
  placed : ArePlaced l.model l.state l.out l.b;
  last : pose_of l.last ≡ pose l.model l.state l.b;
  near_last : Within (mids l.last.pos) (2 ^ 44);
  passed : first_to l.b (body_fault l.model l.state) ≡ None;
}
