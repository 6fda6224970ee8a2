use Rattle.std.proofs.Common.{length, None}
use Rattle.fx_whole.specs.Joined.{joined}
use Rattle.mj_contact.specs.Growing.{HasAdded}
use Rattle.mj_types.specs.Placed.{placing_of}
use Rattle.mj_contact.specs.Lists.{found_with_later}
use Rattle.mj_contact.specs.Sizes.{AreUsable}
use Rattle.mj_contact.proofs.list.add_all.Given as goal

abbrev pub invariant-loop-a : goal.invariant-loop-a
invariant-loop-a l = record {
  added : HasAdded l.fn.out (joined l.a (found_with_later l.model (placing_of l.frames))) None l.out;
  reach : AreUsable (length l.model.geoms) l.out.list;
}
