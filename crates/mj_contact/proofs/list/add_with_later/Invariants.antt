use Rattle.std.proofs.Common.{◌+◌, length, None}
use Rattle.fx_whole.specs.Joined.{joined}
use Rattle.mj_contact.specs.Growing.{HasAdded}
use Rattle.mj_types.specs.Placed.{placing_of}
use Rattle.mj_contact.specs.Lists.{found}
use Rattle.mj_contact.specs.Sizes.{AreUsable}
use Rattle.mj_contact.proofs.list.add_with_later.Given as goal

abbrev pub invariant-loop-i : goal.invariant-loop-i
invariant-loop-i l = record {
  added : HasAdded l.fn.out (joined l.i (λ i. found l.model (placing_of l.frames) l.a (l.a + 1 + i))) None l.out;
  reach : AreUsable (length l.model.geoms) l.out.list;
}
