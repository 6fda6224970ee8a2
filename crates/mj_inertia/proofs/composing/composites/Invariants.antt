use Rattle.std.proofs.Common.{◌≡◌, ℕ, ◌-◌, ◌<◌, length}
use Rattle.mj_types.specs.Placed.{inertia_at}
use Rattle.mj_types.specs.Rooms.{CompositeRoom}
use Rattle.mj_inertia.proofs.CompositeLaws.{carried}
use Rattle.mj_inertia.proofs.composing.composites.Given as goal

abbrev pub invariant-loop-s : goal.invariant-loop-s
invariant-loop-s l = record {
  room : CompositeRoom l.model l.out;
  sums : (c : ℕ) → c < length l.model.bodies
      → inertia_at l.out.list c ≡ carried l.model.bodies (inertia_at l.frames.inertia) (length l.model.bodies - l.s) c;
}
