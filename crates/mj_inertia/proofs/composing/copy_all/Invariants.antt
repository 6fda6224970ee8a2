use Rattle.std.proofs.Common.{◌≡◌, ℕ, ◌<◌, length}
use Rattle.mj_types.specs.Placed.{inertia_at}
use Rattle.mj_inertia.proofs.composing.copy_all.Given as goal

abbrev pub invariant-loop-b : goal.invariant-loop-b
invariant-loop-b l = record {
  room : length l.to ≡ length l.from;
  same : (k : ℕ) → k < l.b → inertia_at l.to k ≡ inertia_at l.from k;
}
