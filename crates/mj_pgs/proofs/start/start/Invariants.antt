use Rattle.std.proofs.Common.{◌≡◌, ℕ, ◌<◌, length}
use Rattle.mj_pgs.specs.Holding.{IsReady}
use Rattle.mj_pgs.proofs.start.start.Given as goal

abbrev pub invariant-loop-i : goal.invariant-loop-i
invariant-loop-i l =
    (l.out.f ≡ l.initial.out.f)
    × (l.out.u ≡ l.initial.out.u)
    × (length l.out.divisor ≡ length l.fn.out.divisor)
    × (length l.out.used ≡ length l.fn.out.used)
    × ((j : ℕ) → j < l.i → IsReady l.dual l.out j)
