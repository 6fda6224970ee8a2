use Rattle.std.proofs.Common.{◌≡◌, replicate}
use Rattle.fx_list.proofs.array.Array.filled.Given as goal

abbrev pub invariant-loop-i : goal.invariant-loop-i
invariant-loop-i g l = l.items.items ≡ replicate l.i l.x
