use Rattle.std.proofs.Common.{◌≡◌, ◌*◌, ◌^◌, min}
use Rattle.fx_text.proofs.decimal.tens.Given as goal

abbrev pub invariant-loop-turn : goal.invariant-loop-turn
invariant-loop-turn l = l.grown ≡ min (l.size * 10 ^ l.turn) (2 ^ 64)
