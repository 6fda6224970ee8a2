use Rattle.std.proofs.Common.{◌≡◌, ◌+◌, min, sum_by, take, length}
use Rattle.mj_walk.proofs.counts.geom_count.Given as goal

abbrev pub invariant-loop-b : goal.invariant-loop-b
invariant-loop-b l = l.total ≡ min 200 (l.others + sum_by (λ b. length b.geom) (take l.b-index l.bodies))
