use Rattle.std.proofs.Common.{◌≡◌, length, ◌-◌, ◌≤◌, take}
use Rattle.mj_io.specs.Growth.{Grew}
use Rattle.mj_io.proofs.sink.put.Given as goal

abbrev pub invariant-loop-start : goal.invariant-loop-start
invariant-loop-start g l = (l.start ≤ length l.bytes) × Grew (g.S.Sink.holds l.initial.sink) (take l.start l.bytes) (g.S.Sink.holds l.sink) × (g.S.Sink.faults l.sink ≡ g.S.Sink.faults l.initial.sink)

abbrev pub decreases-loop-start : goal.decreases-loop-start
decreases-loop-start g l = length l.bytes - l.start
