use Rattle.std.proofs.Common.{◌≡◌, ◌≤◌, ◌-◌, vec_len}
use Rattle.std.specs.Io.KnownBytes.{Consumes}
use Rattle.mj_io.proofs.stream.read_prefix.Given as goal

-- the bytes so far are what the reader lost, and no fault was counted
abbrev pub invariant-loop-file : goal.invariant-loop-file
invariant-loop-file g l = (vec_len l.bytes ≤ l.cap) × Consumes (g.F.Read.remaining l.initial.file) (g.F.Read.remaining l.file) l.bytes.items × (l.count ≡ l.initial.count)

-- the bytes that may still come
abbrev pub decreases-loop-file : goal.decreases-loop-file
decreases-loop-file g l = l.cap - vec_len l.bytes
