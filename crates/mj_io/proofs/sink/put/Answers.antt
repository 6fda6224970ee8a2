use Rattle.std.proofs.Common.{◌≡◌, ◌-◌, ℕ, List, Option, take, drop, length, OnErr, ◌+◌, ◌++◌, sym, ◌∙◌, arith, length-drop, Result, Ok, Err}
use Rattle.std.proofs.lemmas.List.{take-append-drop}
use Rattle.std.proofs.lemmas.Slice.{between_to_end}
use Rattle.std.proofs.Math.Seq.{take-add}
use Rattle.mj_io.specs.Growth.{Grew}
use Rattle.mj_io.proofs.Growth.{GrewPart-stopped, Grew-then}
use Rattle.mj_io.proofs.sink.put.Goals as goal

on_err : {T E P : Type 0} (r : Result T E) → P → OnErr r P
on_err (Ok _) p = tt
on_err (Err _) p = p

pub returns-in_err-start-clause-err : goal.returns-in_err-start-clause-err
returns-in_err-start-clause-err g c =
    on_err c.from_residual.result
    (GrewPart-stopped (g.S.Sink.holds c.args.sink.now) (g.S.Sink.holds c.loop-start.sink) (g.S.Sink.holds c.write.new.self)
    (take c.loop-start.start c.args.bytes.now) (drop c.loop-start.start c.args.bytes.now) c.args.bytes.now
    (sym (take-append-drop c.loop-start.start c.args.bytes.now)) c.loop-start.invariant.1 c.in_err-start.ensures.unchanged)

rest : (bytes : List ℕ) (s : ℕ) → take (length bytes - s) (drop s bytes) ≡ drop s bytes
rest bytes s = between_to_end bytes s (length bytes) (omega arith)

step : (a b c : Option (List ℕ)) (bytes : List ℕ) (s n : ℕ) → Grew a (take s bytes) b → Grew b (take n (take (length bytes - s) (drop s bytes))) c → Grew a (take (s + n) bytes) c
step a b c bytes s n before more =
    let whole : Grew a (take s bytes ++ take n (drop s bytes)) c =
    Grew-then a b c (take s bytes) (take n (drop s bytes)) before (rw (rest bytes s) at more) in
    rw (take-add s n bytes) whole

pub loop-start-preserved : goal.loop-start-preserved
loop-start-preserved g c =
    let within = rw (rest c.args.bytes.now c.loop-start.start) at c.in_ok-start.ensures.within in (
      omega (arith, length-drop c.loop-start.start c.args.bytes.now),
      step (g.S.Sink.holds c.args.sink.now) (g.S.Sink.holds c.loop-start.sink) (g.S.Sink.holds c.write.new.self)
          c.args.bytes.now c.loop-start.start c.in_ok-start.field-0 c.loop-start.invariant.1 c.in_ok-start.ensures.grew,
      c.in_ok-start.ensures.calm ∙ c.loop-start.invariant.2,
    )
