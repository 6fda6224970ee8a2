use Rattle.std.proofs.Common.{sym, inl, inr, refl, ⊎_elim}
use Rattle.std.proofs.lemmas.Result.{err_from_is_err_and}
use Rattle.mj_tape.specs.Judging.{records_of}
use Rattle.mj_tape.proofs.Verdict.{judged-large, judged-fault, answered, held-fill}
use Rattle.mj_tape.proofs.reading.tape_of_width.Goals as goal

pub returns-then-bytes-gt-FILE_LIMIT : goal.returns-then-bytes-gt-FILE_LIMIT
returns-then-bytes-gt-FILE_LIMIT c =
    inr (sym (judged-large c.args.width c.args.steps c.args.room c.args.bytes.now c.if-bytes-gt-FILE_LIMIT.true))

pub returns-in_err-read : goal.returns-in_err-read
returns-in_err-read c =
    let r = err_from_is_err_and c.from_residual.result c.from_residual.ensures.1 in
    rw (r.1, r.2) (⊎_elim
    (λ memory. inl (rw memory refl))
    (λ fault. inr (sym (judged-fault c.args.width c.args.steps c.args.room c.args.bytes.now c.in_err-read.field-0.0 c.if-bytes-gt-FILE_LIMIT.false fault)))
    c.in_err-read.ensures.judged)

pub unless_short-requires-clause-filled : goal.unless_short-requires-clause-filled
unless_short-requires-clause-filled c =
    let r = c.in_ok-read.ensures in
    held-fill c.args.width c.args.room c.in_ok-read.read.count c.in_ok-read.read.values.items (records_of c.args.bytes.now) r.judged r.held.0 r.held.1

pub returns : goal.returns
returns c =
    let r = c.in_ok-read.ensures in
    inr (answered c.unless_short.result c.args.width c.args.steps c.args.room c.in_ok-read.read.count c.in_ok-read.read.values.items c.args.bytes.now c.if-bytes-gt-FILE_LIMIT.false r.judged r.held.0 r.held.1 c.unless_short.ensures)
