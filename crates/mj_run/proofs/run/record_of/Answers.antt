use Rattle.std.proofs.Common.{arith, ap, length}
use Rattle.mj_run.proofs.ControlLaws.{record-within}
use Rattle.mj_run.proofs.run.record_of.Goals as goal

pub overflow_mul-begin : goal.overflow_mul-begin
overflow_mul-begin c =
    let tape = c.args.tape.now in
    let room = record-within tape.rows tape.width c.args.k (length tape.values) tape.filled c.requires in
    let whole = ap (λ xs. length xs) c.as_slice-values.ensures in
    omega (arith, room, whole, c.as_slice-values.type_inv)
