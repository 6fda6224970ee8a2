use Rattle.std.proofs.Common.{◌≡◌, inr, length, Ok, Err}
use Rattle.mj_tape.specs.Judging.{TapeValues, tape_verdict, raws}
use Rattle.mj_io.proofs.Memory.{or_memory-ok, or_memory-err}
use Rattle.mj_types.specs.declared.tape.TapeFault.TheVariants.{Memory}
use Rattle.mj_top.specs.Outcome.{tape_room}
use Rattle.mj_top.proofs.Served.{judged-serves}
use Rattle.mj_top.proofs.bench.sum_tape_text.Goals as goal

pub sum_model-requires : goal.sum_model-requires
sum_model-requires g c =
    let width = length c.args.model.now.motors in
    let values : TapeValues = record { rows = c.in-Ok.tape.rows; width = c.in-Ok.tape.width; values = raws c.in-Ok.tape.values } in
    judged-serves width c.args.steps tape_room c.args.bytes.now values (or_memory-ok Memory values (tape_verdict width c.args.steps tape_room c.args.bytes.now) c.in-Ok.ensures)

pub returns-in-Ok : goal.returns-in-Ok
returns-in-Ok g c =
    let width = length c.args.model.now.motors in
    let values : TapeValues = record { rows = c.in-Ok.tape.rows; width = c.in-Ok.tape.width; values = raws c.in-Ok.tape.values } in
    let answer : tape_verdict width c.args.steps tape_room c.args.bytes.now ≡ Ok values = or_memory-ok Memory values (tape_verdict width c.args.steps tape_room c.args.bytes.now) c.in-Ok.ensures in
    rw answer c.sum_model.ensures

pub returns-in_default : goal.returns-in_default
returns-in_default g c =
    let width = length c.args.model.now.motors in
    let answer : tape_verdict width c.args.steps tape_room c.args.bytes.now ≡ Err c.in-Err.fault = or_memory-err Memory c.in-Err.fault (tape_verdict width c.args.steps tape_room c.args.bytes.now) (λ same. c.in_default.not-Memory same) c.in-Err.ensures in
    rw answer (inr c.refuse_tape.ensures)
