use Rattle.std.proofs.Common.{length}
use Rattle.mj_io.proofs.Memory.{or_memory-ok}
use Rattle.mj_run.specs.Batch.{tape_values}
use Rattle.mj_tape.specs.Judging.{TapeValues, tape_verdict}
use Rattle.mj_types.specs.declared.tape.TapeFault.TheVariants.{Memory}
use Rattle.mj_top.proofs.Served.{judged-serves}
use Rattle.mj_top.proofs.batch.add_tape_bytes.Goals as goal

pub add_job-requires-clause-width : goal.add_job-requires-clause-width
add_job-requires-clause-width c =
    let width = length c.args.model.now.motors in
    let values : TapeValues = tape_values c.in-Ok.tape in
    (judged-serves width c.args.steps c.args.room c.args.bytes.now values (or_memory-ok Memory values (tape_verdict width c.args.steps c.args.room c.args.bytes.now) c.in-Ok.ensures)).0

pub add_job-requires-clause-rows : goal.add_job-requires-clause-rows
add_job-requires-clause-rows c =
    let width = length c.args.model.now.motors in
    let values : TapeValues = tape_values c.in-Ok.tape in
    (judged-serves width c.args.steps c.args.room c.args.bytes.now values (or_memory-ok Memory values (tape_verdict width c.args.steps c.args.room c.args.bytes.now) c.in-Ok.ensures)).1
