use Rattle.std.proofs.Common.{ap, ◌∙◌}
use Rattle.mj_io.proofs.Sent.{wrote-finished}
use Rattle.mj_run.specs.Batch.{batch_end}
use Rattle.mj_top.specs.Outcome.{batched, status_of}
use Rattle.mj_top.specs.Ends.{unless_failed}
use Rattle.mj_top.proofs.Endings.{ends-from_wrote, told-status_of}
use Rattle.mj_top.proofs.batch.run_jobs.Goals as goal

pub returns : goal.returns
returns g c = λ m n tapes due.
    ends-from_wrote g.S.Sink.holds g.S.Sink.faults c.args.sink.now c.finish-written.new.sink c.finish-written.result (batched n m tapes) c.answered.result
    (told-status_of (batch_end m n tapes))
    (wrote-finished c.finish-written.result c.new-page.ensures (c.run_batch-end.ensures.sent m n tapes due) c.finish-written.ensures.sent)
    (c.answered.ensures ∙ ap (unless_failed c.finish-written.result) (c.status_of.ensures ∙ ap status_of (c.run_batch-end.ensures.end m n tapes due)))
