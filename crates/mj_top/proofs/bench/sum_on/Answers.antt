use Rattle.std.proofs.Common.{◌≡◌, length, sym, ap, ap₂, ◌∙◌}
use Rattle.mj_io.proofs.Sent.{wrote-finished}
use Rattle.mj_trace.specs.Summaries.{summary_text}
use Rattle.mj_types.specs.Parts.{number_at}
use Rattle.mj_run.specs.Controls.{controls_at, tape_of}
use Rattle.mj_run.specs.Run.{end_of}
use Rattle.mj_run.specs.Summing.{summary_of, run_summary_text}
use Rattle.mj_run.proofs.StateLaws.{positions-small}
use Rattle.mj_top.specs.Outcome.{summed, status_of}
use Rattle.mj_top.specs.Ends.{unless_failed}
use Rattle.mj_top.proofs.Endings.{ends-from_wrote, told-status_of}
use Rattle.mj_top.proofs.bench.sum_on.Goals as goal

pub send_summary-requires-clause-q : goal.send_summary-requires-clause-q
send_summary-requires-clause-q g c =
    positions-small c.args.model.now c.sum_run-sum.new.runner.state.q c.sum_run-sum.ensures.fits.positions

pub returns : goal.returns
returns g c =
    let m = c.args.model.now in
    let n = c.args.steps in
    let driven = controls_at (length m.motors) (tape_of c.args.controls.now) in
    let s = c.sum_run-sum.new.runner.state in
    let fits = c.sum_run-sum.ensures.fits in
    let text : summary_text (length s.q) (length s.v) c.sum_run-sum.result (number_at s.q) (number_at s.v) ≡ run_summary_text m driven n =
    ap₂ (λ nq nv. summary_text nq nv c.sum_run-sum.result (number_at s.q) (number_at s.v)) fits.positions.many fits.velocities.many
    ∙ ap (λ sum. summary_text m.nq m.nv sum (number_at s.q) (number_at s.v)) c.sum_run-sum.ensures.summary
    ∙ ap (λ last. summary_text m.nq m.nv (summary_of m driven n) (number_at last.q) (number_at last.v)) c.sum_run-sum.ensures.state in
    ends-from_wrote g.S.Sink.holds g.S.Sink.faults c.args.sink.now c.finish-written.new.sink c.finish-written.result (summed n m (tape_of c.args.controls.now)) c.answered.result
    (told-status_of (end_of m driven n))
    (wrote-finished c.finish-written.result c.new-page.ensures (rw (sym text) c.send_summary.ensures.sent) c.finish-written.ensures.sent)
    (c.answered.ensures ∙ ap (unless_failed c.finish-written.result) (c.status_of.ensures ∙ ap (λ sum. status_of sum.end) c.sum_run-sum.ensures.summary))
