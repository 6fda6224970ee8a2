use Rattle.std.proofs.Common.{List, ℕ, ◌∙◌, ap, subst}
use Rattle.mj_io.specs.Sent.{Sent}
use Rattle.mj_run.specs.Batch.{first_end}
use Rattle.mj_run.proofs.jobs.run_batch.Goals as goal

pub returns : goal.returns
returns g c = record {
  sent = λ m n tapes given.
      let P = λ (text : List ℕ). Sent g.S.Sink.holds g.S.Sink.faults c.args.sink.now c.args.page.now text c.send_reports.new.sink c.send_reports.new.page in
      subst P (c.run_all.ensures.text ∙ given.text) c.send_reports.ensures;
  end = λ m n tapes given. c.first_end.ensures ∙ ap first_end (c.run_all.ensures.ends ∙ given.ends);
}
