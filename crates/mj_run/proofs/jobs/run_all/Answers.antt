use Rattle.mj_fan.proofs.InPlaceLaws.{mapped, joined}
use Rattle.mj_fan.specs.InPlace.{Ran}
use Rattle.mj_run.specs.Batch.{Reports, held_report, due_report, held_end, due_end}
use Rattle.mj_run.proofs.jobs.run_all.Goals as goal

pub returns : goal.returns
returns g c = record {
  text = joined (Ran Reports (λ job. job.number)) held_report due_report c.args.jobs.now c.fan.new.jobs (λ x y r. r.left.text) c.fan.ensures;
  ends = mapped (Ran Reports (λ job. job.number)) held_end due_end c.args.jobs.now c.fan.new.jobs (λ x y r. r.left.end) c.fan.ensures;
}
