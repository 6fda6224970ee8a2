use Rattle.std.proofs.Common.{ap}
use Rattle.mj_types.specs.declared.range.End.TheVariants as finish
use Rattle.mj_trace.specs.Trace.{end_text}
use Rattle.mj_reading.proofs.ReadingLaws.{read-case, missed}
use Rattle.mj_check.specs.Lines.{IsEnd}
use Rattle.mj_check.proofs.EndLaws.{done-text, done-only, never-ends}
use Rattle.mj_check.proofs.ending.read_done.Goals as goal

pub returns-then-count-steps : goal.returns-then-count-steps
returns-then-count-steps c = (finish.Done, read-case (IsEnd c.args.count c.args.steps) end_text (λ u. finish.Done) (λ a. done-text) (λ a f. c.if-count-steps.true) (λ w behind h e. (tt, tt, done-only c.args.count c.args.steps c.requires w h)) (λ a e. tt) c.word.ensures)

pub returns-else-count-steps : goal.returns-else-count-steps
returns-else-count-steps c = (finish.Done, missed finish.Done (ap (λ a. a.going) c.stop.ensures) (λ w behind h b e. never-ends c.args.count c.args.steps c.requires c.if-count-steps.false w h))
