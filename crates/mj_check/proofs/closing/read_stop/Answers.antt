use Rattle.std.proofs.Common.{refl}
use Rattle.mj_optimum.specs.declared.stop.Stop.TheVariants as stop
use Rattle.mj_trace.specs.Block.{stop_text}
use Rattle.mj_reading.proofs.ReadingLaws.{read-case}
use Rattle.mj_check.specs.Lines.{IsStop}
use Rattle.mj_check.proofs.StopLaws.{none-only}
use Rattle.mj_check.proofs.closing.read_stop.Goals as goal

pub returns-then-m-eq0 : goal.returns-then-m-eq0
returns-then-m-eq0 c = (stop.NoRows, read-case (IsStop c.args.m) stop_text (λ u. stop.NoRows) (λ a. refl) (λ a f. c.if-m-eq0.true) (λ w behind h e. (tt, tt, none-only c.args.m c.if-m-eq0.true w h)) (λ a e. tt) c.word.ensures)
