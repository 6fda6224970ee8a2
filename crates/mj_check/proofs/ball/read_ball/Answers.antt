use Rattle.std.proofs.Common.{Some, None, refl, ap, drop}
use Rattle.mj_check.specs.Lines.{IsBall, ball_line}
use Rattle.mj_reading.proofs.ReadingLaws.{read-case}
use Rattle.mj_check.proofs.BallLaws.{none-only, found-only}
use Rattle.mj_check.proofs.ball.read_ball.Goals as goal

pub returns-then-begins : goal.returns-then-begins
returns-then-begins c = read-case IsBall ball_line (λ u. None) (λ a. refl) (λ a f. tt) (none-only c.args.scan.now.rest (drop 10 c.args.scan.now.rest) (c.begins.ensures.yes c.if-begins.true)) (λ a e. refl) c.word.ensures

pub returns-else-begins : goal.returns-else-begins
returns-else-begins c = read-case IsBall ball_line (λ a. Some a) (λ a. refl) (λ a f. f)
    (found-only c.args.scan.now.rest (λ r e. let t = c.begins.ensures.only r e in absurd cc))
    (λ a e. ap (λ y. Some y) e) c.read_found_ball.ensures
