use Rattle.std.proofs.Common.{ap, ◌∙◌, drop, decimal, arith}
use Rattle.mj_reading.specs.Reading.{IsBetween}
use Rattle.mj_reading.proofs.ReadingLaws.{token-found, token-missed, count-bytes}
use Rattle.mj_reading.proofs.scan.Scan.count.Goals as goal

pub returns-in-Some : goal.returns-in-Some
returns-in-Some c = token-found (IsBetween c.args.least c.args.most) decimal c.args.self.now c.pass.new.self c.in-Some.n (count-bytes c.args.least c.args.most (omega arith)) (rw (c.in-Some.is, c.first.ensures, c.span-count.ensures.value) at c.read_within.ensures) (c.pass.ensures ∙ ap (λ n. record { rest = drop n c.args.self.now.rest; going = c.args.self.now.going }) c.span-count.ensures.value)

pub returns-in-None : goal.returns-in-None
returns-in-None c = token-missed (IsBetween c.args.least c.args.most) decimal c.args.self.now c.stop.new.self 0 (count-bytes c.args.least c.args.most (omega arith)) (rw (c.in-None.is, c.first.ensures, c.span-count.ensures.value) at c.read_within.ensures) (ap (λ a. a.going) c.stop.ensures)
