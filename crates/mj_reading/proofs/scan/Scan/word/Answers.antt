use Rattle.mj_reading.proofs.ReadingLaws.{word-found, missed}
use Rattle.std.proofs.Common.{ap}
use Rattle.mj_reading.proofs.scan.Scan.word.Goals as goal

pub returns-then-begins : goal.returns-then-begins
returns-then-begins c = word-found c.args.text.now c.args.self.now c.pass.new.self (c.begins.ensures.yes c.if-begins.true) c.pass.ensures

pub returns-else-begins : goal.returns-else-begins
returns-else-begins c = missed tt (ap (λ a. a.going) c.stop.ensures) (λ w behind _ _ e. let t = c.begins.ensures.only behind e in absurd cc)
