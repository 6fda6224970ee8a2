use Rattle.std.proofs.Common.{ap, ◌∙◌, drop, pos}
use Rattle.mj_reading.specs.Reading.{IsRaw, raw_text}
use Rattle.mj_reading.proofs.ReadingLaws.{token-found, token-missed, raw-bytes}
use Rattle.mj_reading.proofs.scan.Scan.number.Goals as goal

pub returns-in-Some : goal.returns-in-Some
returns-in-Some c = token-found IsRaw raw_text c.args.self.now c.pass.new.self c.in-Some.n raw-bytes (rw (c.in-Some.is, c.first.ensures, c.span-count.ensures.value) at c.read_wide.ensures) (c.pass.ensures ∙ ap (λ n. record { rest = drop n c.args.self.now.rest; going = c.args.self.now.going }) c.span-count.ensures.value)

pub returns-in-None : goal.returns-in-None
returns-in-None c = token-missed IsRaw raw_text c.args.self.now c.stop.new.self (record { raw = pos 0 }) raw-bytes (rw (c.in-None.is, c.first.ensures, c.span-count.ensures.value) at c.read_wide.ensures) (ap (λ a. a.going) c.stop.ensures)
