use Rattle.std.proofs.Common.{None, ap, ◌∙◌, drop}
use Rattle.mj_reading.specs.Reading.{IsOptional, optional_text}
use Rattle.mj_reading.proofs.ReadingLaws.{token-found, token-missed, optional-bytes}
use Rattle.mj_reading.proofs.scan.Scan.optional_number.Goals as goal

pub returns-in-Some : goal.returns-in-Some
returns-in-Some c = token-found IsOptional optional_text c.args.self.now c.pass.new.self c.in-Some.x optional-bytes (rw (c.in-Some.is, c.first.ensures, c.span-count.ensures.value) at c.read_optional.ensures) (c.pass.ensures ∙ ap (λ n. record { rest = drop n c.args.self.now.rest; going = c.args.self.now.going }) c.span-count.ensures.value)

pub returns-in-None : goal.returns-in-None
returns-in-None c = token-missed IsOptional optional_text c.args.self.now c.stop.new.self None optional-bytes (rw (c.in-None.is, c.first.ensures, c.span-count.ensures.value) at c.read_optional.ensures) (ap (λ a. a.going) c.stop.ensures)
