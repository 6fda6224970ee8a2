use Rattle.fx_text.proofs.DigitLaws.{below-none, below-read}
use Rattle.std.proofs.Common.{subst, Option, ℕ, ◌^◌}
use Rattle.fx_text.specs.Raw.{IsNaturalRead}
use Rattle.fx_text.proofs.raw.read_below_zero.Goals as goal

pub returns-in-Some : goal.returns-in-Some
returns-in-Some c = below-read c.args.digits.now c.in-Some.n c.below_zero.result (subst (IsNaturalRead (2 ^ 127) c.args.digits.now) c.in-Some.is c.read_natural.ensures) c.below_zero.ensures.zero c.below_zero.ensures.some

pub returns-in-None : goal.returns-in-None
returns-in-None c = below-none c.args.digits.now (subst (IsNaturalRead (2 ^ 127) c.args.digits.now) c.in-None.is c.read_natural.ensures)
