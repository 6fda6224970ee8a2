use Rattle.fx_text.proofs.PartsRead.{numerals_are_read}
use Rattle.fx_text.proofs.laws.numerals_are_read.Goals as goal

pub returns : goal.returns
returns c = numerals_are_read
