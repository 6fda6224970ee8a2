use Rattle.fx_text.proofs.PartsFound.{numerals_have_parts}
use Rattle.fx_text.proofs.laws.numerals_have_parts.Goals as goal

pub returns : goal.returns
returns c = numerals_have_parts
