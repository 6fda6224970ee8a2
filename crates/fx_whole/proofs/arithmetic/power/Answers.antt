use Rattle.std.proofs.Common.{◌∙◌, SFits, rules, ap, unsigned_abs}
use Rattle.std.proofs.lemmas.Int.{to_z-of_z}
use mir.Syntax.{w128}
use Rattle.fx_whole.proofs.Powers.{power_read}
use Rattle.fx_whole.proofs.arithmetic.power.Goals as goal

pub returns-clause-value : goal.returns-clause-value
returns-clause-value c =
    let r : SFits w128 c.cast_signed.result = search rules in
    to_z-of_z w128 c.cast_signed.result r ∙ power_read c.args.shift c.cast_signed.result c.requires c.cast_signed.ensures

pub returns-clause-size : goal.returns-clause-size
returns-clause-size c = ap unsigned_abs (returns-clause-value c)
