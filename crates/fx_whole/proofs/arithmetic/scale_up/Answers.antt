use Rattle.std.proofs.Common.{arith, unsigned_abs, to_z, of_z}
use Rattle.std.proofs.lemmas.Int.{ints}
use mir.Syntax.{w128}
use Rattle.fx_whole.proofs.Powers.{scaled_fits}
use Rattle.fx_whole.proofs.arithmetic.scale_up.Goals as goal

pub scale_up_wide-requires-clause-fits : goal.scale_up_wide-requires-clause-fits
scale_up_wide-requires-clause-fits c =
    scaled_fits (unsigned_abs (to_z w128 (of_z w128 c.from.result))) c.args.shift (omega (arith, ints)) c.requires
