use Rattle.std.proofs.Common.{suc, arith}
use Rattle.std.proofs.lemmas.Int.{ints}
use Rattle.fx_text.proofs.Sizes.{number-le_digits, behind_digits}
use Rattle.fx_text.proofs.decimal.size_at.Goals as goal

pub scale_decimal-requires-clause-digits : goal.scale_decimal-requires-clause-digits
scale_decimal-requires-clause-digits c =
    let n = number-le_digits c.args.mantissa.now 26 c.requires.digits in
    omega arith

pub scale_decimal-requires-clause-places : goal.scale_decimal-requires-clause-places
scale_decimal-requires-clause-places c =
    let n = behind_digits c.args.mantissa.now c.behind.result.now (suc c.point_place.result) c.requires.digits c.behind.ensures in
    let e = c.digit_count-places.ensures in
    omega (arith, ints)
