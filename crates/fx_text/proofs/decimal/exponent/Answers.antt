use Rattle.std.proofs.Common.{arith}
use Rattle.std.proofs.lemmas.Int.{ints}
use Rattle.fx_text.proofs.Sizes.{number-le_digits, signed-size}
use Rattle.fx_text.proofs.Exponent.{part_digits}
use Rattle.fx_text.proofs.decimal.exponent.Goals as goal

pub number-requires : goal.number-requires
number-requires c =
    let h = part_digits c.args.text.now c.behind-part.result.now _ c.requires c.mark_place.ensures.value c.behind-part.ensures in
    omega arith

pub apply_sign-requires : goal.apply_sign-requires
apply_sign-requires c =
    let h = part_digits c.args.text.now c.behind-part.result.now _ c.requires c.mark_place.ensures.value c.behind-part.ensures in
    let n = number-le_digits c.behind-part.result.now 2 h in
    omega arith

pub returns-clause-small : goal.returns-clause-small
returns-clause-small c =
    let h = part_digits c.args.text.now c.behind-part.result.now _ c.requires c.mark_place.ensures.value c.behind-part.ensures in
    let n = number-le_digits c.behind-part.result.now 2 h in
    let e = signed-size _ c.apply_sign.result _ c.apply_sign.ensures in
    omega (arith, ints)
