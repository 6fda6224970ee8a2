use Rattle.std.proofs.Common.{◌≡◌, pos, arith}
use Rattle.std.proofs.lemmas.Int.{ints}
use Rattle.fx_text.proofs.Sizes.{pow_ten-lt, pow_ten-pos}
use Rattle.fx_text.proofs.decimal.quotient.Goals as goal

pub pow-divisor-requires : goal.pow-divisor-requires
pow-divisor-requires c = omega (arith, pow_ten-lt c.args.k c.requires.within)

pub apply_sign-requires-2 : goal.apply_sign-requires-2
apply_sign-requires-2 c = omega (arith, pow_ten-lt c.args.k c.requires.within)

pub nearest-requires : goal.nearest-requires
nearest-requires c =
    let e : c.apply_sign-2.result ≡ pos c.pow-divisor.result = c.apply_sign-2.ensures in
    let h = pow_ten-lt c.args.k c.requires.within in
    let p = pow_ten-pos c.args.k in
    omega (arith, ints)
