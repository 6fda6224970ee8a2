use Rattle.std.proofs.Common.{rules, arith, SFits, ◌≡◌, ◌-◌, ◌*◌, ◌^◌, ◌-ℤ◌, ◌*ℤ◌, unsigned_abs}
use Rattle.std.proofs.lemmas.Int.{ints, to_z-of_z}
use mir.Syntax.{w64, w128}
use Rattle.fx_near.proofs.RadiusLaws.{radius_from}
use Rattle.fx_near.proofs.quotient.radius_over.Goals as goal

pub returns : goal.returns
returns c =
    let whole : SFits w128 c.args.whole = c.ranges.whole in
    let mid : SFits w64 c.args.mid = c.ranges.mid in
    let b : SFits w64 c.args.b = c.ranges.b in
    let fits : SFits w128 c.product.result = search rules in
    let fits' : SFits w128 c.difference.result = search rules in
    let y = simp to_z-of_z at c.stretched.ensures.value in
    let z = simp to_z-of_z at c.unsigned_abs-rest.ensures.value in
    let difference = simp to_z-of_z at c.difference.ensures.value in
    let product = simp to_z-of_z at c.product.ensures.value in
    let size = simp to_z-of_z at c.unsigned_abs.ensures.value in
    let rest : c.unsigned_abs-rest.result ≡ unsigned_abs (c.args.whole -ℤ c.args.mid *ℤ c.args.b) = cc in
    let divisor : c.from.result ≡ unsigned_abs c.args.b - c.args.rb = cc in
    radius_from c.div_ceil.result c.raised.result c.stretched.result c.unsigned_abs-rest.result c.from.result (c.args.ra * 2 ^ c.args.shift) (unsigned_abs c.args.mid * c.args.rb) (unsigned_abs (c.args.whole -ℤ c.args.mid *ℤ c.args.b)) (unsigned_abs c.args.b - c.args.rb)
    c.div_ceil.ensures c.raised.ensures.value y rest divisor (omega (arith, ints))
