use Rattle.std.proofs.Common.{◌≡◌, ℤ, ◌≤◌, ◌*◌, ◌^◌, unsigned_abs, to_z, of_z, rules, ap, arith, mul-le-mul}
use mir.Syntax.{w128}
use Rattle.mj_kin.proofs.inertias.triple.Goals as goal

pub scaled-requires : goal.scaled-requires
scaled-requires c =
    let p : unsigned_abs c.weighted-first.result * unsigned_abs c.args.b.now.mid ≤ 2 ^ 86 * 2 ^ 33 = mul-le-mul c.weighted-first.ensures.size c.requires.b in
    let v : to_z w128 (of_z w128 c.weighted-first.result) ≡ c.weighted-first.result = search rules in
    omega (arith, p, ap (λ (n : ℤ). unsigned_abs n * unsigned_abs c.args.b.now.mid) v)

pub returns-clause-size : goal.returns-clause-size
returns-clause-size c =
    let p : unsigned_abs c.weighted-first.result * unsigned_abs c.args.b.now.mid ≤ 2 ^ 86 * 2 ^ 33 = mul-le-mul c.weighted-first.ensures.size c.requires.b in
    let v : to_z w128 (of_z w128 c.weighted-first.result) ≡ c.weighted-first.result = search rules in
    let w : to_z w128 (of_z w128 c.scaled.result) ≡ c.scaled.result = search rules in
    omega (arith, p, ap (λ (n : ℤ). unsigned_abs n * unsigned_abs c.args.b.now.mid) v, ap unsigned_abs w, c.scaled.ensures.size)
