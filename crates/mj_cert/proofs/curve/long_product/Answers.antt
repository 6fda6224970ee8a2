use Rattle.std.proofs.Common.{◌^◌, arith, rules}
use Rattle.mj_cert.proofs.CurveLaws.{words}
use Rattle.mj_cert.proofs.curve.long_product.Goals as goal

pub returns : goal.returns
returns c =
    let x = c.half_product-low.result in
    let whole = words (2 ^ 64) c.args.k c.args.h x c.half_product-high.result (search rules) (search rules) (omega arith) (omega arith) in
    search (rules, whole)
