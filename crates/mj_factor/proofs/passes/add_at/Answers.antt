use Rattle.std.proofs.Common.{unsigned_abs, arith}
use Rattle.mj_types.specs.Duals.{wide_at}
use Rattle.mj_factor.proofs.ScatterLaws.{sum_fits}
use Rattle.mj_factor.proofs.passes.add_at.Goals as goal

pub plus_product-requires : goal.plus_product-requires
plus_product-requires c =
    let sum = rw (← c.named-i.ensures.listed) at c.requires.sum in
    let fits = sum_fits (unsigned_abs (wide_at c.args.sums.now c.named-i.result)) (unsigned_abs c.entry_of.result.now.mid) (unsigned_abs c.args.y.now.mid) sum c.entry_of.ensures.small c.requires.number in
    (omega arith, (omega arith, (omega arith, fits)))
