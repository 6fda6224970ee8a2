use Rattle.std.proofs.Common.{rules}
use Rattle.mj_cert.proofs.SolvedLaws.{row-fits}
use Rattle.mj_cert.proofs.slope.row_product.Goals as goal

pub plus_product-total-requires : goal.plus_product-total-requires
plus_product-total-requires c =
    let fits = row-fits c.args.dual.now c.args.forces.now c.args.i c.loop-k.k c.requires.solved c.requires.row c.loop-k-test.true in
    rw (c.as_slice-g.ensures, c.as_slice-u.ensures, c.loop-k.invariant) (search (rules, fits))
