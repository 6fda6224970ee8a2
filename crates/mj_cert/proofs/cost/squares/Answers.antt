use Rattle.std.proofs.Common.{rules}
use Rattle.mj_cert.proofs.SolvedLaws.{square-fits}
use Rattle.mj_cert.proofs.cost.squares.Goals as goal

pub plus_product-total-requires : goal.plus_product-total-requires
plus_product-total-requires c =
    let fits = square-fits c.args.dual.now c.args.forces.now c.loop-k.k c.requires.solved c.loop-k-test.true in
    rw (c.as_slice-u.ensures, c.loop-k.invariant) (search (rules, fits))
