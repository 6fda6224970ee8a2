use Rattle.std.proofs.Common.{rules}
use Rattle.mj_cert.proofs.SolvedLaws.{pull-fits}
use Rattle.mj_cert.proofs.cost.pulls.Goals as goal

pub plus_product-total-requires : goal.plus_product-total-requires
plus_product-total-requires c =
    let fits = pull-fits c.args.dual.now c.args.forces.now c.loop-i.i c.requires.solved c.loop-i-test.true in
    rw (c.as_slice-b.ensures, c.as_slice-f.ensures, c.loop-i.invariant) (search (rules, fits))
