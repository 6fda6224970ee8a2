use Rattle.std.proofs.Common.{◌≡◌, rules}
use Rattle.mj_cert.specs.Terms.{weight_term}
use Rattle.mj_cert.proofs.SolvedLaws.{weight-fits, weights-fit}
use Rattle.mj_cert.proofs.cost.weights.Goals as goal

pub weight-requires : goal.weight-requires
weight-requires c =
    let fits = weight-fits c.args.dual.now c.args.forces.now c.loop-i.i c.requires.solved c.loop-i-test.true in
    rw (c.as_slice-r.ensures, c.as_slice-f.ensures) fits

pub plus-total-requires : goal.plus-total-requires
plus-total-requires c =
    let d = c.args.dual.now in
    let x = c.args.forces.now in
    let fits = weights-fit d x c.loop-i.i c.requires.solved c.loop-i-test.true in
    let term : c.weight.result.raw ≡ weight_term d x c.loop-i.i = rw (c.as_slice-r.ensures, c.as_slice-f.ensures) at c.weight.ensures in
    rw (term, c.loop-i.invariant) (search (rules, fits))
