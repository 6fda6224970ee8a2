use Rattle.std.proofs.Common.{rules, sym}
use Rattle.mj_cert.proofs.SolvedLaws.{squares-fit, pulled-fits, cost-fits, cost-is}
use Rattle.mj_cert.proofs.cost.cost_of.Goals as goal

pub plus-requires : goal.plus-requires
plus-requires c =
    let d = c.args.dual.now in
    let x = c.args.forces.now in
    let fits = squares-fit d x c.requires.solved in
    rw (c.squares-squares.ensures, c.weights-weights.ensures) (search (rules, fits))

pub double-requires : goal.double-requires
double-requires c =
    let d = c.args.dual.now in
    let x = c.args.forces.now in
    rw c.pulls-pulls.ensures (pulled-fits d x c.requires.solved)

pub plus-requires-2 : goal.plus-requires-2
plus-requires-2 c =
    let d = c.args.dual.now in
    let x = c.args.forces.now in
    let fits = cost-fits d x c.requires.solved in
    rw (c.plus.ensures, c.double.ensures, c.squares-squares.ensures, c.weights-weights.ensures, c.pulls-pulls.ensures) (search (rules, fits))

pub returns : goal.returns
returns c =
    let d = c.args.dual.now in
    let x = c.args.forces.now in
    rw (c.plus-2.ensures, c.plus.ensures, c.double.ensures, c.squares-squares.ensures, c.weights-weights.ensures, c.pulls-pulls.ensures) (sym (cost-is d x c.requires.solved))
