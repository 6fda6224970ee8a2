use Rattle.fx_vec.specs.Vectors.{cross, times}
use Rattle.fx_vec.specs.Spatial.{turned}
use Rattle.fx_vec.specs.Views.{mids, sums, inertia}
use Rattle.fx_vec.proofs.Fitting.{added_both, added_less}
use Rattle.fx_vec.proofs.Same.{same6}
use Rattle.fx_vec.proofs.inertia.momentum_into.Goals as goal

pub returns-clause-mid : goal.returns-clause-mid
returns-clause-mid g c =
    let i = inertia c.args.i.now in
    let s = c.args.s.now in
    same6 _ _
    (added_both (sums c.args.out.now.ang) (sums c.turned_into.new.out) (sums c.moment_into.new.out)
    (turned i (mids s.ang)) (cross i.moment (mids s.lin))
    c.turned_into.ensures.mid c.moment_into.ensures.mid)
    (added_less (sums c.args.out.now.lin) (sums c.mass_into.new.out) (sums c.moment_from.new.out)
    (times i.mass (mids s.lin)) (cross i.moment (mids s.ang))
    c.mass_into.ensures.mid c.moment_from.ensures.mid)
