use Rattle.fx_vec.specs.Vectors.{cross}
use Rattle.fx_vec.specs.Views.{mids, sums}
use Rattle.fx_vec.proofs.Fitting.{added_both}
use Rattle.fx_vec.proofs.Same.{same6}
use Rattle.fx_vec.proofs.spatial.force_cross_into.Goals as goal

pub returns-clause-mid : goal.returns-clause-mid
returns-clause-mid g c =
    let v = c.args.v.now in
    let f = c.args.f.now in
    same6 _ _
    (added_both (sums c.args.out.now.ang) (sums c.cross_into.new.out) (sums c.cross_into-2.new.out)
    (cross (mids v.ang) (mids f.ang)) (cross (mids v.lin) (mids f.lin))
    c.cross_into.ensures.mid c.cross_into-2.ensures.mid)
    c.cross_into-3.ensures.mid
