use Rattle.fx_vec.specs.Vectors.{cross}
use Rattle.fx_vec.specs.Views.{mids, sums}
use Rattle.fx_vec.proofs.Fitting.{added_both}
use Rattle.fx_vec.proofs.Same.{same6}
use Rattle.fx_vec.proofs.spatial.motion_cross_into.Goals as goal

pub returns-clause-mid : goal.returns-clause-mid
returns-clause-mid g c =
    let v = c.args.v.now in
    let s = c.args.s.now in
    same6 _ _ c.cross_into.ensures.mid
    (added_both (sums c.args.out.now.lin) (sums c.cross_into-2.new.out) (sums c.cross_into-3.new.out)
    (cross (mids v.lin) (mids s.ang)) (cross (mids v.ang) (mids s.lin))
    c.cross_into-2.ensures.mid c.cross_into-3.ensures.mid)
