use Rattle.mj_kin.specs.Working.{pose_of}
use Rattle.mj_kin.proofs.PlaceLaws.{set_more}
use Rattle.mj_kin.proofs.geoms.place_geom.Goals as goal

pub returns-clause-set : goal.returns-clause-set
returns-clause-set c =
    set_more c.args.model.now c.args.state.now c.args.g (pose_of c.in_ok-frame.frame) c.args.gpos.now c.write_geom.new.pos c.args.gquat.now c.write_geom.new.quat
    c.write_geom.ensures.pose c.write_geom.ensures.others c.in_ok-frame.ensures.pose c.in_ok-frame.ensures.near c.in_ok-frame.ensures.unit c.requires.set
