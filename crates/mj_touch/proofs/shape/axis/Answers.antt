use Rattle.std.proofs.Common.{sym, subst}
use Rattle.fx_vec.specs.Quaternions.{quaternion}
use Rattle.mj_touch.specs.Solids.{IsDirection}
use Rattle.mj_touch.proofs.AxisLaws.{unit-within, axis-sharp}
use Rattle.mj_touch.proofs.shape.axis.Goals as goal

pub third_column-requires : goal.third_column-requires
third_column-requires c = unit-within (quaternion c.args.turn.now) c.requires

pub returns-clause-size : goal.returns-clause-size
returns-clause-size c = subst IsDirection (sym c.third_column.ensures) (axis-sharp (quaternion c.args.turn.now) c.requires)
