use Rattle.std.proofs.Common.{arith}
use Rattle.mj_tree.proofs.ListingLaws.{start_more, height_le}
use Rattle.mj_types.specs.Forests.{above_in}
use Rattle.mj_factor.proofs.lists.height.Goals as goal

pub overflow_sub-result : goal.overflow_sub-result
overflow_sub-result c = omega (arith, start_more (above_in c.args.model.now) c.args.k)

pub returns-clause-height : goal.returns-clause-height
returns-clause-height c = omega (arith, start_more (above_in c.args.model.now) c.args.k)

pub returns-clause-small : goal.returns-clause-small
returns-clause-small c =
    omega (arith, start_more (above_in c.args.model.now) c.args.k, height_le (above_in c.args.model.now) c.args.k)
