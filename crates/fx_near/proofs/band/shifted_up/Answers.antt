use Rattle.std.proofs.Common.{arith}
use Rattle.fx_near.proofs.RadiusLaws.{mask_small, masked_small, shifted_parts}
use Rattle.fx_near.proofs.band.shifted_up.Goals as goal

pub overflow_add-low : goal.overflow_add-low
overflow_add-low c = omega (arith, masked_small c.args.a c.args.shift c.requires, masked_small c.args.b c.args.shift c.requires)

pub overflow_add-low-2 : goal.overflow_add-low-2
overflow_add-low-2 c = omega (arith, masked_small c.args.a c.args.shift c.requires, masked_small c.args.b c.args.shift c.requires, mask_small c.args.shift c.requires)

pub returns : goal.returns
returns c = shifted_parts c.args.a c.args.b c.args.shift c.saturating_add.result c.saturating_add-2.result c.requires c.saturating_add.ensures c.saturating_add-2.ensures
