use Rattle.std.proofs.Common.{arith, ◌<◌, ◌^◌}
use Rattle.fx_near.proofs.RadiusLaws.{raised_small}
use Rattle.fx_near.proofs.band.raised.Goals as goal

pub returns-clause-bound : goal.returns-clause-bound
returns-clause-bound c =
    let r : c.args.radius < 2 ^ 64 = omega arith in
    rw c.from.ensures (raised_small c.args.radius c.args.shift r c.requires)
