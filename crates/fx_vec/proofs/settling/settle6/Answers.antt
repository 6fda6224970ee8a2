use Rattle.std.proofs.Common.{SFits}
use Rattle.std.proofs.lemmas.Int.{to_z-of_z}
use mir.Syntax.{w64}
use Rattle.fx_whole.proofs.FirstLaws.{pass_first}
use Rattle.fx_vec.proofs.settling.settle6.Goals as goal

pub returns-in-Ok-settle3-clause-within : goal.returns-in-Ok-settle3-clause-within
returns-in-Ok-settle3-clause-within g c =
    let limit : SFits w64 c.args.limit = c.ranges.limit in
    let ang = simp to_z-of_z at c.in-Ok.ensures.within in
    let lin = simp to_z-of_z at c.in-Ok-settle3.ensures.within in
    record { ang = ang; lin = lin }

pub returns-in-Ok-settle3-clause-first : goal.returns-in-Ok-settle3-clause-first
returns-in-Ok-settle3-clause-first g c =
    let limit : SFits w64 c.args.limit = c.ranges.limit in
    let ang = simp to_z-of_z at c.in-Ok.ensures.first in
    let lin = simp to_z-of_z at c.in-Ok-settle3.ensures.first in
    pass_first _ _ _ ang lin

pub returns-in-Err-settle3-clause-first : goal.returns-in-Err-settle3-clause-first
returns-in-Err-settle3-clause-first g c =
    let limit : SFits w64 c.args.limit = c.ranges.limit in
    let ang = simp to_z-of_z at c.in-Ok.ensures.first in
    let lin = simp to_z-of_z at c.in-Err-settle3.ensures.first in
    pass_first _ _ _ ang lin
