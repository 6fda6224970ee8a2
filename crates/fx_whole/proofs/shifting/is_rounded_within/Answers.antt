use Rattle.std.proofs.Common.{unsigned_abs, rules, SFits}
use Rattle.std.proofs.lemmas.Int.{to_z-of_z}
use mir.Syntax.{w128}
use Rattle.fx_whole.proofs.ShiftLaws.{within_by_size}
use Rattle.fx_whole.proofs.shifting.is_rounded_within.Goals as goal

pub returns-clause-within : goal.returns-clause-within
returns-clause-within c =
    let g : SFits w128 c.greatest_within.result = search rules in
    let b = simp to_z-of_z at c.is_between.ensures in
    λ h. (within_by_size c.args.n.now c.args.shift (unsigned_abs c.args.limit.now) (unsigned_abs c.greatest_within.result) c.greatest_within.ensures.value).0 (b.0 h)

pub returns-clause-whole : goal.returns-clause-whole
returns-clause-whole c =
    let g : SFits w128 c.greatest_within.result = search rules in
    let b = simp to_z-of_z at c.is_between.ensures in
    λ h. b.1 ((within_by_size c.args.n.now c.args.shift (unsigned_abs c.args.limit.now) (unsigned_abs c.greatest_within.result) c.greatest_within.ensures.value).1 h)
