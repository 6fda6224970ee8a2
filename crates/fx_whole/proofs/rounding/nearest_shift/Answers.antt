use Rattle.std.proofs.Common.{◌≡◌, ◌^◌, pos, rules, sym, subst, to_z, of_z}
use mir.Syntax.{w128}
use Rattle.fx_whole.specs.Nearest.{nearest, IsNearest}
use Rattle.fx_whole.proofs.NearestLaws.{nearest-is_nearest}
use Rattle.fx_whole.proofs.Powers.{pow_positive}
use Rattle.fx_whole.proofs.rounding.nearest_shift.Goals as goal

pub returns-then-n-clause-property : goal.returns-then-n-clause-property
returns-then-n-clause-property c =
    let v : to_z w128 (of_z w128 c.nearest_by_half.result) ≡ nearest c.args.n (pos (2 ^ c.args.shift)) = search rules in
    subst (IsNearest c.args.n (pos (2 ^ c.args.shift))) (sym v) (nearest-is_nearest c.args.n (pos (2 ^ c.args.shift)) (pow_positive c.args.shift))

pub returns-else-shift-ge1-clause-property : goal.returns-else-shift-ge1-clause-property
returns-else-shift-ge1-clause-property c =
    let v : to_z w128 (of_z w128 c.nearest_shift_by_size.result) ≡ nearest c.args.n (pos (2 ^ c.args.shift)) = search rules in
    subst (IsNearest c.args.n (pos (2 ^ c.args.shift))) (sym v) (nearest-is_nearest c.args.n (pos (2 ^ c.args.shift)) (pow_positive c.args.shift))
