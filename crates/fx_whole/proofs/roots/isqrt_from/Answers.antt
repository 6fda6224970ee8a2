use Rattle.std.proofs.Common.{rules, to_z, of_z}
use mir.Syntax.{w128}
use Rattle.fx_whole.specs.Roots.{IsRoot}
use Rattle.fx_whole.proofs.RootLaws.{isqrt-unique}
use Rattle.fx_whole.proofs.roots.isqrt_from.Goals as goal

pub returns-then-is_root : goal.returns-then-is_root
returns-then-is_root c =
    let root : IsRoot c.args.n.now (to_z w128 (of_z w128 c.from.result)) = search rules in
    isqrt-unique c.args.n.now (to_z w128 (of_z w128 c.from.result)) root
