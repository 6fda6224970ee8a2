use Rattle.std.proofs.Common.{rules, to_z, of_z}
use mir.Syntax.{w128}
use Rattle.fx_whole.specs.Roots.{IsRoot}
use Rattle.fx_whole.proofs.RootLaws.{isqrt-unique}
use Rattle.fx_whole.proofs.roots.isqrt.Goals as goal

pub returns-clause-value : goal.returns-clause-value
returns-clause-value c =
    let root : IsRoot c.args.n (to_z w128 (of_z w128 c.isqrt.result)) = search rules in
    isqrt-unique c.args.n (to_z w128 (of_z w128 c.isqrt.result)) root

pub returns-then-is_root-clause-value : goal.returns-then-is_root-clause-value
returns-then-is_root-clause-value c =
    let root : IsRoot c.args.n (to_z w128 (of_z w128 c.from.result)) = search rules in
    isqrt-unique c.args.n (to_z w128 (of_z w128 c.from.result)) root

pub returns-then-is_root-2-clause-value : goal.returns-then-is_root-2-clause-value
returns-then-is_root-2-clause-value c =
    let root : IsRoot c.args.n (to_z w128 (of_z w128 c.from-then-is_root-2.result)) = search rules in
    isqrt-unique c.args.n (to_z w128 (of_z w128 c.from-then-is_root-2.result)) root
