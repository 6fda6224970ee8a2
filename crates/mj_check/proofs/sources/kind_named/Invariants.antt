use Rattle.std.proofs.Common.{◌≡◌, drop, find}
use Rattle.std.specs.Str.{bytes_eq}
use Rattle.mj_types.specs.Ranges.{quantity_name}
use Rattle.mj_check.proofs.sources.kind_named.Given as goal

abbrev pub invariant-loop-kind : goal.invariant-loop-kind
invariant-loop-kind l = find (λ k. bytes_eq l.text (quantity_name k)) l.kind-items ≡ find (λ k. bytes_eq l.text (quantity_name k)) (drop l.kind-index l.kind-items)
