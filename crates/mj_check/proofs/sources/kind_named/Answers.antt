use Rattle.std.proofs.Common.{◌≡◌, ◌∙◌, Bool, length, find, refl, sym, ap, arith}
use Rattle.std.specs.Str.{bytes_eq}
use Rattle.mj_types.specs.declared.range.Quantity.{Quantity}
use Rattle.mj_types.specs.declared.range.Quantity.TheVariants as kind
use Rattle.mj_types.specs.Ranges.{quantity_name}
use Rattle.mj_check.proofs.KindLaws.{found-at, found-past}
use Rattle.mj_check.proofs.sources.kind_named.Goals as goal

pub loop-kind-init : goal.loop-kind-init
loop-kind-init c = refl

pub returns-then-is_named : goal.returns-then-is_named
returns-then-is_named c =
    let p : Quantity → Bool = λ k. bytes_eq c.args.text.now (quantity_name k) in
    let n : length c.kinds-kind-items.result ≡ 34 = ap length c.kinds-kind-items.ensures in
    sym (found-at p kind.QuatNorm c.kinds-kind-items.result c.loop-kind.kind-index (omega arith) c.if-is_named.ensures) ∙ sym c.loop-kind.invariant ∙ ap (find p) c.kinds-kind-items.ensures

pub loop-kind-preserved : goal.loop-kind-preserved
loop-kind-preserved c =
    let p : Quantity → Bool = λ k. bytes_eq c.args.text.now (quantity_name k) in
    let n : length c.kinds-kind-items.result ≡ 34 = ap length c.kinds-kind-items.ensures in
    c.loop-kind.invariant ∙ found-past p kind.QuatNorm c.kinds-kind-items.result c.loop-kind.kind-index (omega arith) c.if-is_named.ensures
