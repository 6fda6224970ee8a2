use Rattle.std.proofs.Common.{◌≡◌, refl, ap, ap₂, ◌++◌, ℤ, pos}
use Rattle.mj_io.proofs.Sent.{sent-then}
use Rattle.mj_types.specs.Parts.{plain}
use Rattle.mj_trace.specs.Lines.{spaced}
use Rattle.mj_trace.proofs.rows.send_force.Goals as goal

three : (a b x y p q : ℤ) → a ≡ x → b ≡ y → p ≡ q → (spaced a ++ spaced b) ++ spaced p ≡ (spaced x ++ spaced y) ++ spaced q
three a b x y p q e f h = ap₂ (λ s t. s ++ t) (ap₂ (λ s t. spaced s ++ spaced t) e f) (ap spaced h)

pub returns : goal.returns
returns g c =
    let f = ap (λ x. x.mid) (c.entry.ensures (plain (pos 0))) in
    let lo = ap (λ x. x.mid) (c.entry-2.ensures (plain (pos 0))) in
    let hi = ap (λ x. x.mid) (c.entry-3.ensures (plain (pos 0))) in
    sent-then (sent-then c.send_spaced.ensures c.send_spaced-2.ensures refl) c.send_spaced-3.ensures (three _ _ _ _ _ _ f lo hi)
