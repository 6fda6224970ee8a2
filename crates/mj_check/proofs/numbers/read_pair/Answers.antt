use Rattle.std.proofs.Common.{refl, ap₂}
use Rattle.mj_reading.specs.Reading.{Any, IsRaw}
use Rattle.mj_reading.proofs.ReadingLaws.{read-as, read-then}
use Rattle.mj_check.proofs.numbers.read_pair.Goals as goal

pub returns : goal.returns
returns c =
    let p = read-then (λ _ n. IsRaw n) c.word.ensures c.number-first.ensures (λ w behind b. tt) (λ w x s g. g) in
    let q = read-then (λ _ u. Any u) p c.word-2.ensures (λ w behind b. refl) (λ w x s g. g) in
    let r = read-then (λ _ n. IsRaw n) q c.number-second.ensures (λ w behind b. tt) (λ w x s g. g) in
    let s = read-then (λ _ u. Any u) r c.word-3.ensures (λ w behind b. refl) (λ w x s g. g) in
    read-as (λ x. ((((tt, x.first), tt), x.second), tt)) (record { first = c.number-first.result; second = c.number-second.result }) refl (λ w. refl)
    (λ w h. ((((tt, h.first), tt), h.second), tt))
    (λ x. record { first = x.0.0.0.1; second = x.0.1 })
    (λ w e. ap₂ (λ a b. record { first = a; second = b }) e.0.0.0.1 e.0.1) s
