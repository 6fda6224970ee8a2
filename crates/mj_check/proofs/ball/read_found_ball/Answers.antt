use Rattle.std.proofs.Common.{refl}
use Rattle.mj_reading.specs.Reading.{Any, IsRaw}
use Rattle.mj_reading.proofs.ReadingLaws.{read-as, read-then}
use Rattle.mj_check.proofs.BallLaws.{same-ball}
use Rattle.mj_check.proofs.ball.read_found_ball.Goals as goal

pub returns : goal.returns
returns c =
    let p = read-then (λ _ n. IsRaw n) c.word.ensures c.number-shift.ensures (λ w behind b. tt) (λ w x s g. g) in
    let q = read-then (λ _ n. IsRaw n) p c.read_spaced-low.ensures (λ w behind b. refl) (λ w x s g. g) in
    let r = read-then (λ _ n. IsRaw n) q c.read_spaced-radius.ensures (λ w behind b. refl) (λ w x s g. g) in
    let s = read-then (λ _ u. Any u) r c.word-2.ensures (λ w behind b. refl) (λ w x s g. g) in
    read-as (λ x. ((((tt, x.shift), x.low), x.radius), tt)) (record { shift = c.number-shift.result; low = c.read_spaced-low.result; radius = c.read_spaced-radius.result }) refl (λ w. refl)
    (λ w h. ((((tt, h.shift), h.low), h.radius), tt)) (λ x. record { shift = x.0.0.0.1; low = x.0.0.1; radius = x.0.1 })
    (λ w e. same-ball e.0.0.0.1 e.0.0.1 e.0.1) s
