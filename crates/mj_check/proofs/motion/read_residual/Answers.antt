use Rattle.std.proofs.Common.{refl}
use Rattle.mj_reading.specs.Reading.{Any, IsRaw}
use Rattle.mj_reading.proofs.ReadingLaws.{read-as, read-then}
use Rattle.mj_check.proofs.motion.read_residual.Goals as goal

pub returns : goal.returns
returns c =
    let p = read-then (λ _ x. IsRaw x) c.word.ensures c.number-residual.ensures (λ w behind b. tt) (λ w x s g. g) in
    let q = read-then (λ _ u. Any u) p c.word-2.ensures (λ w behind b. refl) (λ w x s g. g) in
    read-as (λ x. ((tt, x), tt)) c.number-residual.result refl (λ w. refl) (λ w h. ((tt, h), tt)) (λ x. x.0.1) (λ w s. s.0.1) q
