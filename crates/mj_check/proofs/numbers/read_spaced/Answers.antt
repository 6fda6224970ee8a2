use Rattle.std.proofs.Common.{refl}
use Rattle.mj_reading.specs.Reading.{IsRaw}
use Rattle.mj_reading.proofs.ReadingLaws.{read-as, read-then}
use Rattle.mj_check.proofs.numbers.read_spaced.Goals as goal

pub returns : goal.returns
returns c = read-as (λ n. (tt, n)) c.number.result refl (λ w. refl) (λ w b. (tt, b)) (λ x. x.1) (λ w s. s.1) (read-then (λ _ n. IsRaw n) c.word.ensures c.number.ensures (λ w behind b. tt) (λ w x s g. g))
