use Rattle.std.proofs.Common.{refl}
use Rattle.mj_reading.specs.Reading.{IsOptional}
use Rattle.mj_reading.proofs.ReadingLaws.{read-as, read-then}
use Rattle.mj_check.proofs.BoundLaws.{bound-told}
use Rattle.mj_check.proofs.rows.read_bound.Goals as goal

pub returns : goal.returns
returns c = read-as (λ x. (tt, x)) c.optional_number.result refl bound-told (λ w b. (tt, b)) (λ x. x.1) (λ w s. s.1) (read-then (λ _ x. IsOptional x) c.word.ensures c.optional_number.ensures (λ w behind b. tt) (λ w x s g. g))
