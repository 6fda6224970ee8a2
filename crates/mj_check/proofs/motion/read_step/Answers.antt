use Rattle.std.proofs.Common.{refl}
use Rattle.mj_reading.specs.Reading.{Any}
use Rattle.mj_reading.proofs.ReadingLaws.{read-as, read-then}
use Rattle.mj_check.proofs.motion.read_step.Goals as goal

pub returns : goal.returns
returns c = read-as (λ u. (tt, tt)) tt refl (λ w. refl) (λ w b. (tt, tt)) (λ x. tt) (λ w s. refl) (read-then (λ _ u. Any u) c.numbered.ensures c.word.ensures (λ w behind b. refl) (λ w x s g. g))
