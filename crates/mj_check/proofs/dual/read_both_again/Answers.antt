use Rattle.std.proofs.Common.{refl}
use Rattle.mj_reading.specs.Reading.{Any}
use Rattle.mj_reading.proofs.ReadingLaws.{read-as, read-then}
use Rattle.mj_check.specs.Rows.{raw_bound}
use Rattle.mj_check.proofs.BoundLaws.{bound-before}
use Rattle.mj_check.proofs.dual.read_both_again.Goals as goal

pub returns : goal.returns
returns c = read-as (λ u. (tt, tt)) tt refl (λ w. refl) (λ w b. (tt, tt)) (λ x. tt) (λ w s. refl) (read-then (λ _ u. Any u) c.read_known_bound.ensures c.read_known_bound-2.ensures (λ w behind b. bound-before (raw_bound c.args.known.now.high) behind) (λ w x s g. g))
