use Rattle.std.proofs.Common.{refl}
use Rattle.mj_reading.specs.Reading.{IsBetween}
use Rattle.mj_reading.proofs.ReadingLaws.{read-as, read-then}
use Rattle.mj_reading.proofs.scan.Scan.labelled.Goals as goal

pub returns : goal.returns
returns c = read-as (λ n. (tt, n)) c.count.result refl (λ w. refl) (λ w b. (tt, b)) (λ x. x.1) (λ w s. s.1) (read-then (λ _ n. IsBetween c.args.least c.args.most n) c.word.ensures c.count.ensures (λ w behind b. tt) (λ w x s g. g))
