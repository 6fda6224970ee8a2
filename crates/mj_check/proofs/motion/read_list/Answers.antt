use Rattle.std.proofs.Common.{refl}
use Rattle.mj_reading.specs.Reading.{Any}
use Rattle.mj_reading.proofs.ReadingLaws.{read-as, read-then}
use Rattle.mj_types.specs.Duals.{wide_at}
use Rattle.mj_check.specs.Lines.{AreWide}
use Rattle.mj_check.proofs.motion.read_list.Goals as goal

pub returns-clause-read : goal.returns-clause-read
returns-clause-read c =
    let p = read-then (λ _ f. AreWide c.args.n f) c.word.ensures c.read_numbers.ensures.read (λ w behind b. tt) (λ w x s g. g) in
    let q = read-then (λ _ u. Any u) p c.word-2.ensures (λ w behind b. refl) (λ w x s g. g) in
    read-as (λ f. ((tt, f), tt)) (wide_at c.read_numbers.new.out) refl (λ w. refl) (λ w h. ((tt, h), tt)) (λ x. x.0.1) (λ w s. s.0.1) q
