use Rattle.std.proofs.Common.{refl}
use Rattle.mj_reading.specs.Reading.{Any, NoNumber}
use Rattle.mj_reading.proofs.ReadingLaws.{read-as, read-then, read-any}
use Rattle.mj_check.proofs.DualLaws.{mark-before}
use Rattle.mj_check.proofs.dual.read_head.Goals as goal

pub returns : goal.returns
returns c =
    let p = read-then (λ _ u. Any u) c.numbered.ensures c.numbered-2.ensures (λ w behind b. refl) (λ w x s g. g) in
    let q = read-then {Q = NoNumber} (λ _ u. Any u) p (read-any c.read_mark.ensures) (λ w behind b. mark-before c.args.bounds behind b) (λ w x s g. g) in
    let r = read-then (λ _ u. Any u) q c.word.ensures (λ w behind b. refl) (λ w x s g. g) in
    read-as (λ u. (((tt, tt), tt), tt)) tt refl (λ w. refl) (λ w b. (((tt, tt), tt), tt)) (λ x. tt) (λ w s. refl) r
