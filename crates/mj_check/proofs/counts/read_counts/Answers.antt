use Rattle.std.proofs.Common.{refl, ◌≡◌, sym, subst}
use Rattle.mj_check.specs.declared.counts.Counts.{Counts}
use Rattle.mj_reading.specs.Reading.{IsBetween, Any}
use Rattle.mj_reading.proofs.ReadingLaws.{read-as, read-then}
use Rattle.mj_check.proofs.counts.read_counts.Goals as goal

same-counts : {x w : Counts} → x.rows ≡ w.rows → x.idle ≡ w.idle → x ≡ w
same-counts a b = λ i. record { rows = a i; idle = b i }

pub returns : goal.returns
returns c =
    let p = read-then (λ rows n. IsBetween 0 rows n) c.labelled-rows.ensures c.labelled-idle.ensures (λ w behind b. refl) (λ w x s g. subst (λ rows. IsBetween 0 rows x) (sym s) g) in
    let q = read-then (λ _ u. Any u) p c.word.ensures (λ w behind b. refl) (λ w x s g. g) in
    read-as (λ h. ((h.rows, h.idle), tt)) (record { rows = c.labelled-rows.result; idle = c.labelled-idle.result }) refl (λ w. refl)
    (λ w h. ((h.rows, h.idle), tt)) (λ x. record { rows = x.0.0; idle = x.0.1 }) (λ w e. same-counts e.0.0 e.0.1) q
