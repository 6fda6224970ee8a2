use Rattle.std.proofs.Common.{refl, ◌≡◌}
use Rattle.mj_check.specs.declared.header.Header.{Header}
use Rattle.mj_reading.specs.Reading.{IsBetween, Any}
use Rattle.mj_reading.proofs.ReadingLaws.{read-as, read-then}
use Rattle.mj_check.proofs.header.read_header.Goals as goal

same-header : {x w : Header} → x.format ≡ w.format → x.nq ≡ w.nq → x.nv ≡ w.nv → x.steps ≡ w.steps → x ≡ w
same-header a b c d = λ i. record { format = a i; nq = b i; nv = c i; steps = d i }

pub returns : goal.returns
returns c =
    let p = read-then (λ _ n. IsBetween 1 128 n) c.labelled-format.ensures c.labelled-nq.ensures (λ w behind b. refl) (λ w x s g. g) in
    let q = read-then (λ _ n. IsBetween 1 64 n) p c.labelled-nv.ensures (λ w behind b. refl) (λ w x s g. g) in
    let r = read-then (λ _ n. IsBetween 0 1000000 n) q c.labelled-steps.ensures (λ w behind b. refl) (λ w x s g. g) in
    let s = read-then (λ _ u. Any u) r c.word.ensures (λ w behind b. refl) (λ w x s g. g) in
    read-as (λ h. ((((h.format, h.nq), h.nv), h.steps), tt)) (record { format = c.labelled-format.result; nq = c.labelled-nq.result; nv = c.labelled-nv.result; steps = c.labelled-steps.result }) refl (λ w. refl)
    (λ w h. ((((h.format, h.nq), h.nv), h.steps), tt))
    (λ x. record { format = x.0.0.0.0; nq = x.0.0.0.1; nv = x.0.0.1; steps = x.0.1 })
    (λ w e. same-header e.0.0.0.0 e.0.0.0.1 e.0.0.1 e.0.1) s
