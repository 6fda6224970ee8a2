use Rattle.std.proofs.Common.{refl, ap}
use Rattle.mj_reading.specs.Reading.{Any, IsRaw}
use Rattle.mj_reading.proofs.ReadingLaws.{read-as, read-then}
use Rattle.mj_check.specs.Lines.{AreWide, dual_told}
use Rattle.mj_check.proofs.DualLaws.{again-before, numbers-before}
use Rattle.mj_check.proofs.dual.read_dual_row.Goals as goal

pub returns-clause-read : goal.returns-clause-read
returns-clause-read c =
    let p = read-then (λ _ n. IsRaw n) c.numbered.ensures c.read_spaced-r.ensures (λ w behind b. refl) (λ w x s g. g) in
    let q = read-then (λ _ n. IsRaw n) p c.read_spaced-b.ensures (λ w behind b. refl) (λ w x s g. g) in
    let r = read-then (λ _ u. Any u) q c.read_bounds_again.ensures (λ w behind b. again-before c.args.bounds c.args.row.now.told.bounds behind b) (λ w x s g. g) in
    let n = read-then (λ _ u. Any u) c.read_numbers.ensures.read c.word.ensures (λ w behind b. refl) (λ w x s g. g) in
    let s = read-then (λ _ x. AreWide c.args.nv x.0 × Any x.1) r n (λ w behind b. numbers-before c.args.nv w.0 behind) (λ w x s g. g) in
    read-as (λ d. ((((tt, record { raw = d.r }), record { raw = d.b }), tt), (d.g, tt))) (dual_told (record { r = c.read_spaced-r.result; b = c.read_spaced-b.result }) c.read_numbers.new.out) refl (λ w. refl)
    (λ w h. ((((tt, h.r), h.b), tt), (h.g, tt)))
    (λ x. record { r = x.0.0.0.1; b = x.0.0.1; g = x.1.0 })
    (λ w e. record { r = ap (λ y. y.raw) e.0.0.0.1; b = ap (λ y. y.raw) e.0.0.1; g = e.1.0 }) s
