use Rattle.std.proofs.Common.{refl}
use Rattle.mj_reading.specs.Reading.{IsRaw}
use Rattle.mj_reading.proofs.ReadingLaws.{read-as, read-then}
use Rattle.mj_check.specs.Rows.{AreBounds}
use Rattle.mj_check.proofs.BoundLaws.{bounds-before}
use Rattle.mj_check.proofs.RowLaws.{same-told}
use Rattle.mj_check.proofs.rows.read_told.Goals as goal

pub returns : goal.returns
returns c =
    let p = read-then (λ _ n. IsRaw n) c.read_spaced-f.ensures c.read_spaced-lo.ensures (λ w behind b. refl) (λ w x s g. g) in
    let q = read-then (λ _ n. IsRaw n) p c.read_spaced-hi.ensures (λ w behind b. refl) (λ w x s g. g) in
    let r = read-then (λ _ x. AreBounds c.args.bounds x) q c.read_bounds-bounds.ensures (λ w behind b. bounds-before c.args.bounds w behind b) (λ w x s g. g) in
    read-as (λ x. (((x.f, x.lo), x.hi), x.bounds)) (record { f = c.read_spaced-f.result; lo = c.read_spaced-lo.result; hi = c.read_spaced-hi.result; bounds = c.read_bounds-bounds.result }) refl (λ w. refl)
    (λ w h. (((h.force, h.lo), h.hi), h.bounds)) (λ x. record { force = x.0.0.0; lo = x.0.0.1; hi = x.0.1; bounds = x.1 })
    (λ w e. same-told e.0.0.0 e.0.0.1 e.0.1 e.1) r
