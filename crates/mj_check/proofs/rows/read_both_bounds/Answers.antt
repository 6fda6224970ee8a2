use Rattle.std.proofs.Common.{refl}
use Rattle.mj_reading.proofs.ReadingLaws.{read-as, read-then}
use Rattle.mj_check.specs.Rows.{IsBound, raw_bound}
use Rattle.mj_check.proofs.BoundLaws.{bound-before, same-bounds}
use Rattle.mj_check.proofs.rows.read_both_bounds.Goals as goal

pub returns : goal.returns
returns c =
    let p = read-then (λ _ x. IsBound x) c.word.ensures c.read_bound-low.ensures (λ w behind b. tt) (λ w x s g. g) in
    let q = read-then (λ _ x. IsBound x) p c.read_bound-high.ensures (λ w behind b. bound-before (raw_bound w) behind) (λ w x s g. g) in
    read-as (λ x. ((tt, x.low), x.high)) (record { low = c.read_bound-low.result; high = c.read_bound-high.result }) refl (λ w. refl)
    (λ w h. ((tt, h.0), h.1)) (λ x. (x.0.1, x.1)) (λ w e. same-bounds e.0.1 e.1) q
