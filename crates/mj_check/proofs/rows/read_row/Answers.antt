use Rattle.std.proofs.Common.{refl, IfSome}
use Rattle.mj_reading.specs.Reading.{Any}
use Rattle.mj_reading.proofs.ReadingLaws.{read-as, read-then}
use Rattle.mj_check.specs.Rows.{IsTold}
use Rattle.mj_check.specs.Sources.{IsSource}
use Rattle.mj_check.proofs.RowLaws.{rest-before, same-row}
use Rattle.mj_check.proofs.rows.read_row.Goals as goal

pub returns : goal.returns
returns c =
    let p = read-then (λ _ u. Any u) c.numbered.ensures c.word.ensures (λ w behind b. refl) (λ w x s g. g) in
    let q = read-then (λ _ x. IsSource c.args.bounds x) p c.read_source-source.ensures (λ w behind b. tt) (λ w x s g. g) in
    let r = read-then (λ _ x. IfSome x (IsTold c.args.bounds)) q c.read_rest-told.ensures (λ w behind b. rest-before c.args.bounds w behind) (λ w x s g. g) in
    let s = read-then (λ _ u. Any u) r c.word-2.ensures (λ w behind b. refl) (λ w x s g. g) in
    read-as (λ x. ((((tt, tt), x.source), x.told), tt)) (record { source = c.read_source-source.result; told = c.read_rest-told.result }) refl (λ w. refl)
    (λ w h. ((((tt, tt), h.source), h.told), tt)) (λ x. record { source = x.0.0.1; told = x.0.1 })
    (λ w e. same-row e.0.0.1 e.0.1) s
