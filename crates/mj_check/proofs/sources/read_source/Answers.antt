use Rattle.std.proofs.Common.{refl, ◌^◌, ◌-◌, sym, subst}
use Rattle.mj_reading.specs.Reading.{Any, IsBetween}
use Rattle.mj_reading.proofs.ReadingLaws.{read-as-good, read-then}
use Rattle.mj_check.specs.Sources.{IsEdge}
use Rattle.mj_check.proofs.SourceLaws.{edge-before, same-source, source-told}
use Rattle.mj_check.proofs.sources.read_source.Goals as goal

pub returns : goal.returns
returns c =
    let p = read-then (λ _ u. Any u) c.read_name-name.ensures c.word.ensures (λ w behind b. refl) (λ w x s g. g) in
    let q = read-then (λ _ n. IsBetween 1 (2 ^ 127 - 1) n) p c.number_from_one-number.ensures (λ w behind b. tt) (λ w x s g. g) in
    let r = read-then (λ s edge. IsEdge s.0.0 edge) q c.read_edge-edge.ensures (λ w behind b. edge-before w behind b) (λ w x s g. subst (λ n. IsEdge n x) (sym s.0.0) g) in
    read-as-good (λ x. (((x.name, tt), x.number), x.edge)) (record { name = c.read_name-name.result; number = c.number_from_one-number.result; edge = c.read_edge-edge.result }) refl
    (λ w h. source-told w.name w.number w.edge h.edge)
    (λ w h. (((h.name, tt), h.number), h.edge)) (λ x. record { name = x.0.0.0; number = x.0.1; edge = x.1 })
    (λ w e. same-source e.0.0.0 e.0.1 e.1) r
