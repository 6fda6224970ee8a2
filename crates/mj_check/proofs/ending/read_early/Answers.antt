use Rattle.std.proofs.Common.{refl, ◌^◌, ◌-◌, ◌+◌}
use Rattle.mj_trace.specs.Trace.{end_text}
use Rattle.mj_reading.specs.Reading.{Any, IsBetween}
use Rattle.mj_reading.proofs.ReadingLaws.{read-then, read-case}
use Rattle.mj_check.specs.Lines.{IsEnd}
use Rattle.mj_check.specs.Sources.{IsKind}
use Rattle.mj_check.proofs.EndLaws.{end_early, early-text, early-only, is-early}
use Rattle.mj_check.proofs.ending.read_early.Goals as goal

pub returns : goal.returns
returns c =
    let p = read-then (λ _ u. Any u) c.numbered.ensures c.word.ensures (λ w behind b. refl) (λ w x s g. g) in
    let q = read-then (λ _ k. IsKind k) p c.read_kind.ensures (λ w behind b. tt) (λ w x s g. g) in
    let i = read-then (λ _ n. IsBetween 1 (2 ^ 127 - 1) n) c.word-2.ensures c.number_from_one.ensures (λ w behind b. tt) (λ w x s g. g) in
    let r = read-then (λ _ x. Any x.0 × IsBetween 1 (2 ^ 127 - 1) x.1) q i (λ w behind b. refl) (λ w x s g. g) in
    let s = read-then (λ _ u. Any u) r c.word-3.ensures (λ w behind b. refl) (λ w x s g. g) in
    (end_early c.args.count ((((tt, tt), c.read_kind.result), (tt, c.number_from_one.result)), tt), read-case (IsEnd c.args.count c.args.steps) end_text (end_early c.args.count) (λ a. early-text (c.args.count + 1) a.0.0.1 a.0.1.1) (λ a h. is-early c.args.count c.args.steps c.requires a h) (λ w behind h e. early-only c.args.count c.args.steps c.requires w h) (λ a e. tt) s)
