use Rattle.std.proofs.Common.{refl, ◌^◌, ◌-◌, drop}
use Rattle.mj_optimum.specs.declared.stop.Stop.TheVariants as stop
use Rattle.mj_trace.specs.Block.{stop_text}
use Rattle.mj_reading.specs.Reading.{Any, IsBetween}
use Rattle.mj_reading.proofs.ReadingLaws.{read-then, read-case}
use Rattle.mj_check.specs.Lines.{IsStop}
use Rattle.mj_check.proofs.StopLaws.{tolerance-only, limit-only}
use Rattle.mj_check.proofs.closing.read_sweeps.Goals as goal

pub returns-then-begins : goal.returns-then-begins
returns-then-begins c =
    let p = read-then (λ _ n. IsBetween 1 (2 ^ 127 - 1) n) c.word.ensures c.number_from_one.ensures (λ w behind b. tt) (λ w x s g. g) in
    let q = read-then (λ _ u. Any u) p c.word-then-begins.ensures (λ w behind b. refl) (λ w x s g. g) in (
      stop.Tolerance c.number_from_one.result,
      read-case (IsStop c.args.m) stop_text (λ a. stop.Tolerance a.0.1) (λ a. refl) (λ a h. (c.requires, h.0.1))
          (tolerance-only c.args.m c.args.scan.now.rest (drop 15 c.args.scan.now.rest) c.requires (c.begins.ensures.yes c.if-begins.true)) (λ a e. tt) q,
    )

pub returns-else-begins : goal.returns-else-begins
returns-else-begins c =
    let p = read-then (λ _ n. IsBetween 1 (2 ^ 127 - 1) n) c.word-else-begins.ensures c.number_from_one-else-begins.ensures (λ w behind b. tt) (λ w x s g. g) in
    let q = read-then (λ _ u. Any u) p c.word-else-begins-2.ensures (λ w behind b. refl) (λ w x s g. g) in (
      stop.Limit c.number_from_one-else-begins.result,
      read-case (IsStop c.args.m) stop_text (λ a. stop.Limit a.0.1) (λ a. refl) (λ a h. (c.requires, h.0.1))
          (limit-only c.args.m c.args.scan.now.rest c.requires (λ r e. let t = c.begins.ensures.only r e in absurd cc)) (λ a e. tt) q,
    )
