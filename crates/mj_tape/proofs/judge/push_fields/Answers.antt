use Rattle.std.proofs.Common.{inr, refl}
use Rattle.std.proofs.lemmas.Result.{err_from_is_err_and}
use Rattle.csv.specs.Records.{fields_of}
use Rattle.mj_tape.proofs.Fields.{bad_field-step, bad_field-here, controls-step, small-step}
use Rattle.mj_tape.proofs.judge.push_fields.Goals as goal

pub returns-in_err-value-clause-judged : goal.returns-in_err-value-clause-judged
returns-in_err-value-clause-judged c =
    let p = err_from_is_err_and c.from_residual.result c.from_residual.ensures.1 in
    let v = c.in_err-value.ensures in
    rw (p.1, p.2) (inr (bad_field-here c.args.number (fields_of c.args.fields.now) c.loop-column.column v.0 c.in_err-value.field-0.0 v.1 v.2 v.3 c.loop-column.invariant.0))

pub loop-column-preserved : goal.loop-column-preserved
loop-column-preserved c =
    let v = c.in_ok-value.ensures in
    let i = c.loop-column.invariant in
    let fields = fields_of c.args.fields.now in
    let grew = c.in_ok-push.ensures.ok in (
      bad_field-step c.args.number fields c.loop-column.column _ v.0 _ v.1 v.2 refl i.0,
      controls-step fields c.loop-column.column _ v.0 c.in_ok-value.value c.loop-column.values.items _ _ v.1 v.2 refl grew i.1,
      λ old. small-step v.0 c.in_ok-value.value c.loop-column.values.items _ v.2 grew (i.2 old),
    )
