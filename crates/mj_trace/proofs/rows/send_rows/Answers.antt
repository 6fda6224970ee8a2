use Rattle.std.proofs.Common.{◌+◌, ℕ, not, cond, length, arith, refl, sym, ap, ap₂, ◌∙◌}
use Rattle.mj_trace.proofs.Joining.{sent-begun, sent-joined, sent-whole}
use Rattle.mj_types.specs.StepValues.{is_active, no_row}
use Rattle.fx_whole.proofs.CountLaws.{count_to-size}
use Rattle.fx_whole.proofs.SumLaws.{sum_ℕ_to-more}
use Rattle.mj_trace.specs.Reports.{report_row}
use Rattle.mj_trace.proofs.rows.send_rows.Goals as goal

pub loop-i-init : goal.loop-i-init
loop-i-init g c = record {
  sent = sent-begun g.S.Sink.holds g.S.Sink.faults c.args.sink.now c.args.page.now (report_row c.args.report.now);
  active = refl;
}

pub loop-i-preserved : goal.loop-i-preserved
loop-i-preserved g c = record {
  sent = sent-joined c.loop-i.i (report_row c.args.report.now) c.loop-i.invariant.sent (c.send_row.ensures);
  active = c.count_if-k.ensures ∙ ap₂ (λ a b. a + cond {A = ℕ} b 1 0) c.loop-i.invariant.active (ap (λ r. not r.idle) (sym (c.entry.ensures no_row)))
      ∙ sym (sum_ℕ_to-more c.loop-i.i (λ i. cond {A = ℕ} (is_active c.args.report.now.rows.list i) 1 0));
}

pub returns : goal.returns
returns g c = sent-whole c.loop-i.i (length c.args.report.now.rows.list) (report_row c.args.report.now) (omega arith) c.loop-i.invariant.sent

pub count_if-k-requires : goal.count_if-k-requires
count_if-k-requires g c =
    let size = count_to-size c.loop-i.i (is_active c.args.report.now.rows.list) in
    let counted = c.loop-i.invariant.active in
    let within = c.loop-i-test.true in
    let fits = c.len-i-end.type_inv in
    omega arith
