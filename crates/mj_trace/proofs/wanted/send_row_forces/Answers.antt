use Rattle.std.proofs.Common.{arith}
use Rattle.mj_trace.proofs.Joining.{sent-begun, sent-joined, sent-whole}
use Rattle.mj_types.specs.Parts.{number_at}
use Rattle.mj_types.specs.StepValues.{dual_values}
use Rattle.mj_trace.specs.Wanted.{row_force_text}
use Rattle.mj_trace.proofs.wanted.send_row_forces.Goals as goal

pub loop-i-init : goal.loop-i-init
loop-i-init g c = record {
  sent = sent-begun g.S.Sink.holds g.S.Sink.faults c.args.sink.now c.args.page.now (row_force_text (dual_values c.args.dual.now).place (number_at c.args.inverse.now.x));
}

pub loop-i-preserved : goal.loop-i-preserved
loop-i-preserved g c = record {
  sent = sent-joined c.loop-i.i (row_force_text (dual_values c.args.dual.now).place (number_at c.args.inverse.now.x)) c.loop-i.invariant.sent c.send_row_force.ensures;
}

pub returns : goal.returns
returns g c = sent-whole c.loop-i.i c.args.dual.now.m (row_force_text (dual_values c.args.dual.now).place (number_at c.args.inverse.now.x)) (omega arith) c.loop-i.invariant.sent
