use Rattle.std.proofs.Common.{length, arith}
use Rattle.mj_trace.proofs.Joining.{sent-begun, sent-joined, sent-whole}
use Rattle.mj_types.specs.Parts.{number_at}
use Rattle.mj_trace.specs.Lines.{spaced}
use Rattle.mj_trace.proofs.lines.send_numbers.Goals as goal

pub loop-i-init : goal.loop-i-init
loop-i-init g c = record {
  sent = sent-begun g.S.Sink.holds g.S.Sink.faults c.args.sink.now c.args.page.now (λ i. spaced (number_at c.args.xs.now i));
}

pub loop-i-preserved : goal.loop-i-preserved
loop-i-preserved g c = record {
  sent = sent-joined c.loop-i.i (λ i. spaced (number_at c.args.xs.now i)) c.loop-i.invariant.sent (c.send_spaced.ensures);
}

pub returns : goal.returns
returns g c = sent-whole c.loop-i.i (length c.args.xs.now) (λ i. spaced (number_at c.args.xs.now i)) (omega arith) c.loop-i.invariant.sent
