use Rattle.std.proofs.Common.{◌+◌, ℕ, List, arith}
use Rattle.mj_gen.specs.Tape.{field_text}
use Rattle.mj_trace.proofs.Joining.{sent-begun, sent-joined, sent-whole}
use Rattle.mj_gen.proofs.tape.send_fields.Goals as goal

abbrev field : ℕ → ℕ → ℕ → List ℕ
field seed row j = field_text seed row (j + 1)

pub loop-j-init : goal.loop-j-init
loop-j-init g c = record {
  sent = sent-begun g.S.Sink.holds g.S.Sink.faults c.args.sink.now c.args.page.now (field c.args.seed c.args.row);
}

pub loop-j-preserved : goal.loop-j-preserved
loop-j-preserved g c = record {
  sent = sent-joined c.loop-j.j (field c.args.seed c.args.row) c.loop-j.invariant.sent c.send_field.ensures;
}

pub returns : goal.returns
returns g c = sent-whole c.loop-j.j c.args.width (field c.args.seed c.args.row) (omega arith) c.loop-j.invariant.sent
