use Rattle.std.proofs.Common.{◌+◌, ℕ, List, arith}
use Rattle.mj_gen.specs.Tape.{row_text, tape_text}
use Rattle.mj_trace.proofs.Joining.{sent-begun, sent-joined, sent-whole}
use Rattle.mj_gen.proofs.tape.send_rows.Goals as goal

abbrev row : ℕ → ℕ → ℕ → List ℕ
row seed width k = row_text seed width (k + 1)

pub loop-k-init : goal.loop-k-init
unfolding tape_text
loop-k-init g c = record {
  sent = sent-begun g.S.Sink.holds g.S.Sink.faults c.args.sink.now c.args.page.now (row c.args.seed c.args.width);
}

pub loop-k-preserved : goal.loop-k-preserved
unfolding tape_text
loop-k-preserved g c = record {
  sent = sent-joined c.loop-k.k (row c.args.seed c.args.width) c.loop-k.invariant.sent c.send_row.ensures;
}

pub returns : goal.returns
unfolding tape_text
returns g c = sent-whole c.loop-k.k c.args.rows (row c.args.seed c.args.width) (omega arith) c.loop-k.invariant.sent
