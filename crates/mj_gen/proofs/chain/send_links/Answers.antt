use Rattle.std.proofs.Common.{◌≡◌, ◌+◌, ℕ, List, sym, ap, ◌∙◌, arith}
use Rattle.mj_gen.specs.Numbers.{high_bits, draw}
use Rattle.mj_gen.specs.Chain.{link_text}
use Rattle.mj_gen.proofs.Drawing.{number-first, number-more}
use Rattle.mj_trace.proofs.Joining.{sent-as, sent-begun, sent-joined, sent-whole}
use Rattle.mj_gen.proofs.chain.send_links.Goals as goal

abbrev link : ℕ → ℕ → List ℕ
link seed k = link_text (k + 1) (draw seed (k + 1))

pub loop-k-init : goal.loop-k-init
loop-k-init g c = record {
  last = number-first c.args.seed c.from-number.result c.from-number.ensures;
  sent = sent-begun g.S.Sink.holds g.S.Sink.faults c.args.sink.now c.args.page.now (link c.args.seed);
}

pub loop-k-preserved : goal.loop-k-preserved
loop-k-preserved g c =
    let k = c.loop-k.k in
    let next = number-more c.args.seed c.loop-k.number c.number_after-number.result k c.loop-k.invariant.last c.number_after-number.ensures in
    let drawn : draw c.args.seed (k + 1) ≡ c.high_bits.result = ap high_bits (sym next) ∙ sym c.high_bits.ensures.value in
    record {
      last = next;
      sent = sent-joined k (link c.args.seed) c.loop-k.invariant.sent (sent-as (ap (link_text (k + 1)) drawn) c.send_link.ensures);
    }

pub returns : goal.returns
returns g c = sent-whole c.loop-k.k c.args.links (link c.args.seed) (omega arith) c.loop-k.invariant.sent
