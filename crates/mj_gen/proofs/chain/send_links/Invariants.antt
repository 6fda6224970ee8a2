use Rattle.std.proofs.Common.{◌≡◌}
use Rattle.mj_io.specs.Sent.{Sent}
use Rattle.mj_gen.specs.Numbers.{number}
use Rattle.mj_gen.specs.Chain.{links_text}
use Rattle.mj_gen.proofs.chain.send_links.Given as goal

abbrev pub invariant-loop-k : goal.invariant-loop-k
invariant-loop-k g l = record {
  last : l.number ≡ number l.seed l.k;
  sent : Sent g.S.Sink.holds g.S.Sink.faults l.initial.sink l.initial.page (links_text l.seed l.k) l.sink l.page;
}
