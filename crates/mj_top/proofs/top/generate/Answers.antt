use Rattle.std.proofs.Common.{ℕ, List, inr, subst, ◌∙◌}
use Rattle.mj_top.specs.Outcome.{written}
use Rattle.mj_top.specs.Ends.{Ends}
use Rattle.mj_top.proofs.top.generate.Goals as goal

pub returns-in-Ok : goal.returns-in-Ok
returns-in-Ok g c =
    let P = λ (text : List ℕ). Ends g.S.Sink.holds g.S.Sink.faults (written text) c.args.sink.now c.write_whole.result c.write_whole.new.sink in
    inr (subst P (c.as_slice.ensures.value ∙ c.in-Ok.ensures) c.write_whole.ensures)
