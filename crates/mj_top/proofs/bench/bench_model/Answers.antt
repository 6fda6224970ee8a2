use Rattle.std.proofs.Common.{List, ℕ, length, subst, ◌∙◌}
use Rattle.mj_tape.specs.Judging.{tape_verdict}
use Rattle.mj_top.specs.Outcome.{with_summed_tape, tape_room}
use Rattle.mj_top.specs.Ends.{EndsOrMemory}
use Rattle.mj_top.proofs.bench.bench_model.Goals as goal

pub returns-in-Ok : goal.returns-in-Ok
returns-in-Ok g c =
    let m = c.args.model.now in
    let P = λ (text : List ℕ). EndsOrMemory g.S.Sink.holds g.S.Sink.faults (with_summed_tape c.args.steps m (tape_verdict (length m.motors) c.args.steps tape_room text)) c.args.sink.now c.sum_tape_text.result c.sum_tape_text.new.sink in
    subst P (c.as_slice.ensures.value ∙ c.in-Ok.ensures) c.sum_tape_text.ensures
