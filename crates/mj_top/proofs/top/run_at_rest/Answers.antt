use Rattle.std.proofs.Common.{Option, subst}
use Rattle.mj_tape.specs.Judging.{TapeValues}
use Rattle.mj_top.specs.Outcome.{ran}
use Rattle.mj_top.specs.Ends.{EndsOrMemory}
use Rattle.mj_top.proofs.top.run_at_rest.Goals as goal

pub run_model-requires : goal.run_model-requires
run_model-requires g c = c.in-Ok.ensures.serves c.args.steps

pub returns-in-Ok : goal.returns-in-Ok
returns-in-Ok g c =
    let P = λ (tape : Option TapeValues). EndsOrMemory g.S.Sink.holds g.S.Sink.faults (ran c.args.wants c.args.steps c.args.model.now tape) c.args.sink.now c.run_model.result c.run_model.new.sink in
    subst P c.in-Ok.ensures.rest c.run_model.ensures
