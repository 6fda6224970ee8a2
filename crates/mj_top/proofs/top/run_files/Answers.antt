use Rattle.std.proofs.Common.{◌∙◌, map, string_bytes, sym, ap, inr, IsTrue, Bool, subst}
use Rattle.mj_io.proofs.Growth.{Gives-held}
use Rattle.mj_valid.specs.Judging.{judged_bytes}
use Rattle.mj_words.specs.Words.{step_count, tape_of}
use Rattle.mj_top.specs.Outcome.{wants_of, IsFileOutcome, IsOutcome, model_cap}
use Rattle.mj_top.specs.Ends.{TapeRose}
use Rattle.mj_top.proofs.Endings.{answers-within, file_outcome-is, run_read-rose, cause-from_later, tape_rose-earlier}
use Rattle.mj_top.proofs.top.run_files.Goals as goal

pub returns-in-Ok : goal.returns-in-Ok
returns-in-Ok g c =
    let words = map string_bytes c.args.words.now in
    let held = g.C.Cabinet.holds c.args.cabinet.now in
    let held_on = g.C.Cabinet.holds c.read.new.self in
    let reads = g.C.Cabinet.faults c.args.cabinet.now in
    let between = g.C.Cabinet.faults c.read.new.self in
    let reads_after = g.C.Cabinet.faults c.run_model_file.new.cabinet in
    let writes = g.S.Sink.faults c.args.sink.now in
    let writes_after = g.S.Sink.faults c.run_model_file.new.sink in
    let answer = c.run_model_file.result in
    let given = λ (tells : IsTrue (g.C.Cabinet.tells c.args.cabinet.now)). Gives-held (held c.model_of.result.now) model_cap c.in-Ok.bytes.items (c.in-Ok.ensures.gives tells) in
    let file = λ (tells : IsTrue (g.C.Cabinet.tells c.args.cabinet.now)). ap held (sym c.model_of.ensures) ∙ (given tells).1 in
    let bytes = λ (tells : IsTrue (g.C.Cabinet.tells c.args.cabinet.now)). c.as_slice.ensures.value ∙ (given tells).2 in
    record {
      outcome = λ tells.
          let still = let P = λ (b : Bool). IsTrue b in subst P (sym c.in-Ok.ensures.tells_on) tells in
          answers-within (IsFileOutcome held_on (wants_of words) (step_count words) (tape_of words) c.as_slice.result.now) (IsOutcome words held) answer _ _
          (file_outcome-is words held held_on (given tells).0 c.as_slice.result.now c.requires.good c.requires.run c.in-Ok.ensures.holds_on (file tells) (bytes tells))
          (c.run_model_file.ensures.outcome still);
      nothing = c.run_model_file.ensures.nothing;
      cause = cause-from_later words (g.C.Cabinet.tells c.args.cabinet.now) held (TapeRose (tape_of words) between reads_after) answer reads reads_after writes writes_after c.requires.good
          (λ rose e. run_read-rose words (g.C.Cabinet.tells c.args.cabinet.now) held reads reads_after c.requires.run (inr (
            tape_rose-earlier (tape_of words) reads between reads_after c.in-Ok.ensures.later rose,
            λ tells.
                let accepted = c.run_model_file.ensures.accepted e in
                ((given tells).0, file tells, (accepted.0, ap judged_bytes (sym (bytes tells)) ∙ accepted.1)),
          )))
          c.run_model_file.ensures.cause;
    }
