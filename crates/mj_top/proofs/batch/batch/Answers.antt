use Rattle.std.proofs.Common.{◌∙◌, map, string_bytes, sym, ap, inr, IsTrue, Bool, subst}
use Rattle.mj_io.proofs.Growth.{Gives-held}
use Rattle.mj_valid.specs.Judging.{judged_bytes}
use Rattle.mj_words.specs.Words.{nth_tape}
use Rattle.mj_top.specs.Outcome.{IsBatchFileOutcome, IsOutcome, model_cap}
use Rattle.mj_top.specs.Ends.{NthTapeRose, AcceptsTapesOf}
use Rattle.mj_top.proofs.Endings.{answers-within, batch_read-rose, cause-from_later, tape_rose-earlier}
use Rattle.mj_top.proofs.Taken.{accepts-alike, batch_outcome-is}
use Rattle.mj_top.proofs.batch.batch.Goals as goal

pub returns-in-Ok : goal.returns-in-Ok
returns-in-Ok g c =
    let words = map string_bytes c.args.words.now in
    let tells = g.C.Cabinet.tells c.args.cabinet.now in
    let tells_on = g.C.Cabinet.tells c.read.new.self in
    let held = g.C.Cabinet.holds c.args.cabinet.now in
    let held_on = g.C.Cabinet.holds c.read.new.self in
    let reads = g.C.Cabinet.faults c.args.cabinet.now in
    let between = g.C.Cabinet.faults c.read.new.self in
    let reads_after = g.C.Cabinet.faults c.batch_file.new.cabinet in
    let writes = g.S.Sink.faults c.args.sink.now in
    let writes_after = g.S.Sink.faults c.batch_file.new.sink in
    let answer = c.batch_file.result in
    let text = c.as_slice.result.now in
    let given = λ (told : IsTrue tells). Gives-held (held c.model_of.result.now) model_cap c.in-Ok.bytes.items (c.in-Ok.ensures.gives told) in
    let file = λ (told : IsTrue tells). ap held (sym c.model_of.ensures) ∙ (given told).1 in
    let bytes = λ (told : IsTrue tells). c.as_slice.ensures.value ∙ (given told).2 in
    let still = λ (told : IsTrue tells). (let P = λ (b : Bool). IsTrue b in subst P (sym c.in-Ok.ensures.tells_on) told) in
    record {
      outcome = λ told.
          answers-within (IsBatchFileOutcome held_on words text) (IsOutcome words held) answer _ _
          (batch_outcome-is held held_on c.in-Ok.ensures.holds_on words (given told).0 text c.requires.good c.requires.batch (file told) (bytes told))
          (c.batch_file.ensures.outcome (still told));
      nothing = c.batch_file.ensures.nothing;
      cause = cause-from_later words tells held (NthTapeRose words tells_on (AcceptsTapesOf words held_on text) between reads_after) answer reads reads_after writes writes_after c.requires.good
          (λ rose e. batch_read-rose words tells held reads reads_after c.requires.batch (inr (
            rose.0,
            tape_rose-earlier (nth_tape words rose.0) reads between reads_after c.in-Ok.ensures.later rose.1,
            λ told.
                let accepted = rose.2 (still told) in
                ((given told).0, file told, (accepted.0, ap judged_bytes (sym (bytes told)) ∙ accepted.1, accepts-alike held held_on c.in-Ok.ensures.holds_on words accepted.0 rose.0 accepted.2)),
          )))
          c.batch_file.ensures.cause;
    }
