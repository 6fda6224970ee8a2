use Rattle.std.proofs.Common.{◌≡◌, ℕ, map, string_bytes, sym, Some, None, is_none, false, ◌&&◌, IsTrue, Option, refl, subst}
use Rattle.mj_run.specs.Run.{state_at}
use Rattle.mj_words.specs.Words.{bad_place, command_of}
use Rattle.mj_top.specs.Headline.{reads_files, read_files}
use Rattle.mj_top.specs.Outcome.{IsOutcome, IsWordsOutcome, words_refused}
use Rattle.mj_top.proofs.Endings.{answers-from_ends, leaves-from_ends, cause-from_refused, completes}
use Rattle.mj_top.proofs.HeadlineLaws.{headline, ends-well}
use Rattle.mj_top.proofs.top.run_gated.Goals as goal

pub returns-in-Some : goal.returns-in-Some
returns-in-Some g c =
    let words = map string_bytes c.args.words.now in
    let tells = g.C.Cabinet.tells c.args.cabinet.now in
    let held = g.C.Cabinet.holds c.args.cabinet.now in
    let counts = g.C.Cabinet.faults c.args.cabinet.now in
    let at = c.in-Some.at in
    let answer = c.refuse_words.result in
    let before = c.args.sink.now in
    let after = c.refuse_words.new.sink in
    let bad : bad_place words ≡ Some at = sym c.in-Some.ensures in
    let meant = let P = λ (p : Option ℕ). IsWordsOutcome held words p (words_refused at) in subst P (sym bad) refl in
    let cause = cause-from_refused g.S.Sink.holds g.S.Sink.faults before after words tells held at answer counts counts bad c.refuse_words.ensures in
    let answers = answers-from_ends g.S.Sink.holds g.S.Sink.faults before after (IsOutcome words held) (words_refused at) answer meant c.refuse_words.ensures in
    let complete = completes words tells held answer (g.S.Sink.holds before) (g.S.Sink.holds after) counts counts (g.S.Sink.faults before) (g.S.Sink.faults after) answers cause in
    record {
      headline = λ told. headline c.steps_are_certified.ensures c.steps_are_covered.ensures c.solutions_are_in_balls.ensures c.told_forces_are_best.ensures words held answer (g.S.Sink.holds before) (g.S.Sink.holds after) answers;
      ends = λ told. ends-well words held tells answer counts counts (g.S.Sink.faults before) (g.S.Sink.faults after) complete;
      unread = λ none. refl;
      certified = λ m controls k. c.steps_are_certified.ensures m (state_at m controls k) (controls k);
      covered = λ m controls k. c.steps_are_covered.ensures m (state_at m controls k) (controls k);
      enclosed = λ m controls k. c.solutions_are_in_balls.ensures m (state_at m controls k) (controls k);
      best = λ m controls k. c.told_forces_are_best.ensures m (state_at m controls k) (controls k);
      outcome = λ told. answers;
      nothing = leaves-from_ends g.S.Sink.holds g.S.Sink.faults before after (words_refused at) answer c.refuse_words.ensures;
      cause = cause;
      complete = λ told. complete;
    }

pub returns-in-None : goal.returns-in-None
returns-in-None g c =
    let words = map string_bytes c.args.words.now in
    let tells = g.C.Cabinet.tells c.args.cabinet.now in
    let held = g.C.Cabinet.holds c.args.cabinet.now in
    let done = c.run_accepted.ensures in
    let answer = c.run_accepted.result in
    let before = c.args.sink.now in
    let after = c.run_accepted.new.sink in
    let good : bad_place words ≡ None = sym c.in-None.ensures in
    let P = λ (p : Option ℕ). IsTrue (is_none p && reads_files (command_of words)) → IsTrue tells in
    let sure = λ (told : IsTrue (read_files words) → IsTrue tells). done.outcome (subst P good told) in
    let complete = λ (told : IsTrue (read_files words) → IsTrue tells). completes words tells held answer (g.S.Sink.holds before) (g.S.Sink.holds after)
    (g.C.Cabinet.faults c.args.cabinet.now) (g.C.Cabinet.faults c.run_accepted.new.cabinet) (g.S.Sink.faults before) (g.S.Sink.faults after) (sure told) done.cause in
    let Q = λ (p : Option ℕ). is_none p && reads_files (command_of words) ≡ false in
    record {
      headline = λ told. headline c.steps_are_certified.ensures c.steps_are_covered.ensures c.solutions_are_in_balls.ensures c.told_forces_are_best.ensures words held answer (g.S.Sink.holds before) (g.S.Sink.holds after) (sure told);
      ends = λ told. ends-well words held tells answer (g.C.Cabinet.faults c.args.cabinet.now) (g.C.Cabinet.faults c.run_accepted.new.cabinet) (g.S.Sink.faults before) (g.S.Sink.faults after) (complete told);
      outcome = sure;
      complete = complete;
      cause = done.cause;
      nothing = done.nothing;
      unread = λ none. done.unread (subst Q good none);
      certified = λ m controls k. c.steps_are_certified.ensures m (state_at m controls k) (controls k);
      covered = λ m controls k. c.steps_are_covered.ensures m (state_at m controls k) (controls k);
      enclosed = λ m controls k. c.solutions_are_in_balls.ensures m (state_at m controls k) (controls k);
      best = λ m controls k. c.told_forces_are_best.ensures m (state_at m controls k) (controls k);
    }
