use Rattle.std.proofs.Common.{◌≡◌, Ok, Err, Some, map, string_bytes, refl, sym, subst, ap}
use Rattle.mj_io.proofs.Memory.{or_memory-ok, or_memory-err}
use Rattle.mj_read.specs.Document.{no_memory}
use Rattle.mj_types.specs.declared.status.Status.{Status}
use Rattle.mj_valid.specs.Judging.{accepted_of, judged_bytes}
use Rattle.mj_words.specs.Words.{step_count, tape_of}
use Rattle.mj_top.specs.Outcome.{wants_of, Outcome, IsFileOutcome, with_tape_name, model_refused}
use Rattle.mj_top.specs.Ends.{Ends, TapeRose}
use Rattle.mj_top.proofs.Endings.{answers-within, answers-from_ends, leaves-from_ends, later_cause-from_ends}
use Rattle.mj_top.proofs.top.run_model_file.Goals as goal

pub returns-in-Ok : goal.returns-in-Ok
returns-in-Ok g c =
    let words = map string_bytes c.args.words.now in
    let held = g.C.Cabinet.holds c.args.cabinet.now in
    let bytes = c.args.bytes.now in
    let m = c.in-Ok.model in
    let judged : judged_bytes bytes ≡ Ok (accepted_of m) = or_memory-ok no_memory (accepted_of m) (judged_bytes bytes) c.in-Ok.ensures in
    record {
      outcome = λ tells.
          answers-within (λ (o : Outcome). with_tape_name held (wants_of words) (step_count words) m (tape_of words) ≡ Some o) (IsFileOutcome held (wants_of words) (step_count words) (tape_of words) bytes)
          c.run_with_tape-status.result _ _ (λ o e. (Ok m, sym judged, e)) (c.run_with_tape-status.ensures.outcome tells);
      nothing = c.run_with_tape-status.ensures.nothing;
      cause = c.run_with_tape-status.ensures.cause;
      accepted = λ e. (m, judged);
    }

pub returns-in_default : goal.returns-in_default
returns-in_default g c =
    let words = map string_bytes c.args.words.now in
    let held = g.C.Cabinet.holds c.args.cabinet.now in
    let bytes = c.args.bytes.now in
    let fault = c.in-Err.fault in
    let judged : judged_bytes bytes ≡ Err fault = or_memory-err no_memory fault (judged_bytes bytes) (λ same. c.in_default.not-Memory (ap (λ f. f.code) same)) c.in-Err.ensures in
    let counts = g.C.Cabinet.faults c.args.cabinet.now in
    let outcome = model_refused fault in
    let before = c.args.sink.now in
    let after = c.refuse_model.new.sink in
    record {
      outcome = λ tells. answers-from_ends g.S.Sink.holds g.S.Sink.faults before after (IsFileOutcome held (wants_of words) (step_count words) (tape_of words) bytes) outcome c.refuse_model.result (Err fault, sym judged, refl) c.refuse_model.ensures;
      nothing = leaves-from_ends g.S.Sink.holds g.S.Sink.faults before after outcome c.refuse_model.result c.refuse_model.ensures;
      cause = later_cause-from_ends g.S.Sink.holds g.S.Sink.faults before after (TapeRose (tape_of words) counts counts) outcome c.refuse_model.result tt c.refuse_model.ensures;
      accepted = λ e. let P = λ (s : Status). Ends g.S.Sink.holds g.S.Sink.faults outcome before s after in absurd (subst P e c.refuse_model.ensures);
    }
