use Rattle.std.proofs.Common.{◌≡◌, ◌∙◌, map, string_bytes, sym, Some, None, option_map, ap, take, length}
use Rattle.mj_io.proofs.Growth.{Gives-held}
use Rattle.mj_tape.specs.Judging.{tape_verdict}
use Rattle.mj_run.specs.Controls.{controls_at}
use Rattle.mj_words.specs.Words.{step_count, tape_of}
use Rattle.mj_run.specs.Course.{end_of}
use Rattle.mj_run.specs.Run.{course}
use Rattle.mj_top.specs.Outcome.{wants_of, Outcome, ran, with_tape, with_tape_name, with_tape_file, tape_room, tape_cap}
use Rattle.mj_top.specs.Ends.{TapeRose}
use Rattle.mj_top.proofs.Endings.{answers-from_either, leaves-from_either, later_cause-from_either, later-status_of, later-with_tape}
use Rattle.mj_top.proofs.top.run_with_tape.Goals as goal

pub returns-in-None : goal.returns-in-None
returns-in-None g c =
    let words = map string_bytes c.args.words.now in
    let held = g.C.Cabinet.holds c.args.cabinet.now in
    let counts = g.C.Cabinet.faults c.args.cabinet.now in
    let m = c.args.model.now in
    let steps = c.step_count-steps.result in
    let wants = c.wants_of-wants.result in
    let outcome = ran wants steps m None in
    let found : with_tape_name held (wants_of words) (step_count words) m (tape_of words) ≡ Some outcome =
    ap (with_tape_name held (wants_of words) (step_count words) m) (sym c.in-None.ensures)
    ∙ ap (λ n. Some (ran (wants_of words) n m None)) (sym c.step_count-steps.ensures) ∙ ap (λ w. Some (ran w steps m None)) (sym c.wants_of-wants.ensures) in
    record {
      outcome = λ tells. answers-from_either g.S.Sink.holds g.S.Sink.faults c.args.sink.now c.run_at_rest.new.sink
          (λ (o : Outcome). with_tape_name held (wants_of words) (step_count words) m (tape_of words) ≡ Some o) outcome c.run_at_rest.result found c.run_at_rest.ensures;
      nothing = leaves-from_either g.S.Sink.holds g.S.Sink.faults c.args.sink.now c.run_at_rest.new.sink outcome c.run_at_rest.result c.run_at_rest.ensures;
      cause = later_cause-from_either g.S.Sink.holds g.S.Sink.faults c.args.sink.now c.run_at_rest.new.sink (TapeRose (tape_of words) counts counts) outcome c.run_at_rest.result
          (later-status_of (end_of (course wants m (controls_at (length m.motors) None)) steps)) c.run_at_rest.ensures;
    }

pub returns-in-Ok : goal.returns-in-Ok
returns-in-Ok g c =
    let words = map string_bytes c.args.words.now in
    let held = g.C.Cabinet.holds c.args.cabinet.now in
    let m = c.args.model.now in
    let steps = c.step_count-steps.result in
    let wants = c.wants_of-wants.result in
    let answer = tape_verdict (length m.motors) steps tape_room c.as_slice.result.now in
    let outcome = with_tape wants steps m answer in
    record {
      outcome = λ tells.
          let given = Gives-held (held c.in-Some.name.now) tape_cap c.in-Ok.bytes.items (c.in-Ok.ensures.gives tells) in
          let bytes : c.as_slice.result.now ≡ take tape_cap given.0 = c.as_slice.ensures.value ∙ given.2 in
          let found : with_tape_name held (wants_of words) (step_count words) m (tape_of words) ≡ Some outcome =
          ap (with_tape_name held (wants_of words) (step_count words) m) (sym c.in-Some.ensures) ∙ ap (option_map (with_tape_file (wants_of words) (step_count words) m)) given.1
          ∙ ap (λ n. Some (with_tape_file (wants_of words) n m given.0)) (sym c.step_count-steps.ensures)
          ∙ ap (λ w. Some (with_tape_file w steps m given.0)) (sym c.wants_of-wants.ensures)
          ∙ ap (λ b. Some (with_tape wants steps m (tape_verdict (length m.motors) steps tape_room b))) (sym bytes) in
          answers-from_either g.S.Sink.holds g.S.Sink.faults c.args.sink.now c.run_tape_file.new.sink
          (λ (o : Outcome). with_tape_name held (wants_of words) (step_count words) m (tape_of words) ≡ Some o) outcome c.run_tape_file.result found c.run_tape_file.ensures;
      nothing = leaves-from_either g.S.Sink.holds g.S.Sink.faults c.args.sink.now c.run_tape_file.new.sink outcome c.run_tape_file.result c.run_tape_file.ensures;
      cause = later_cause-from_either g.S.Sink.holds g.S.Sink.faults c.args.sink.now c.run_tape_file.new.sink
          (TapeRose (tape_of words) (g.C.Cabinet.faults c.args.cabinet.now) (g.C.Cabinet.faults c.read.new.self)) outcome c.run_tape_file.result (later-with_tape wants steps m answer) c.run_tape_file.ensures;
    }
