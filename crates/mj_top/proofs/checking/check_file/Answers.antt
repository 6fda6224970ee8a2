use Rattle.std.proofs.Common.{Err, ◌∙◌, map, string_bytes, sym, ap, subst, List, ℕ}
use Rattle.mj_io.proofs.Growth.{Gives-held}
use Rattle.mj_words.specs.declared.table.Command.TheVariants as command
use Rattle.mj_top.specs.Outcome.{Outcome, IsDumpOutcome, IsOutcome, dump_cap}
use Rattle.mj_top.proofs.Endings.{answers-within, answers-from_meant, leaves-from_meant, later_cause-from_meant, cause-from_later, check_read-rose, dump-later, outcome-is}
use Rattle.mj_top.proofs.checking.check_file.Goals as goal

pub returns-in-Ok : goal.returns-in-Ok
returns-in-Ok g c =
    let words = map string_bytes c.args.words.now in
    let tells = g.C.Cabinet.tells c.args.cabinet.now in
    let held = g.C.Cabinet.holds c.args.cabinet.now in
    let reads = g.C.Cabinet.faults c.args.cabinet.now in
    let reads_after = g.C.Cabinet.faults c.read.new.self in
    let before = c.args.sink.now in
    let after = c.check_dump.new.sink in
    let answer = c.check_dump.result in
    let text = c.as_slice.result.now in
    record {
      outcome = λ told.
          let given = Gives-held (held c.dump_of.result.now) dump_cap c.in-Ok.bytes.items (c.in-Ok.ensures.gives told) in
          let file = ap held (sym c.dump_of.ensures) ∙ given.1 in
          let bytes = c.as_slice.ensures.value ∙ given.2 in
          let within : (o : Outcome) → IsDumpOutcome text o → IsOutcome words held o =
          λ o meant.
          let P = λ (b : List ℕ). IsDumpOutcome b o in
          outcome-is words held command.Check o c.requires.good c.requires.check (given.0, file, subst P bytes meant) in
          answers-within (IsDumpOutcome text) (IsOutcome words held) answer _ _ within
          (answers-from_meant g.S.Sink.holds g.S.Sink.faults before after (IsDumpOutcome text) answer c.check_dump.ensures);
      nothing = leaves-from_meant g.S.Sink.holds g.S.Sink.faults before after (IsDumpOutcome text) answer c.check_dump.ensures;
      cause = cause-from_later words tells held ⊥ answer reads reads_after (g.S.Sink.faults before) (g.S.Sink.faults after) c.requires.good
          (λ rose e. absurd rose)
          (later_cause-from_meant g.S.Sink.holds g.S.Sink.faults before after (IsDumpOutcome text) answer ⊥ (dump-later text) c.check_dump.ensures);
    }

pub returns-in-Err-Failed-clause-cause : goal.returns-in-Err-Failed-clause-cause
returns-in-Err-Failed-clause-cause g c =
    let words = map string_bytes c.args.words.now in
    let reads = g.C.Cabinet.faults c.args.cabinet.now in
    let reads_after = g.C.Cabinet.faults c.read.new.self in
    let tells = g.C.Cabinet.tells c.args.cabinet.now in
    let held = g.C.Cabinet.holds c.args.cabinet.now in
    (c.requires.good, check_read-rose words tells held reads reads_after c.requires.check c.dump_of.result.now (sym c.dump_of.ensures) (c.in-Err-Failed.ensures.cause (ap Err c.in-Err-Failed.field-0-is)))
