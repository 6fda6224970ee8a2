use Rattle.std.proofs.Common.{inl, inr, IsTrue, true, false, ◌≡◌, ◌∙◌, ℕ, map, string_bytes, sym, ap, subst, refl}
use Rattle.mj_words.specs.declared.table.Command.{Command}
use Rattle.mj_words.specs.declared.table.Command.TheVariants as command
use Rattle.mj_words.specs.Words.{seed_of, link_count}
use Rattle.mj_top.specs.Headline.{reads_files}
use Rattle.mj_top.specs.Outcome.{Outcome, IsOutcome, IsBenchOutcome, generated}
use Rattle.mj_top.proofs.Endings.{answers-from_either, leaves-from_either, later_cause-from_either, cause-from_later, outcome-is, answers-within, answers-from_meant, leaves-from_meant, later_cause-from_meant, bench-later}
use Rattle.mj_top.proofs.top.run_accepted.Goals as goal

pub returns-in-Gen : goal.returns-in-Gen
returns-in-Gen g c =
    let words = map string_bytes c.args.words.now in
    let tells = g.C.Cabinet.tells c.args.cabinet.now in
    let held = g.C.Cabinet.holds c.args.cabinet.now in
    let counts = g.C.Cabinet.faults c.args.cabinet.now in
    let outcome = generated c.seed_of.result c.link_count.result in
    let same : outcome ≡ generated (seed_of words) (link_count words) =
    ap (λ n. generated n c.link_count.result) c.seed_of.ensures ∙ ap (generated (seed_of words)) c.link_count.ensures in
    let meant : IsOutcome words held outcome = outcome-is words held command.Gen outcome c.requires (sym c.in-Gen.ensures) same in
    let before = c.args.sink.now in
    let after = c.generate.new.sink in
    record {
      outcome = λ told. answers-from_either g.S.Sink.holds g.S.Sink.faults before after (IsOutcome words held) outcome c.generate.result meant c.generate.ensures;
      nothing = leaves-from_either g.S.Sink.holds g.S.Sink.faults before after outcome c.generate.result c.generate.ensures;
      unread = λ none. refl;
      cause = cause-from_later words tells held ⊥ c.generate.result counts counts (g.S.Sink.faults before) (g.S.Sink.faults after) c.requires
          (λ rose e. absurd rose)
          (later_cause-from_either g.S.Sink.holds g.S.Sink.faults before after ⊥ outcome c.generate.result tt c.generate.ensures);
    }

pub returns-in-Bench : goal.returns-in-Bench
returns-in-Bench g c =
    let words = map string_bytes c.args.words.now in
    let tells = g.C.Cabinet.tells c.args.cabinet.now in
    let held = g.C.Cabinet.holds c.args.cabinet.now in
    let counts = g.C.Cabinet.faults c.args.cabinet.now in
    let seed = c.seed_of-in-Bench.result in
    let links = c.bench_link_count.result in
    let n = c.bench_step_count.result in
    let within : (o : Outcome) → IsBenchOutcome seed links n o → IsOutcome words held o =
    λ o meant.
    let P = λ (x : ℕ). IsBenchOutcome x links n o in
    let Q = λ (x : ℕ). IsBenchOutcome (seed_of words) x n o in
    let R = λ (x : ℕ). IsBenchOutcome (seed_of words) (link_count words) x o in
    outcome-is words held command.Bench o c.requires (sym c.in-Bench.ensures)
    (subst R c.bench_step_count.ensures.value (subst Q c.bench_link_count.ensures.value (subst P c.seed_of-in-Bench.ensures meant))) in
    let before = c.args.sink.now in
    let after = c.bench.new.sink in
    record {
      outcome = λ told. answers-within (IsBenchOutcome seed links n) (IsOutcome words held) c.bench.result _ _ within
          (answers-from_meant g.S.Sink.holds g.S.Sink.faults before after (IsBenchOutcome seed links n) c.bench.result c.bench.ensures);
      nothing = leaves-from_meant g.S.Sink.holds g.S.Sink.faults before after (IsBenchOutcome seed links n) c.bench.result c.bench.ensures;
      unread = λ none. refl;
      cause = cause-from_later words tells held ⊥ c.bench.result counts counts (g.S.Sink.faults before) (g.S.Sink.faults after) c.requires
          (λ rose e. absurd rose)
          (later_cause-from_meant g.S.Sink.holds g.S.Sink.faults before after (IsBenchOutcome seed links n) c.bench.result ⊥ (bench-later seed links n) c.bench.ensures);
    }

pub returns-in-Run-clause-outcome : goal.returns-in-Run-clause-outcome
returns-in-Run-clause-outcome g c = λ told.
    let P = λ (k : Command). IsTrue (reads_files k) → IsTrue (g.C.Cabinet.tells c.args.cabinet.now) in
    let sure : IsTrue (reads_files command.Run) → IsTrue (g.C.Cabinet.tells c.args.cabinet.now) = subst P (sym c.in-Run.ensures) told in
    c.run_files.ensures.outcome (sure refl)

pub returns-in-Run-clause-unread : goal.returns-in-Run-clause-unread
returns-in-Run-clause-unread g c = λ none.
    let wrong : true ≡ false = ap reads_files c.in-Run.ensures ∙ none in absurd (let no : ⊥ = cc in no)

pub returns-in-Inverse-clause-outcome : goal.returns-in-Inverse-clause-outcome
returns-in-Inverse-clause-outcome g c = λ told.
    let P = λ (k : Command). IsTrue (reads_files k) → IsTrue (g.C.Cabinet.tells c.args.cabinet.now) in
    let sure : IsTrue (reads_files command.Inverse) → IsTrue (g.C.Cabinet.tells c.args.cabinet.now) = subst P (sym c.in-Inverse.ensures) told in
    c.run_files-in-Inverse.ensures.outcome (sure refl)

pub returns-in-Inverse-clause-unread : goal.returns-in-Inverse-clause-unread
returns-in-Inverse-clause-unread g c = λ none.
    let wrong : true ≡ false = ap reads_files c.in-Inverse.ensures ∙ none in absurd (let no : ⊥ = cc in no)

pub returns-in-Batch-clause-outcome : goal.returns-in-Batch-clause-outcome
returns-in-Batch-clause-outcome g c = λ told.
    let P = λ (k : Command). IsTrue (reads_files k) → IsTrue (g.C.Cabinet.tells c.args.cabinet.now) in
    let sure : IsTrue (reads_files command.Batch) → IsTrue (g.C.Cabinet.tells c.args.cabinet.now) = subst P (sym c.in-Batch.ensures) told in
    c.batch.ensures.outcome (sure refl)

pub returns-in-Batch-clause-unread : goal.returns-in-Batch-clause-unread
returns-in-Batch-clause-unread g c = λ none.
    let wrong : true ≡ false = ap reads_files c.in-Batch.ensures ∙ none in absurd (let no : ⊥ = cc in no)

pub run_files-requires-clause-run : goal.run_files-requires-clause-run
run_files-requires-clause-run g c = inl (sym c.in-Run.ensures)

pub run_files-requires-in-Inverse-clause-run : goal.run_files-requires-in-Inverse-clause-run
run_files-requires-in-Inverse-clause-run g c = inr (sym c.in-Inverse.ensures)

pub returns-in-Check-clause-outcome : goal.returns-in-Check-clause-outcome
returns-in-Check-clause-outcome g c = λ told.
    let P = λ (k : Command). IsTrue (reads_files k) → IsTrue (g.C.Cabinet.tells c.args.cabinet.now) in
    let sure : IsTrue (reads_files command.Check) → IsTrue (g.C.Cabinet.tells c.args.cabinet.now) = subst P (sym c.in-Check.ensures) told in
    c.check_file.ensures.outcome (sure refl)

pub returns-in-Check-clause-unread : goal.returns-in-Check-clause-unread
returns-in-Check-clause-unread g c = λ none.
    let wrong : true ≡ false = ap reads_files c.in-Check.ensures ∙ none in absurd (let no : ⊥ = cc in no)
