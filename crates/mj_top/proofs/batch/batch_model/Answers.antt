use Rattle.std.proofs.Common.{map, string_bytes, refl, inl, subst, List, sym}
use Rattle.mj_run.specs.declared.job.RunJob.{RunJob}
use Rattle.mj_run.specs.Batch.{batch_end, AreJobsOf}
use Rattle.mj_words.specs.Words.{step_count}
use Rattle.mj_top.specs.Outcome.{IsTapesOutcome, batched}
use Rattle.mj_top.specs.Ends.{NthTapeRose, AcceptsTapes, Ends}
use Rattle.mj_top.proofs.Endings.{answers-from_ends, leaves-from_ends, later_cause-from_ends, later-status_of}
use Rattle.mj_top.proofs.Taken.{answers-from_stopped, leaves-from_stopped, later_cause-from_stopped}
use Rattle.mj_top.proofs.batch.batch_model.Goals as goal

pub returns-in-Ok : goal.returns-in-Ok
returns-in-Ok g c =
    let words = map string_bytes c.args.words.now in
    let cabinet = c.args.cabinet.now in
    let tells = g.C.Cabinet.tells cabinet in
    let held = g.C.Cabinet.holds cabinet in
    let m = c.args.model.now in
    let n = step_count words in
    let taken = c.in-Ok.ensures.1 in
    let Q = λ (jobs : List RunJob). AreJobsOf m n taken.tapes jobs in
    let before = c.args.sink.now in
    let after = c.run_jobs-status.new.sink in
    let answer = c.run_jobs-status.result in
    let outcome = batched n m taken.tapes in
    let ends : Ends g.S.Sink.holds g.S.Sink.faults outcome before answer after = c.run_jobs-status.ensures m n taken.tapes (subst Q (sym c.as_mut_slice.ensures.value) taken.due) in
    record {
      outcome = λ told. answers-from_ends g.S.Sink.holds g.S.Sink.faults before after (IsTapesOutcome held words m) outcome answer (taken.tapes, taken.accepted told, inl (taken.count, refl)) ends;
      nothing = leaves-from_ends g.S.Sink.holds g.S.Sink.faults before after outcome answer ends;
      cause = later_cause-from_ends g.S.Sink.holds g.S.Sink.faults before after (NthTapeRose words tells (AcceptsTapes words held m) (g.C.Cabinet.faults cabinet) (g.C.Cabinet.faults c.add_tapes.new.cabinet)) outcome answer (later-status_of (batch_end m n taken.tapes)) ends;
    }

pub returns-in-Err : goal.returns-in-Err
returns-in-Err g c =
    let words = map string_bytes c.args.words.now in
    let cabinet = c.args.cabinet.now in
    let tells = g.C.Cabinet.tells cabinet in
    let held = g.C.Cabinet.holds cabinet in
    let m = c.args.model.now in
    let reads = g.C.Cabinet.faults cabinet in
    let reads_after = g.C.Cabinet.faults c.add_tapes.new.cabinet in
    let before = c.args.sink.now in
    let after = c.stop.new.sink in
    record {
      outcome = λ told. answers-from_stopped words tells held m g.S.Sink.holds g.S.Sink.faults before after reads reads_after c.in-Err.why c.stop.result c.in-Err.ensures c.stop.ensures told;
      nothing = leaves-from_stopped words tells held m g.S.Sink.holds g.S.Sink.faults before after reads reads_after c.in-Err.why c.stop.result c.stop.ensures;
      cause = later_cause-from_stopped words tells held m g.S.Sink.holds g.S.Sink.faults before after reads reads_after c.in-Err.why c.stop.result c.in-Err.ensures c.stop.ensures;
    }
