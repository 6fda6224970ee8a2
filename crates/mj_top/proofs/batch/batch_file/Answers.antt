use Rattle.std.proofs.Common.{◌≡◌, Ok, Err, map, string_bytes, refl, sym, ap}
use Rattle.mj_io.proofs.Memory.{or_memory-ok, or_memory-err}
use Rattle.mj_read.specs.Document.{no_memory}
use Rattle.mj_valid.specs.Judging.{accepted_of, judged_bytes}
use Rattle.mj_top.specs.Outcome.{IsTapesOutcome, IsBatchFileOutcome, model_refused}
use Rattle.mj_top.specs.Ends.{NthTapeRose, AcceptsTapes, AcceptsTapesOf}
use Rattle.mj_top.proofs.Endings.{answers-within, answers-from_ends, leaves-from_ends, later_cause-from_ends, later_cause-within}
use Rattle.mj_top.proofs.batch.batch_file.Goals as goal

pub returns-in-Ok : goal.returns-in-Ok
returns-in-Ok g c =
    let words = map string_bytes c.args.words.now in
    let cabinet = c.args.cabinet.now in
    let tells = g.C.Cabinet.tells cabinet in
    let held = g.C.Cabinet.holds cabinet in
    let reads = g.C.Cabinet.faults cabinet in
    let reads_after = g.C.Cabinet.faults c.batch_model-status.new.cabinet in
    let bytes = c.args.bytes.now in
    let m = c.in-Ok.model in
    let done = c.batch_model-status.ensures in
    let answer = c.batch_model-status.result in
    let judged : judged_bytes bytes ≡ Ok (accepted_of m) = or_memory-ok no_memory (accepted_of m) (judged_bytes bytes) c.in-Ok.ensures in
    record {
      outcome = λ told. answers-within (IsTapesOutcome held words m) (IsBatchFileOutcome held words bytes) answer _ _ (λ o meant. (Ok m, sym judged, meant)) (done.outcome told);
      nothing = done.nothing;
      cause = later_cause-within (NthTapeRose words tells (AcceptsTapes words held m) reads reads_after) (NthTapeRose words tells (AcceptsTapesOf words held bytes) reads reads_after) answer (g.S.Sink.faults c.args.sink.now) (g.S.Sink.faults c.batch_model-status.new.sink)
          (λ rose. (rose.0, rose.1, λ told. (m, judged, rose.2 told))) done.cause;
    }

pub returns-in_default : goal.returns-in_default
returns-in_default g c =
    let words = map string_bytes c.args.words.now in
    let cabinet = c.args.cabinet.now in
    let tells = g.C.Cabinet.tells cabinet in
    let held = g.C.Cabinet.holds cabinet in
    let reads = g.C.Cabinet.faults cabinet in
    let bytes = c.args.bytes.now in
    let fault = c.in-Err.fault in
    let judged : judged_bytes bytes ≡ Err fault = or_memory-err no_memory fault (judged_bytes bytes) (λ same. c.in_default.not-Memory (ap (λ f. f.code) same)) c.in-Err.ensures in
    let outcome = model_refused fault in
    let before = c.args.sink.now in
    let after = c.refuse_model.new.sink in
    record {
      outcome = λ told. answers-from_ends g.S.Sink.holds g.S.Sink.faults before after (IsBatchFileOutcome held words bytes) outcome c.refuse_model.result (Err fault, sym judged, refl) c.refuse_model.ensures;
      nothing = leaves-from_ends g.S.Sink.holds g.S.Sink.faults before after outcome c.refuse_model.result c.refuse_model.ensures;
      cause = later_cause-from_ends g.S.Sink.holds g.S.Sink.faults before after (NthTapeRose words tells (AcceptsTapesOf words held bytes) reads reads) outcome c.refuse_model.result tt c.refuse_model.ensures;
    }
