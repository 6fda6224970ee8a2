use Rattle.std.proofs.Common.{◌≡◌, Ok, Err, inr, refl, sym, ap, ◌∙◌}
use Rattle.mj_io.proofs.Memory.{or_memory-ok, or_memory-err}
use Rattle.mj_read.specs.Document.{no_memory}
use Rattle.mj_valid.specs.Judging.{accepted_of, judged_bytes}
use Rattle.mj_top.specs.Outcome.{IsBenchOutcome, benched, model_refused}
use Rattle.mj_top.proofs.Endings.{meant-from_either}
use Rattle.mj_top.proofs.bench.bench_text.Goals as goal

pub returns-in-Ok : goal.returns-in-Ok
returns-in-Ok g c =
    let m = c.in-Ok.model in
    let seed = c.args.seed in
    let links = c.args.links in
    let n = c.args.steps in
    let judged : judged_bytes c.args.bytes.now ≡ Ok (accepted_of m) = or_memory-ok no_memory (accepted_of m) (judged_bytes c.args.bytes.now) c.in-Ok.ensures in
    meant-from_either g.S.Sink.holds g.S.Sink.faults c.args.sink.now c.bench_model-status.new.sink (IsBenchOutcome seed links n) c.bench_model-status.result
    (benched seed links n m) (Ok m, sym judged ∙ ap judged_bytes c.requires.text, refl) c.bench_model-status.ensures

pub returns-in_default : goal.returns-in_default
returns-in_default g c =
    let fault = c.in-Err.fault in
    let bytes = c.args.bytes.now in
    let judged : judged_bytes bytes ≡ Err fault = or_memory-err no_memory fault (judged_bytes bytes) (λ same. c.in_default.not-Memory (ap (λ f. f.code) same)) c.in-Err.ensures in
    inr (model_refused fault, (Err fault, sym judged ∙ ap judged_bytes c.requires.text, refl), c.refuse_model.ensures)
