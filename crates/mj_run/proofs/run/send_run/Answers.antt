use Rattle.std.proofs.Common.{refl, sym, ap, ◌++◌, length}
use Rattle.mj_io.proofs.Sent.{sent-then, sent-past}
use Rattle.mj_run.specs.Controls.{controls_at, tape_of}
use Rattle.mj_run.specs.Course.{done_blocks, end_of}
use Rattle.mj_run.specs.Run.{course}
use Rattle.mj_trace.specs.Trace.{header_text, end_text}
use Rattle.mj_run.proofs.run.send_run.Goals as goal

pub returns-clause-sent : goal.returns-clause-sent
returns-clause-sent g c =
    let m = c.args.model.now in
    let driven = controls_at (length m.motors) (tape_of c.args.controls.now) in
    sent-then (sent-then c.send_header.ensures.sent c.in_ok-end.ensures.sent refl) c.send_end.ensures.sent
    (ap (λ end. (header_text m.format m.nq m.nv c.args.steps ++ done_blocks (course c.args.wants m driven) c.args.steps) ++ end_text end) (sym c.in_ok-end.ensures.end))

pub returns-in_err-end-clause-sent : goal.returns-in_err-end-clause-sent
returns-in_err-end-clause-sent g c =
    let m = c.args.model.now in
    let driven = controls_at (length m.motors) (tape_of c.args.controls.now) in
    sent-past (end_text (end_of (course c.args.wants m driven) c.args.steps)) (sent-then c.send_header.ensures.sent c.in_err-end.ensures.sent refl) refl c.in_err-end.ensures.end
