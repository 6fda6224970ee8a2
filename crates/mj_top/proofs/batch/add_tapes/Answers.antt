use Rattle.std.proofs.Common.{◌≡◌, ℕ, List, map, string_bytes, sym, subst, arith}
use Rattle.mj_run.specs.declared.job.RunJob.{RunJob}
use Rattle.mj_words.specs.Words.{tape_count}
use Rattle.mj_top.specs.Outcome.{tape_room}
use Rattle.mj_top.specs.Taking.{HasTaken}
use Rattle.mj_top.proofs.Taken.{reads-none, reads-then, taken-none}
use Rattle.mj_top.proofs.batch.add_tapes.Goals as goal

pub loop-k-init : goal.loop-k-init
loop-k-init g c =
    let words = map string_bytes c.args.words.now in
    let cabinet = c.args.cabinet.now in
    let tells = g.C.Cabinet.tells cabinet in
    let held = g.C.Cabinet.holds cabinet in
    let P = λ (jobs : List RunJob). HasTaken words tells held c.args.model.now 0 tape_room jobs in
    record {
      reads = reads-none tells held (g.C.Cabinet.faults cabinet);
      taken = subst P (sym c.requires.empty) (taken-none words tells held c.args.model.now);
    }

pub add_tape-requires : goal.add_tape-requires
add_tape-requires g c =
    let few = c.tape_count-k-end.ensures.few c.requires.good c.requires.batch in
    let value = c.tape_count-k-end.ensures.value in
    let taken = c.loop-k.invariant.taken in
    let here = c.loop-k-test.true in
    record {
      named = omega (arith, here, value);
      place = omega (arith, here, few);
      few = omega (arith, here, few, taken.due.many, taken.count);
    }

pub loop-k-preserved : goal.loop-k-preserved
loop-k-preserved g c =
    let cabinet = c.args.cabinet.now in
    let so_far = c.loop-k.invariant in
    let tells = g.C.Cabinet.tells in
    let holds = g.C.Cabinet.holds in
    let faults = g.C.Cabinet.faults in
    record {
      reads = reads-then (tells cabinet) (tells c.loop-k.cabinet) (tells c.add_tape.new.cabinet) (holds cabinet) (holds c.loop-k.cabinet) (holds c.add_tape.new.cabinet)
          (faults cabinet) (faults c.loop-k.cabinet) (faults c.add_tape.new.cabinet) so_far.reads c.in-Ok.ensures.reads;
      taken = c.in-Ok.ensures.next (tells cabinet) (holds cabinet) (faults cabinet) so_far.reads so_far.taken;
    }

pub returns-in-Err : goal.returns-in-Err
returns-in-Err g c =
    let cabinet = c.args.cabinet.now in
    let so_far = c.loop-k.invariant in
    c.in-Err.ensures.next (g.C.Cabinet.tells cabinet) (g.C.Cabinet.holds cabinet) (g.C.Cabinet.faults cabinet) so_far.reads so_far.taken

pub returns : goal.returns
returns g c =
    let words = map string_bytes c.args.words.now in
    let cabinet = c.args.cabinet.now in
    let all : c.loop-k.k ≡ tape_count words = omega (arith, c.tape_count-k-end.ensures.value) in
    let P = λ (k : ℕ). HasTaken words (g.C.Cabinet.tells cabinet) (g.C.Cabinet.holds cabinet) c.args.model.now k c.loop-k.room c.loop-k.jobs.items in
    (c.loop-k.room, subst P all c.loop-k.invariant.taken)
