use Rattle.std.proofs.Common.{◌≡◌, ◌∙◌, map, string_bytes, sym, subst, IsTrue, Bool, Err, ap}
use Rattle.mj_io.specs.declared.cabinet.CabinetFault.TheVariants as cabinet
use Rattle.mj_io.proofs.Faults.{Rose-after}
use Rattle.mj_io.proofs.Growth.{Gives-held}
use Rattle.mj_top.specs.Outcome.{tape_cap}
use Rattle.mj_top.proofs.Taken.{taken-next}
use Rattle.mj_top.proofs.batch.add_tape.Goals as goal

pub returns-in-Ok : goal.returns-in-Ok
returns-in-Ok g c = record {
  reads = record { still = c.in-Ok.ensures.tells_on; same = c.in-Ok.ensures.holds_on; later = c.in-Ok.ensures.later };
  next = λ tells held reads on taken.
      let words = map string_bytes c.args.words.now in
      let name = c.tape_name.result.now in
      taken-next words tells held c.args.model.now c.args.k c.args.room c.args.jobs.now.items name c.as_slice.result.now c.tape_name.ensures
      (λ told.
      let P = λ (b : Bool). IsTrue b in
      let here = Gives-held (g.C.Cabinet.holds c.args.cabinet.now name) tape_cap c.in-Ok.bytes.items (c.in-Ok.ensures.gives (subst P (sym on.still) told)) in
      (here.0, sym (on.same name) ∙ here.1, c.as_slice.ensures.value ∙ here.2))
      c.add_tape_file.new.jobs.items reads (g.C.Cabinet.faults c.read.new.self) c.add_tape_file.result taken c.add_tape_file.ensures;
}

pub returns-in-Err-Failed : goal.returns-in-Err-Failed
returns-in-Err-Failed g c = record {
  reads = record { still = c.in-Err-Failed.ensures.tells_on; same = c.in-Err-Failed.ensures.holds_on; later = c.in-Err-Failed.ensures.later };
  next = λ tells held reads on taken.
      let name = c.tape_name.result.now in
      let failed : c.in-Err-Failed.field-0 ≡ cabinet.Failed = (let is = c.in-Err-Failed.field-0-is in cc) in
      let rose = c.in-Err-Failed.ensures.cause (ap Err failed) in
      (c.args.k, (name, c.tape_name.ensures, Rose-after (reads name) (g.C.Cabinet.faults c.args.cabinet.now name) (g.C.Cabinet.faults c.read.new.self name) (on.later name) rose), λ told. (taken.tapes, taken.count, taken.accepted told));
}
