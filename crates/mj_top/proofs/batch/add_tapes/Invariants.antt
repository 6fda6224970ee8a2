use Rattle.std.proofs.Common.{map, string_bytes}
use Rattle.mj_top.specs.Taking.{ReadsOn, HasTaken}
use Rattle.mj_top.proofs.batch.add_tapes.Given as goal

abbrev pub invariant-loop-k : goal.invariant-loop-k
invariant-loop-k g l =
    let cabinet = l.initial.cabinet in
    record {
      reads : ReadsOn (g.C.Cabinet.tells cabinet) (g.C.Cabinet.tells l.cabinet) (g.C.Cabinet.holds cabinet) (g.C.Cabinet.holds l.cabinet) (g.C.Cabinet.faults cabinet) (g.C.Cabinet.faults l.cabinet);
      taken : HasTaken (map string_bytes l.words) (g.C.Cabinet.tells cabinet) (g.C.Cabinet.holds cabinet) l.model l.k l.room l.jobs.items;
    }
