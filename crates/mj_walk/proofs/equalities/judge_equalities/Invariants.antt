use Rattle.std.proofs.Common.{◌≡◌, drop}
use Rattle.mj_form.proofs.Lists.{after}
use Rattle.mj_walk.specs.Walks.{each}
use Rattle.mj_walk.specs.Tables.{equality_item}
use Rattle.mj_walk.proofs.equalities.judge_equalities.Given as goal

-- those so far, and those that are left
abbrev pub invariant-loop-i : goal.invariant-loop-i
invariant-loop-i l =
    after l.found.items (each (equality_item l.joints l.all) l.i (drop l.i l.all)) ≡ each (equality_item l.joints l.all) 0 l.all
