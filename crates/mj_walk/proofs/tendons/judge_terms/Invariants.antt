use Rattle.std.proofs.Common.{◌≡◌, drop}
use Rattle.mj_form.proofs.Lists.{after}
use Rattle.mj_walk.specs.Walks.{each}
use Rattle.mj_walk.specs.Tables.{term_item}
use Rattle.mj_walk.proofs.tendons.judge_terms.Given as goal

-- those so far, and those that are left
abbrev pub invariant-loop-i : goal.invariant-loop-i
invariant-loop-i l =
    after l.found.items (each (term_item l.joints l.all) l.i (drop l.i l.all)) ≡ each (term_item l.joints l.all) 0 l.all
