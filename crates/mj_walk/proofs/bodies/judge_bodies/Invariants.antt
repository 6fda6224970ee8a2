use Rattle.std.proofs.Common.{◌≡◌, drop}
use Rattle.mj_form.proofs.Lists.{after}
use Rattle.mj_walk.specs.Walks.{each}
use Rattle.mj_walk.specs.Tables.{body_item}
use Rattle.mj_walk.proofs.bodies.judge_bodies.Given as goal

-- those so far, and those that are left
abbrev pub invariant-loop-i : goal.invariant-loop-i
invariant-loop-i l =
    after l.found.items (each (body_item l.all) l.i (drop l.i l.all)) ≡ each (body_item l.all) 0 l.all
