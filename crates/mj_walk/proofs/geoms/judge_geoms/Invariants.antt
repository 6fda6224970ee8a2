use Rattle.std.proofs.Common.{◌≡◌, drop}
use Rattle.mj_form.proofs.Lists.{after}
use Rattle.mj_walk.specs.Walks.{each}
use Rattle.mj_walk.specs.Tables.{geom_item}
use Rattle.mj_walk.proofs.geoms.judge_geoms.Given as goal

-- those so far, and those that are left
abbrev pub invariant-loop-i : goal.invariant-loop-i
invariant-loop-i l =
    after l.found.items (each (geom_item l.before l.own l.number l.on_world) l.i (drop l.i l.own)) ≡ each (geom_item l.before l.own l.number l.on_world) 0 l.own
