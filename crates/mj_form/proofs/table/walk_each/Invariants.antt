use Rattle.std.proofs.Common.{◌≡◌, ◌+◌, drop}
use Rattle.toml.specs.View.{items_view}
use Rattle.mj_form.specs.Keys.{each, walk_item}
use Rattle.mj_form.proofs.Lists.{after}
use Rattle.mj_form.proofs.table.walk_each.Given as goal

-- the tables so far, and those that are left
abbrev pub invariant-loop-at : goal.invariant-loop-at
invariant-loop-at g l =
    let walk = walk_item (g.T.Walk.walked l.format) l.key in
    after l.found.items (each walk (l.at + 1) (items_view (drop l.at l.values))) ≡ each walk 1 (items_view l.values)
