use Rattle.std.proofs.Common.{◌≡◌, ◌+◌, drop}
use Rattle.toml.specs.View.{items_view}
use Rattle.mj_form.specs.Forms.{is_float}
use Rattle.mj_form.specs.Keys.{first_item}
use Rattle.mj_form.proofs.table.first_float.Given as goal

abbrev pub invariant-loop-at : goal.invariant-loop-at
invariant-loop-at l =
    first_item is_float (l.at + 1) (items_view (drop l.at l.values)) ≡ first_item is_float 1 (items_view l.values)
