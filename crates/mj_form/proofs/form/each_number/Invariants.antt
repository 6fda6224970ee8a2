use Rattle.std.proofs.Common.{◌≡◌, drop}
use Rattle.toml.specs.View.{items_view}
use Rattle.mj_form.specs.Forms.{each_number}
use Rattle.mj_form.proofs.Lists.{after}
use Rattle.mj_form.proofs.form.each_number.Given as goal

-- the numbers so far, and those of the values that are left
abbrev pub invariant-loop-value : goal.invariant-loop-value
invariant-loop-value g l =
    after l.found.items (each_number g.row.F (items_view (drop l.value-index l.values))) ≡ each_number g.row.F (items_view l.values)
