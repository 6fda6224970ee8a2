use Rattle.std.proofs.Common.{◌≡◌, ◌+◌, drop, not}
use Rattle.toml.specs.View.{items_view}
use Rattle.mj_form.specs.Forms.{is_table}
use Rattle.mj_form.specs.Keys.{first_item}
use Rattle.mj_form.proofs.table.first_other.Given as goal

abbrev pub invariant-loop-at : goal.invariant-loop-at
invariant-loop-at l =
    first_item (λ value. not (is_table value)) (l.at + 1) (items_view (drop l.at l.values)) ≡ first_item (λ value. not (is_table value)) 1 (items_view l.values)
