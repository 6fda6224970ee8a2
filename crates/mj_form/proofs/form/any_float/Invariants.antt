use Rattle.std.proofs.Common.{◌≡◌, drop}
use Rattle.toml.specs.View.{items_view}
use Rattle.mj_form.specs.Forms.{any_item, is_float}
use Rattle.mj_form.proofs.form.any_float.Given as goal

abbrev pub invariant-loop-value : goal.invariant-loop-value
invariant-loop-value l = any_item is_float (items_view (drop l.value-index l.values)) ≡ any_item is_float (items_view l.values)
