use Rattle.std.proofs.Common.{◌≡◌, map}
use Rattle.std.specs.List.Sorted.{IsStrictlySortedBy}
use Rattle.std.specs.Map.{keys_of}
use Rattle.std.specs.String.{string_cmp}
use Rattle.toml.specs.View.{members_view}
use Rattle.mj_form.specs.Keys.{least_unknown}
use Rattle.mj_form.proofs.key.least_unknown.Given as goal

-- the keys that are left ascend, and have the least unknown one
abbrev pub invariant-members : goal.invariant-members
invariant-members l =
    (goal.iterator-members).can_next l.key-iterator × (goal.iterator-members).is_finite l.key-iterator
    × IsStrictlySortedBy string_cmp (keys_of l.key-iterator)
    × (least_unknown (map (λ k. k.now) l.keys) (members_view l.key-iterator) ≡ least_unknown (map (λ k. k.now) l.keys) (members_view l.table.entries))
