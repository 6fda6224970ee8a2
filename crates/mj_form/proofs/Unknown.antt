-- A table's keys ascend, so its first unknown key is the least one.
use Rattle.std.proofs.Common.{◌≡◌, ℕ, Bool, true, false, List, [], ◌∷◌, Option, Some, None, String, Global, Ordering, Less, Equal, Greater, string_bytes, nat_cmp, refl, sym, ap, ◌∙◌, if◌then◌else◌}
use Rattle.std.specs.Ordering.{is_lt, ordering_reverse}
use Rattle.std.specs.List.{AllByRecursion}
use Rattle.std.specs.List.Sorted.{IsStrictlySortedBy}
use Rattle.std.specs.Map.{keys_of}
use Rattle.std.specs.String.{string_cmp}
use Rattle.std.specs.Cmp.Lexicographic.{slice_cmp}
use Rattle.std.proofs.lemmas.Cmp.{nat_list_cmp_total}
use Rattle.toml.specs.View.{members_view}
use Rattle.toml.proofs.Views.{Entry}
use Rattle.mj_form.specs.Keys.{is_one_of, lesser, least_unknown}

-- the key comes before the other, if there is another
abbrev pub IsBelow : List ℕ → Option (List ℕ) → Type 0
IsBelow key None = Unit {0}
IsBelow key (Some other) = slice_cmp nat_cmp key other ≡ Less

lesser-below : (key other : List ℕ) (found : Option (List ℕ)) → slice_cmp nat_cmp key other ≡ Less → IsBelow key found → IsBelow key (lesser other found)
lesser-below key other None h below = h
lesser-below key other (Some x) h below =
    elim (is_lt (slice_cmp nat_cmp x other)) as (λ b. IsBelow key (if b then Some x else Some other)) [ true ↦ below | false ↦ h ]

below-all : (keys : List (List ℕ)) (key : List ℕ) (es : List Entry) → AllByRecursion (λ y. slice_cmp nat_cmp key (string_bytes y) ≡ Less) (keys_of es) → IsBelow key (least_unknown keys (members_view es))
below-all keys key [] h = tt
below-all keys key (e ∷ es) h =
    elim (is_one_of (string_bytes e.0) keys) as (λ b. IsBelow key (if b then least_unknown keys (members_view es) else lesser (string_bytes e.0) (least_unknown keys (members_view es)))) [
      | true ↦ below-all keys key es h.1
      | false ↦ lesser-below key (string_bytes e.0) (least_unknown keys (members_view es)) h.0 (below-all keys key es h.1)
    ]

lesser-first : (key : List ℕ) (found : Option (List ℕ)) → IsBelow key found → lesser key found ≡ Some key
lesser-first key None below = refl
lesser-first key (Some other) below =
    rw (nat_list_cmp_total.antisymm other key, below)

-- the first key is known: the least unknown one is among the others
pub least-later : (keys : List (List ℕ)) (e : Entry) (es : List Entry) → is_one_of (string_bytes e.0) keys ≡ true → least_unknown keys (members_view (e ∷ es)) ≡ least_unknown keys (members_view es)
least-later keys e es known = rw known

-- the first key is unknown: it is the least
pub least-first : (keys : List (List ℕ)) (e : Entry) (es : List Entry) → IsStrictlySortedBy string_cmp (keys_of (e ∷ es)) → is_one_of (string_bytes e.0) keys ≡ false → least_unknown keys (members_view (e ∷ es)) ≡ Some (string_bytes e.0)
unfolding IsStrictlySortedBy
least-first keys e es sorted unknown =
    rw unknown (lesser-first (string_bytes e.0) _ (below-all keys (string_bytes e.0) es sorted.0))
