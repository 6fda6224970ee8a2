-- The definitions at a tree of four bodies: 1 on the world, 2 and 3 on 1, 4 on 3. Two of its dofs are of body 1, one of 2, one of 4.
use Rattle.std.proofs.Common.{◌≡◌, ℕ, zero, suc, Bool, true, false, List, [], ◌∷◌, ◌<◌, ◌≤◌, ◌+◌, slice_index_or, length, refl, arith, inl, inr}
use Rattle.std.proofs.lemmas.Bool.{cases_lt}
use Rattle.std.proofs.lemmas.List.{get_or_past}
use Rattle.fx_whole.specs.Adding.{naturals}
use Rattle.mj_tree.specs.Tree.{IsTree, IsLayout, at_or_above, moves, above}
use Rattle.mj_tree.specs.TreeSums.{sum_under, sum_moving, sum_before, climb, held}
use Rattle.mj_tree.specs.Listing.{height, start, listed, IsListing, AreEnds, IsListedTo}
use Rattle.mj_tree.proofs.WritingLaws.{ends_begin, ends_more, listed_begin, listed_skip, listed_push, listed_row, listing_from}
use Rattle.mj_tree.proofs.DofLaws.{layout_begin, layout_body, layout_dof}

-- the parent function of a list of parents
abbrev pub parent_in : List ℕ → ℕ → ℕ
parent_in parents zero = 0
parent_in parents (suc i) = slice_index_or parents i 0

-- each parent stands before its child
parents_are_a_tree : (parents : List ℕ) → ((i : ℕ) → i < length parents → slice_index_or parents i 0 ≤ i) → IsTree (parent_in parents)
parents_are_a_tree parents h = record { world = refl; before = each }
  where
    each : (b : ℕ) → 0 < b → parent_in parents b < b
    each zero l = absurd (omega arith)
    each (suc i) l = elim (cases_lt i (length parents)) [ inl p ↦ omega (arith, h i p) | inr p ↦ omega (arith, get_or_past parents i 0 p) ]

parent : ℕ → ℕ
parent = parent_in (0 ∷ 1 ∷ 1 ∷ 3 ∷ [])

body : ℕ → ℕ
body j = slice_index_or (1 ∷ 1 ∷ 2 ∷ 4 ∷ []) j 0

number : ℕ → ℕ
number j = suc j

is_above : ℕ → ℕ → Bool
is_above i k = above parent body i k

names : List ℕ
names = 1 ∷ 1 ∷ 2 ∷ 1 ∷ 2 ∷ []

pub is_a_tree : IsTree (parent_in (0 ∷ 1 ∷ 1 ∷ 3 ∷ []))
is_a_tree = parents_are_a_tree (0 ∷ 1 ∷ 1 ∷ 3 ∷ []) each
  where
    each : (i : ℕ) → i < 4 → slice_index_or (0 ∷ 1 ∷ 1 ∷ 3 ∷ []) i 0 ≤ i
    each zero h = omega arith
    each (suc zero) h = omega arith
    each (suc (suc zero)) h = omega arith
    each (suc (suc (suc zero))) h = omega arith
    each (suc (suc (suc (suc i)))) h = absurd (omega arith)

one_above_four : at_or_above parent 1 4 ≡ true
unfolding at_or_above parent
one_above_four = refl

two_not_above_four : at_or_above parent 2 4 ≡ false
unfolding at_or_above parent
two_not_above_four = refl

last_dof_moves_four : moves parent body 3 4 ≡ true
unfolding at_or_above parent body
last_dof_moves_four = refl

last_dof_not_three : moves parent body 3 3 ≡ false
unfolding at_or_above parent body
last_dof_not_three = refl

-- 1 + 2 + 3 + 4, and 3 + 4
under_one : sum_under naturals parent 5 (λ b. b) 1 ≡ 10
unfolding at_or_above parent
under_one = refl

under_three : sum_under naturals parent 5 (λ b. b) 3 ≡ 7
unfolding at_or_above parent
under_three = refl

-- once 4 and 3 were added to their parents: 1 + 3 + 4, and 2 alone
held_by_one : held naturals parent 5 (λ b. b) 2 1 ≡ 8
unfolding climb parent
held_by_one = refl

held_by_two : held naturals parent 5 (λ b. b) 2 2 ≡ 2
unfolding climb parent
held_by_two = refl

-- the dofs 1, 2 and 4
moving_four : sum_moving naturals parent body 4 number 4 ≡ 7
unfolding at_or_above parent body number
moving_four = refl

moving_world : sum_moving naturals parent body 4 number 0 ≡ 0
unfolding at_or_above parent body number
moving_world = refl

before_last : sum_before naturals parent body (λ j. j) number 3 ≡ 3
unfolding at_or_above parent body number
before_last = refl

height_of_last : height is_above 3 ≡ 2
unfolding at_or_above parent body is_above
height_of_last = refl

start_of_last : start is_above 3 ≡ 3
unfolding at_or_above parent body is_above
start_of_last = refl

last_lists_first : listed is_above names 3 0 ≡ 0
unfolding at_or_above parent body is_above names
last_lists_first = refl

last_lists_second : listed is_above names 3 1 ≡ 1
unfolding at_or_above parent body is_above names
last_lists_second = refl

-- its listing, written dof after dof
is_a_listing : IsListing is_above 4 (0 ∷ 0 ∷ 1 ∷ 3 ∷ 5 ∷ []) names
unfolding at_or_above parent body is_above names
is_a_listing = listing_from is_above 4 (0 ∷ 0 ∷ 1 ∷ 3 ∷ 5 ∷ []) names ends (row 3 last)
  where
    row : (k : ℕ) {xs : List ℕ} → IsListedTo is_above k k xs → IsListedTo is_above (k + 1) 0 xs
    row k {xs} h = listed_row is_above k xs h

    ends : AreEnds is_above 4 (0 ∷ 0 ∷ 1 ∷ 3 ∷ 5 ∷ [])
    ends =
        ends_more is_above 3 (0 ∷ 0 ∷ 1 ∷ 3 ∷ []) 5 (ends_more is_above 2 (0 ∷ 0 ∷ 1 ∷ []) 3
        (ends_more is_above 1 (0 ∷ 0 ∷ []) 1 (ends_more is_above 0 (0 ∷ []) 0 (ends_begin is_above) refl) refl) refl) refl

    second : IsListedTo is_above 1 1 (1 ∷ [])
    second = listed_push is_above 1 0 [] (omega arith) (row 0 (listed_begin is_above)) refl

    third : IsListedTo is_above 2 2 (1 ∷ 1 ∷ 2 ∷ [])
    third = listed_push is_above 2 1 (1 ∷ 1 ∷ []) (omega arith) (listed_push is_above 2 0 (1 ∷ []) (omega arith) (row 1 second) refl) refl

    last : IsListedTo is_above 3 3 names
    last =
        listed_skip is_above 3 2 names
        (listed_push is_above 3 1 (1 ∷ 1 ∷ 2 ∷ 1 ∷ []) (omega arith) (listed_push is_above 3 0 (1 ∷ 1 ∷ 2 ∷ []) (omega arith) (row 2 third) refl) refl) refl

-- and its layout: the first dofs of the bodies 0 to 4
first : ℕ → ℕ
first b = slice_index_or (0 ∷ 0 ∷ 2 ∷ 3 ∷ 3 ∷ []) b 0

is_a_layout : IsLayout parent body first 4 4
unfolding parent body first
is_a_layout = dof 3 3 (next 3 3 (next 2 3 (dof 1 2 (next 1 2 (dof 0 1 (dof 0 0 (next 0 0 none refl) refl) refl) refl) refl) refl) refl) refl
  where
    none : IsLayout parent body first 0 0
    none = layout_begin parent body first is_a_tree refl

    next : (b d : ℕ) → IsLayout parent body first b d → first (b + 1) ≡ d → IsLayout parent body first (b + 1) d
    next b d = layout_body parent body first b d

    dof : (b d : ℕ) → IsLayout parent body first (b + 1) d → body d ≡ b + 1 → IsLayout parent body first (b + 1) (d + 1)
    dof b d h e = layout_dof parent body first (b + 1) d h (omega arith) e
