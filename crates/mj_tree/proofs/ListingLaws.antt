-- The laws of `height`, `start` and `IsListing`: where a dof stands in the list of another, and sums over what is listed.
use Rattle.std.proofs.Common.{◌≡◌, ℕ, zero, suc, ◌+◌, ◌<◌, ◌≤◌, ◌==◌, nat_lt, Bool, true, false, ◌&&◌, List, length, slice_index_or, ℤ, pos, Option, None, sym, ap, ◌∙◌, subst, arith, inl, inr}
use Rattle.std.proofs.lemmas.Bool.{cases_lt, cases_Bool, both_ways, and_parts, and_from, false_from_ne_true, eq-eqb, lt-ltb, ltb-true, eqb-true, cond-true, cond-false}
use Rattle.fx_whole.specs.Adding.{Adding, IsAdding, sum_in, when_in}
use Rattle.fx_whole.specs.Counting.{count_to}
use Rattle.fx_whole.specs.First.{first_to}
use Rattle.fx_whole.specs.Sums.{sum_to, when}
use Rattle.fx_whole.proofs.AddingLaws.{sum_in-ext, sum_in-past, when_in-true, when_in-false}
use Rattle.fx_whole.proofs.CountLaws.{count_to-ext, count_to-mono, count_to-below, count_to-size, sum_in-listed, sum_to-listed, first_to-listed}
use Rattle.fx_whole.proofs.SumLaws.{sum_to-ext, sum_ℕ_to-more, sum_ℕ_to-le, when-true, when-false}
use Rattle.mj_tree.specs.Tree.{IsForest}
use Rattle.mj_tree.specs.Listing.{height, start, IsListing, listed}

-- the place that passes after c others
pub count_to_reach : (n : ℕ) (p : ℕ → Bool) (c : ℕ) → c < count_to n p → (i : ℕ) × (i < n) × (p i ≡ true) × (count_to i p ≡ c)
count_to_reach zero p c h = absurd (omega arith)
count_to_reach (suc n) p c h =
    elim (cases_lt c (count_to n p)) [
      | inl l ↦ let found = count_to_reach n p c l in (found.0, omega (arith, found.1), found.2, found.3)
      | inr l ↦ elim (cases_Bool (p n)) [
        | inl e ↦ let same : count_to n p ≡ c = omega (arith, h, cond-true {A = ℕ} (p n) 1 0 e) in (n, omega arith, e, same)
        | inr e ↦ absurd (omega (arith, h, cond-false {A = ℕ} (p n) 1 0 e))
      ]
    ]

-- ---- heights and starts
pub start_more : (above : ℕ → ℕ → Bool) (k : ℕ) → start above (k + 1) ≡ start above k + height above k
start_more above k = sum_ℕ_to-more k (height above)

pub start_le : (above : ℕ → ℕ → Bool) (k l : ℕ) → k ≤ l → start above k ≤ start above l
start_le above k l h = sum_ℕ_to-le k l (height above) h

-- each list ends before or at the end of all
pub start_within : (above : ℕ → ℕ → Bool) (k n : ℕ) → k < n → start above k + height above k ≤ start above n
start_within above k n h = omega (arith, start_more above k, start_le above (k + 1) n (omega arith))

pub height_le : (above : ℕ → ℕ → Bool) (k : ℕ) → height above k ≤ k
height_le above k = count_to-size k (λ i. above i k)

module _ (n : ℕ) (above : ℕ → ℕ → Bool) (forest : IsForest n above) where
  -- those above k that come before i are those above i
  pub height_place : (i k : ℕ) → k < n → above i k ≡ true → count_to i (λ j. above j k) ≡ height above i
  height_place i k h p = count_to-ext i (λ j. above j k) (λ j. above j i) each
    where
      each : (j : ℕ) → j < i → above j k ≡ above j i
      each j l =
          elim (cases_Bool (above j k)) [
            | inl q ↦ q ∙ sym (forest.between j i k h l q p)
            | inr q ↦ q ∙ sym (false_from_ne_true (above j i) (λ t. both_ways (above j k) q (forest.through j i k h t p)))
          ]

  pub height_less : (i k : ℕ) → k < n → above i k ≡ true → height above i < height above k
  height_less i k h p = omega (arith, height_place i k h p, count_to-below i k (λ j. above j k) (forest.before i k p) p)

  pub none_later_is_above : (i k : ℕ) → k ≤ i → above i k ≡ false
  none_later_is_above i k h = false_from_ne_true (above i k) (λ t. omega (arith, forest.before i k t))

-- ---- a listing
module _ (above : ℕ → ℕ → Bool) (n : ℕ) (at names : List ℕ) (listing : IsListing above n at names) where
  pub named_at : (k i : ℕ) → k < n → i < k → above i k ≡ true → listed above names k (count_to i (λ j. above j k)) ≡ i
  named_at k i h l p = omega (arith, listing.named k i h l p)

  -- the list of k, as the places say it
  pub list_begins : (k : ℕ) → k < n → slice_index_or at k 0 ≡ start above k
  list_begins k h = listing.starts k (omega arith)

  pub list_ends : (k : ℕ) → k < n → slice_index_or at (k + 1) 0 ≡ start above k + height above k
  list_ends k h = listing.starts (k + 1) (omega arith) ∙ start_more above k

  -- so its length is told by the places
  pub list_length : (k : ℕ) → k < n → slice_index_or at (k + 1) 0 ≡ slice_index_or at k 0 + height above k
  list_length k h = omega (arith, list_begins k h, list_ends k h)

  pub list_within : (k : ℕ) → k < n → start above k + height above k ≤ length names
  list_within k h = omega (arith, start_within above k n h, listing.whole)

  -- each name is one of a dof above
  find : (k c : ℕ) → k < n → c < height above k → (i : ℕ) × (i < k) × (above i k ≡ true) × (count_to i (λ j. above j k) ≡ c) × (slice_index_or names (start above k + c) 0 ≡ i + 1)
  find k c h l =
      let found = count_to_reach k (λ i. above i k) c l in
      (found.0, found.1, found.2, found.3, ap (λ (x : ℕ). slice_index_or names (start above k + x) 0) (sym found.3) ∙ listing.named k found.0 h found.1 found.2)

  pub name_positive : (k c : ℕ) → k < n → c < height above k → 0 < slice_index_or names (start above k + c) 0
  name_positive k c h l = let found = find k c h l in omega (arith, found.4)

  pub name_le : (k c : ℕ) → k < n → c < height above k → slice_index_or names (start above k + c) 0 ≤ k
  name_le k c h l = let found = find k c h l in omega (arith, found.1, found.4)

  pub listed_is : (k c : ℕ) → k < n → c < height above k → slice_index_or names (start above k + c) 0 ≡ listed above names k c + 1
  listed_is k c h l = omega (arith, name_positive k c h l)

  pub listed_is_before : (k c : ℕ) → k < n → c < height above k → listed above names k c < k
  listed_is_before k c h l = omega (arith, name_positive k c h l, name_le k c h l)

  pub listed_is_above : (k c : ℕ) → k < n → c < height above k → above (listed above names k c) k ≡ true
  listed_is_above k c h l =
      let found = find k c h l in
      let e : found.0 ≡ listed above names k c = omega (arith, found.4) in
      subst (λ (x : ℕ). above x k ≡ true) e found.2

  pub listed_place : (k c : ℕ) → k < n → c < height above k → count_to (listed above names k c) (λ j. above j k) ≡ c
  listed_place k c h l =
      let found = find k c h l in
      let e : found.0 ≡ listed above names k c = omega (arith, found.4) in
      subst (λ (x : ℕ). count_to x (λ j. above j k) ≡ c) e found.3

  -- in ascending order
  pub listed_ascends : (k c d : ℕ) → k < n → c < d → d < height above k → listed above names k c < listed above names k d
  listed_ascends k c d h l p =
      elim (cases_lt (listed above names k c) (listed above names k d)) [
        | inl q ↦ q
        | inr q ↦
            absurd (omega (
              arith,
              listed_place k c h (omega arith),
              listed_place k d h p,
              count_to-mono (listed above names k d) (listed above names k c) (λ j. above j k) q,
            ))
      ]

  -- ---- sums and first faults over the earlier dofs are those over the list
  pub sum_listed : {A : Type 0} → (m : Adding A) → IsAdding m → (k : ℕ) → k < n → (f : ℕ → A)
      → sum_in m k (λ i. when_in m (above i k) (f i)) ≡ sum_in m (height above k) (λ c. f (listed above names k c))
  sum_listed m laws k h f = sum_in-listed m laws k (λ i. above i k) (listed above names k) f (λ i l p. named_at k i h l p)

  -- where what isn't listed adds nothing
  pub sum_over_listed : {A : Type 0} → (m : Adding A) → IsAdding m → (k : ℕ) → k < n → (f : ℕ → A)
      → ((i : ℕ) → i < k → above i k ≡ false → f i ≡ m.empty) → sum_in m k f ≡ sum_in m (height above k) (λ c. f (listed above names k c))
  sum_over_listed m laws k h f none =
      sum_in-ext m k f (λ i. when_in m (above i k) (f i)) each ∙ sum_listed m laws k h f
    where
      each : (i : ℕ) → i < k → f i ≡ when_in m (above i k) (f i)
      each i l =
          elim (cases_Bool (above i k)) [
            | inl e ↦ sym (when_in-true m (above i k) (f i) e)
            | inr e ↦ none i l e ∙ sym (when_in-false m (above i k) (f i) e)
          ]

  pub sum_to_listed : (k : ℕ) → k < n → (f : ℕ → ℤ)
      → sum_to k (λ i. when (above i k) (f i)) ≡ sum_to (height above k) (λ c. f (listed above names k c))
  sum_to_listed k h f = sum_to-listed k (λ i. above i k) (listed above names k) f (λ i l p. named_at k i h l p)

  pub sum_to_over_listed : (k : ℕ) → k < n → (f : ℕ → ℤ) → ((i : ℕ) → i < k → above i k ≡ false → f i ≡ pos 0)
      → sum_to k f ≡ sum_to (height above k) (λ c. f (listed above names k c))
  sum_to_over_listed k h f none = sum_to-ext k f (λ i. when (above i k) (f i)) each ∙ sum_to_listed k h f
    where
      each : (i : ℕ) → i < k → f i ≡ when (above i k) (f i)
      each i l =
          elim (cases_Bool (above i k)) [
            | inl e ↦ sym (when-true (above i k) (f i) e)
            | inr e ↦ none i l e ∙ sym (when-false (above i k) (f i) e)
          ]

  pub first_over_listed : {F : Type 0} → (k : ℕ) → k < n → (f : ℕ → Option F) → ((i : ℕ) → i < k → above i k ≡ false → f i ≡ None)
      → first_to k f ≡ first_to (height above k) (λ c. f (listed above names k c))
  first_over_listed k h f none = first_to-listed k (λ i. above i k) (listed above names k) f (λ i l p. named_at k i h l p) none

  -- sums over the dofs below l, those past k too, none of which is above k
  pub sum_listed_to : {A : Type 0} → (m : Adding A) → IsAdding m → IsForest n above → (k l : ℕ) → k < n → k ≤ l → (f : ℕ → A)
      → sum_in m l (λ i. when_in m (above i k) (f i)) ≡ sum_in m (height above k) (λ c. f (listed above names k c))
  sum_listed_to m laws forest k l h p f =
      sum_in-past m laws k l (λ i. when_in m (above i k) (f i)) p
      (λ i q r. when_in-false m (above i k) (f i) (none_later_is_above n above forest i k q))
      ∙ sum_listed m laws k h f

  -- ---- with a forest a dof stands in each list that names it after as many others as are above it
  module _ (forest : IsForest n above) where
    pub place_of : (k i : ℕ) → k < n → above i k ≡ true → slice_index_or names (start above k + height above i) 0 ≡ i + 1
    place_of k i h p =
        ap (λ (x : ℕ). slice_index_or names (start above k + x) 0) (sym (height_place n above forest i k h p))
        ∙ listing.named k i h (forest.before i k p) p

    pub listed_at_height : (k i : ℕ) → k < n → above i k ≡ true → listed above names k (height above i) ≡ i
    listed_at_height k i h p = omega (arith, place_of k i h p)

    pub height_of_listed : (k c : ℕ) → k < n → c < height above k → height above (listed above names k c) ≡ c
    height_of_listed k c h l =
        sym (height_place n above forest (listed above names k c) k h (listed_is_above k c h l)) ∙ listed_place k c h l

    -- whether i is above k, by one look at k's list
    pub above_by_place : (i k : ℕ) → k < n
        → above i k ≡ (nat_lt (height above i) (height above k) && slice_index_or names (start above k + height above i) 0 == i + 1)
    above_by_place i k h =
        elim (cases_Bool (above i k)) [
          | inl e ↦
              e ∙ sym (and_from (nat_lt (height above i) (height above k)) (slice_index_or names (start above k + height above i) 0 == i + 1)
              (lt-ltb (height above i) (height above k) (height_less n above forest i k h e))
              (eq-eqb (slice_index_or names (start above k + height above i) 0) (i + 1) (place_of k i h e)))
          | inr e ↦ e ∙ sym (false_from_ne_true _ (λ t. both_ways (above i k) e (from t)))
        ]
      where
        from : (nat_lt (height above i) (height above k) && slice_index_or names (start above k + height above i) 0 == i + 1) ≡ true → above i k ≡ true
        from t =
            let parts = and_parts (nat_lt (height above i) (height above k)) (slice_index_or names (start above k + height above i) 0 == i + 1) t in
            let less = ltb-true (height above i) (height above k) parts.0 in
            let e : listed above names k (height above i) ≡ i =
            omega (arith, eqb-true (slice_index_or names (start above k + height above i) 0) (i + 1) parts.1) in
            subst (λ (x : ℕ). above x k ≡ true) e (listed_is_above k (height above i) h less)

    -- the list of k begins with that of each dof above it, and then names that dof
    pub shared_names : (i k c : ℕ) → k < n → above i k ≡ true → c < height above i → listed above names k c ≡ listed above names i c
    shared_names i k c h p l =
        let low : i < n = omega (arith, forest.before i k p) in
        ap (λ (x : ℕ). listed above names k x) (sym (height_of_listed i c low l))
        ∙ listed_at_height k (listed above names i c) h (forest.through (listed above names i c) i k h (listed_is_above i c low l) p)
