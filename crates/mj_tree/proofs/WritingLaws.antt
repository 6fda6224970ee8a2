-- The laws of `AreEnds` and `IsListedTo`: a listing that is written dof after dof.
use Rattle.std.proofs.Common.{◌≡◌, ℕ, zero, suc, ◌+◌, ◌<◌, ◌≤◌, Bool, true, false, List, [], ◌∷◌, ◌++◌, length, length-append, slice_index_or, refl, sym, ap, ◌∙◌, subst, arith, inl, inr}
use Rattle.std.proofs.lemmas.Bool.{cases_lt, cases_eq, both_ways}
use Rattle.std.proofs.lemmas.List.{get_or_append_left, get_or_push}
use Rattle.fx_whole.specs.Counting.{count_to}
use Rattle.fx_whole.proofs.CountLaws.{count_to-below, count_to-yes, count_to-no}
use Rattle.mj_tree.specs.Listing.{start, IsListing, AreEnds, IsListedTo}
use Rattle.mj_tree.proofs.ListingLaws.{start_more, start_within}

module _ (above : ℕ → ℕ → Bool) where
  -- ---- the ends
  pub ends_begin : AreEnds above 0 (0 ∷ [])
  ends_begin = record { ends = refl; starts = first }
    where
      first : (l : ℕ) → l ≤ 0 → slice_index_or (0 ∷ []) l 0 ≡ start above l
      first zero h = refl
      first (suc l) h = absurd (omega arith)

  -- one more list, that of k, ends at x
  pub ends_more : (k : ℕ) (at : List ℕ) (x : ℕ) → AreEnds above k at → x ≡ start above (k + 1) → AreEnds above (k + 1) (at ++ x ∷ [])
  ends_more k at x h e = record { ends = omega (arith, h.ends, length-append at (x ∷ [])); starts = starts }
    where
      starts : (l : ℕ) → l ≤ k + 1 → slice_index_or (at ++ x ∷ []) l 0 ≡ start above l
      starts l p =
          elim (cases_lt l (k + 1)) [
            | inl q ↦ get_or_append_left at (x ∷ []) 0 l (omega (arith, h.ends)) ∙ h.starts l (omega arith)
            | inr q ↦
                let last : l ≡ k + 1 = omega arith in
                get_or_push at x 0 l (h.ends ∙ sym last) ∙ e ∙ ap (λ (y : ℕ). start above y) (sym last)
          ]

  -- ---- the names
  pub listed_begin : IsListedTo above 0 0 []
  listed_begin = record { reached = refl; earlier = λ l j h p q. absurd (omega arith); here = λ j h p. absurd (omega arith) }

  -- i isn't above k
  pub listed_skip : (k i : ℕ) (names : List ℕ) → IsListedTo above k i names → above i k ≡ false → IsListedTo above k (i + 1) names
  listed_skip k i names h no_place = record { reached = reached; earlier = h.earlier; here = here }
    where
      reached : length names ≡ start above k + count_to (i + 1) (λ j. above j k)
      reached = omega (arith, h.reached, count_to-no i (λ j. above j k) no_place)

      here : (j : ℕ) → j < i + 1 → above j k ≡ true → slice_index_or names (start above k + count_to j (λ x. above x k)) 0 ≡ j + 1
      here j l p =
          elim (cases_eq j i) [
            | inl e ↦ absurd (both_ways (above i k) no_place (subst (λ (x : ℕ). above x k ≡ true) e p))
            | inr e ↦ h.here j (omega arith) p
          ]

  -- i is above k, and its number is written
  pub listed_push : (k i : ℕ) (names : List ℕ) → i < k → IsListedTo above k i names → above i k ≡ true → IsListedTo above k (i + 1) (names ++ (i + 1) ∷ [])
  listed_push k i names b h yes_place = record { reached = reached; earlier = earlier; here = here }
    where
      reached : length (names ++ (i + 1) ∷ []) ≡ start above k + count_to (i + 1) (λ j. above j k)
      reached = omega (arith, h.reached, length-append names ((i + 1) ∷ []), count_to-yes i (λ j. above j k) yes_place)

      old : (n : ℕ) → n < length names → slice_index_or (names ++ (i + 1) ∷ []) n 0 ≡ slice_index_or names n 0
      old n l = get_or_append_left names ((i + 1) ∷ []) 0 n l

      earlier : (l j : ℕ) → l < k → j < l → above j l ≡ true
          → slice_index_or (names ++ (i + 1) ∷ []) (start above l + count_to j (λ x. above x l)) 0 ≡ j + 1
      earlier l j p q r =
          old (start above l + count_to j (λ x. above x l))
          (omega (arith, h.reached, count_to-below j l (λ x. above x l) q r, start_within above l k p))
          ∙ h.earlier l j p q r

      here : (j : ℕ) → j < i + 1 → above j k ≡ true → slice_index_or (names ++ (i + 1) ∷ []) (start above k + count_to j (λ x. above x k)) 0 ≡ j + 1
      here j l p =
          elim (cases_lt j i) [
            | inl q ↦
                old (start above k + count_to j (λ x. above x k)) (omega (arith, h.reached, count_to-below j i (λ x. above x k) q p))
                ∙ h.here j q p
            | inr q ↦
                let e : j ≡ i = omega arith in
                get_or_push names (i + 1) 0 (start above k + count_to j (λ x. above x k))
                (h.reached ∙ ap (λ (y : ℕ). start above k + count_to y (λ x. above x k)) (sym e))
                ∙ ap (λ (y : ℕ). y + 1) (sym e)
          ]

  -- the list of k is whole
  pub listed_row : (k : ℕ) (names : List ℕ) → IsListedTo above k k names → IsListedTo above (k + 1) 0 names
  listed_row k names h = record { reached = reached; earlier = earlier; here = λ j l p. absurd (omega arith) }
    where
      Row : ℕ → Type 0
      Row l = (j : ℕ) → j < l → above j l ≡ true → slice_index_or names (start above l + count_to j (λ x. above x l)) 0 ≡ j + 1

      reached : length names ≡ start above (k + 1) + count_to 0 (λ j. above j (k + 1))
      reached = omega (arith, h.reached, start_more above k)

      earlier : (l j : ℕ) → l < k + 1 → j < l → above j l ≡ true
          → slice_index_or names (start above l + count_to j (λ x. above x l)) 0 ≡ j + 1
      earlier l j p q r =
          elim (cases_lt l k) [
            | inl s ↦ h.earlier l j s q r
            | inr s ↦
                let e : k ≡ l = omega arith in
                subst Row e h.here j q r
          ]

  pub listing_from : (n : ℕ) (at names : List ℕ) → AreEnds above n at → IsListedTo above n 0 names → IsListing above n at names
  listing_from n at names e h =
      record { ends = e.ends; starts = e.starts; whole = omega (arith, h.reached); named = λ k i l p q. h.earlier k i l p q }
