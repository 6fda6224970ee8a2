-- For each dof the list of those above it, one list after another: where a factor keeps its
-- entries. Featherstone, Rigid Body Dynamics Algorithms, chapter 6.
use Rattle.std.specs.Prelude.{◌≡◌, ℕ, ◌+◌, ◌-◌, ◌<◌, ◌≤◌, Bool, true, List, length, slice_index_or}
use Rattle.fx_whole.specs.Counting.{count_to}
use Rattle.fx_whole.specs.Sums.{sum_ℕ_to}

-- how many dofs are above k
abbrev pub height : (ℕ → ℕ → Bool) → ℕ → ℕ
height above k = count_to k (λ i. above i k)

-- where the list of k begins: after those of the earlier dofs
abbrev pub start : (ℕ → ℕ → Bool) → ℕ → ℕ
start above k = sum_ℕ_to k (height above)

-- `at` and `names` list what is above each of n dofs: from at[k] up to but not including at[k + 1],
-- `names` has the numbers, from 1, of the dofs above the dof at place k, in ascending order
pub record IsListing (above : ℕ → ℕ → Bool) (n : ℕ) (at names : List ℕ) : Type 0 where
  pub ends : length at ≡ n + 1
  pub starts : (k : ℕ) → k ≤ n → slice_index_or at k 0 ≡ start above k
  pub whole : length names ≡ start above n
  pub named : (k i : ℕ) → k < n → i < k → above i k ≡ true
      → slice_index_or names (start above k + count_to i (λ j. above j k)) 0 ≡ i + 1

-- the dof that k's list names after c others
abbrev pub listed : (ℕ → ℕ → Bool) → List ℕ → ℕ → ℕ → ℕ
listed above names k c = slice_index_or names (start above k + c) 0 - 1

-- ---- while it is written, dof after dof
-- `at` as far as the list of k
pub record AreEnds (above : ℕ → ℕ → Bool) (k : ℕ) (at : List ℕ) : Type 0 where
  pub ends : length at ≡ k + 1
  pub starts : (l : ℕ) → l ≤ k → slice_index_or at l 0 ≡ start above l

-- `names` as far as k's list, of which it has the names of those before i
pub record IsListedTo (above : ℕ → ℕ → Bool) (k i : ℕ) (names : List ℕ) : Type 0 where
  pub reached : length names ≡ start above k + count_to i (λ j. above j k)
  pub earlier : (l j : ℕ) → l < k → j < l → above j l ≡ true
      → slice_index_or names (start above l + count_to j (λ x. above x l)) 0 ≡ j + 1
  pub here : (j : ℕ) → j < i → above j k ≡ true
      → slice_index_or names (start above k + count_to j (λ x. above x k)) 0 ≡ j + 1
