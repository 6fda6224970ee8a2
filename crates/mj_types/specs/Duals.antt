-- What every dual keeps, by its lists: its numbers are within the limits of a step's ranges.
use Rattle.std.specs.Prelude.{◌≡◌, ℕ, ◌+◌, ◌*◌, ◌^◌, ◌<◌, ◌≤◌, Bool, true, ◌&&◌, nat_le, ℤ, pos, ◌*ℤ◌, ◌≤ℤ◌, int_le, unsigned_abs, IsTrue, List, length, Option, Some, None, slice_index_or}
use Rattle.fx_whole.specs.Sums.{sum_to}
use Rattle.fx_num.specs.declared.number.Number.{Number}
use Rattle.fx_num.specs.declared.number.Wide.{Wide}
use Rattle.mj_optimum.specs.Problem.{Problem}
use Rattle.mj_types.specs.declared.dual.DualRow.{DualRow}
use Rattle.mj_types.specs.Parts.{number_at}

-- ---- lists as functions of a place
abbrev pub wide_at : {F : ℕ} → List (Wide F) → ℕ → ℤ
wide_at xs i = (slice_index_or xs i (record { raw = pos 0 })).raw

-- a bound that may be missing, as a number
abbrev pub bound : {F : ℕ} → Option (Number (Unit {0}) F) → Option ℤ
bound None = None
bound (Some x) = Some x.mid

abbrev pub bound_at : {F : ℕ} → List (Option (Number (Unit {0}) F)) → ℕ → Option ℤ
bound_at xs i = bound (slice_index_or xs i None)

-- row i of a table that is kept row after row
abbrev pub entry_at : {F : ℕ} → ℕ → List (Number (Unit {0}) F) → ℕ → ℕ → ℤ
entry_at width xs i k = number_at xs (i * width + k)

-- ---- bounds
-- at most 2^30 in size where it is there, which is 2^50 raw
abbrev pub is_in_range : Option ℤ → Bool
is_in_range None = true
is_in_range (Some x) = nat_le (unsigned_abs x) (2 ^ 50)

-- and at most 0
abbrev pub is_low : Option ℤ → Bool
is_low None = true
is_low (Some x) = int_le x (pos 0) && nat_le (unsigned_abs x) (2 ^ 50)

-- and at least 0
abbrev pub is_high : Option ℤ → Bool
is_high None = true
is_high (Some x) = int_le (pos 0) x && nat_le (unsigned_abs x) (2 ^ 50)

-- ---- the first m rows
pub record AreRows (m nv : ℕ) (place : List ℕ) (g : List (Number (Unit {0}) 24)) (diag r : List (Wide 48)) (b : List (Number (Unit {0}) 32)) (low high : List (Option (Number (Unit {0}) 20))) : Type 0 where
  pub few_rows : m ≤ 1024
  pub few_dofs : nv ≤ 64
  pub place_room : m ≤ length place
  pub g_room : m * nv ≤ length g
  pub diag_room : m ≤ length diag
  pub r_room : m ≤ length r
  pub b_room : m ≤ length b
  pub low_room : m ≤ length low
  pub high_room : m ≤ length high
  pub reduced : (i k : ℕ) → i < m → k < nv → unsigned_abs (entry_at nv g i k) ≤ 2 ^ 44
  pub regular : (i : ℕ) → i < m → pos 1 ≤ℤ wide_at r i
  pub r_limit : (i : ℕ) → i < m → wide_at r i ≤ℤ pos (2 ^ 72)
  pub b_limit : (i : ℕ) → i < m → unsigned_abs (number_at b i) ≤ 2 ^ 56
  pub low_bound : (i : ℕ) → i < m → IsTrue (is_in_range (bound_at low i))
  pub high_bound : (i : ℕ) → i < m → IsTrue (is_in_range (bound_at high i))

-- a row's own numbers are within the limits
pub record IsWithinRanges (row : DualRow) : Type 0 where
  pub regular : pos 1 ≤ℤ row.r.raw
  pub r_limit : row.r.raw ≤ℤ pos (2 ^ 72)
  pub b_limit : unsigned_abs row.b.mid ≤ 2 ^ 56
  pub low_bound : IsTrue (is_in_range (bound row.low))
  pub high_bound : IsTrue (is_in_range (bound row.high))

-- a row that may be added, with nv numbers of G
pub record MayBeRow (nv : ℕ) (g : List (Number (Unit {0}) 24)) (row : DualRow) : Type 0 where
  pub width : length g ≡ nv
  pub reduced : (k : ℕ) → k < nv → unsigned_abs (number_at g k) ≤ 2 ^ 44
  pub ranges : IsWithinRanges row

-- the problem that they state
abbrev pub problem_of : ℕ → ℕ → List (Number (Unit {0}) 24) → List (Wide 48) → List (Number (Unit {0}) 32) → List (Option (Number (Unit {0}) 20)) → List (Option (Number (Unit {0}) 20)) → Problem
problem_of m nv g r b low high = record { m = m; nv = nv; g = entry_at nv g; r = wide_at r; b = number_at b; low = bound_at low; high = bound_at high }

-- ---- what a solver asks beside
-- of a row: its entry of the diagonal is its sum of squares, within the limits, and 0 is within its bounds
pub record IsSolvableRow (nv : ℕ) (g : ℕ → ℤ) (diag : ℤ) (low high : Option ℤ) : Type 0 where
  pub diagonal : diag ≡ sum_to nv (λ k. g k *ℤ g k)
  pub not_idle : pos (2 ^ 28) ≤ℤ diag
  pub diag_limit : diag ≤ℤ pos (2 ^ 72)
  pub low_bound : IsTrue (is_low low)
  pub high_bound : IsTrue (is_high high)

-- of the first m rows
pub record AreSolvable (m nv : ℕ) (g : List (Number (Unit {0}) 24)) (diag : List (Wide 48)) (low high : List (Option (Number (Unit {0}) 20))) : Type 0 where
  pub each : (i : ℕ) → i < m → IsSolvableRow nv (entry_at nv g i) (wide_at diag i) (bound_at low i) (bound_at high i)

-- of a row that is added
abbrev pub MayBeSolved : ℕ → List (Number (Unit {0}) 24) → DualRow → Type 0
MayBeSolved nv g row = IsSolvableRow nv (number_at g) row.diag.raw (bound row.low) (bound row.high)
