-- The factor of a symmetric matrix, M = L^T D L with L unit lower triangular, from the last row to the first. Each sum is exact and is
-- rounded once. Featherstone, Rigid Body Dynamics Algorithms, chapter 6; scales, rounding and ranges are this project's own.
use Rattle.std.specs.Prelude.{ℕ, ◌+◌, ◌^◌, ℤ, pos, ◌-ℤ◌, ◌*ℤ◌, Option}
use Rattle.fx_whole.specs.First.{or_first, first_to}
use Rattle.fx_whole.specs.Nearest.{nearest}
use Rattle.fx_whole.specs.Tables.{down, sum_after}
use Rattle.mj_types.specs.declared.range.OutOfRange.{OutOfRange}
use Rattle.mj_types.specs.declared.range.Quantity.TheVariants as kind
use Rattle.mj_types.specs.Ranges.{unless, is_between, limited, first_down}

-- ---- from a table w of W = D L
-- L_ki = W_ki / D_k, where D_k = W_kk
abbrev pub lower_of : (ℕ → ℕ → ℤ) → ℕ → ℕ → ℤ
lower_of w k i = nearest (w k i *ℤ pos (2 ^ 32)) (w k k)

-- W_ki = M_ki less the sum of L_lk W_li over the later l
abbrev pub work_entry : ℕ → (ℕ → ℕ → ℤ) → (ℕ → ℕ → ℤ) → ℕ → ℕ → ℤ
work_entry n m w k i = m k i -ℤ nearest (sum_after k n (λ l. lower_of w l k *ℤ w l i)) (pos (2 ^ 32))

-- ---- of the n by n matrix m
unfoldable pub work : ℕ → (ℕ → ℕ → ℤ) → ℕ → ℕ → ℤ
work n m = down n (λ i. pos 0) (λ w k i. work_entry n m w k i)

abbrev pub lower : ℕ → (ℕ → ℕ → ℤ) → ℕ → ℕ → ℤ
lower n m k i = lower_of (work n m) k i

abbrev pub pivot : ℕ → (ℕ → ℕ → ℤ) → ℕ → ℤ
pivot n m k = work n m k k

-- ---- the first number out of range: rows from the last, in each the pivot and then W and L of each column
abbrev pub pivot_fault : ℕ → ℤ → Option OutOfRange
pivot_fault k d = unless (is_between (pos (2 ^ 10)) (pos (2 ^ 60)) d) kind.Pivot (k + 1)

abbrev pub entry_fault : ℕ → ℤ → ℤ → Option OutOfRange
entry_fault k w l = or_first (limited kind.Lower (k + 1) (2 ^ 60) w) (limited kind.Lower (k + 1) (2 ^ 48) l)

abbrev pub row_fault : ℕ → (ℕ → ℕ → ℤ) → ℕ → Option OutOfRange
row_fault n m k = or_first (pivot_fault k (pivot n m k)) (first_to k (λ i. entry_fault k (work n m k i) (lower n m k i)))

abbrev pub factor_fault : ℕ → (ℕ → ℕ → ℤ) → Option OutOfRange
factor_fault n m = first_down n (row_fault n m)
