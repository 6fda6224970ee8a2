-- Solves by a factor L^T D L: a solve of M a = s, and half a solve, by L^T and the roots of D. Each sum is exact and is rounded once.
-- Featherstone, Rigid Body Dynamics Algorithms, chapter 6; scales, rounding and ranges are this project's own.
use Rattle.std.specs.Prelude.{◌≡◌, ℕ, ◌+◌, ◌^◌, ◌<◌, ℤ, pos, ◌-ℤ◌, ◌*ℤ◌, List, length, Option}
use Rattle.fx_whole.specs.First.{or_first, first_to}
use Rattle.fx_whole.specs.Nearest.{nearest}
use Rattle.fx_whole.specs.Roots.{isqrt}
use Rattle.fx_whole.specs.Sums.{sum_to}
use Rattle.fx_whole.specs.Tables.{down, value, sum_after}
use Rattle.fx_num.specs.declared.number.Number.{Number}
use Rattle.mj_types.specs.declared.range.OutOfRange.{OutOfRange}
use Rattle.mj_types.specs.declared.range.Quantity.TheVariants as kind
use Rattle.mj_types.specs.Parts.{number_at}
use Rattle.mj_types.specs.Ranges.{limited, first_down}

-- ---- L^T y = x: y_i = x_i less the sum of L_ki y_k over the later k
abbrev pub back_entry : ℕ → (ℕ → ℕ → ℤ) → (ℕ → ℤ) → (ℕ → ℤ) → ℕ → ℤ
back_entry n l x y i = x i -ℤ nearest (sum_after i n (λ k. l k i *ℤ y k)) (pos (2 ^ 32))

unfoldable pub back : ℕ → (ℕ → ℕ → ℤ) → (ℕ → ℤ) → ℕ → ℤ
back n l x = down n (pos 0) (back_entry n l x)

-- ---- L a = z: a_i = z_i less the sum of L_ik a_k over the earlier k
abbrev pub forth_entry : (ℕ → ℕ → ℤ) → (ℕ → ℤ) → (ℕ → ℤ) → ℕ → ℤ
forth_entry l z a i = z i -ℤ nearest (sum_to i (λ k. l i k *ℤ a k)) (pos (2 ^ 32))

unfoldable pub forth : (ℕ → ℕ → ℤ) → (ℕ → ℤ) → ℕ → ℤ
forth l z = value (forth_entry l z (λ k. pos 0) 0) (λ i a. forth_entry l z a (i + 1))

-- ---- M a = s, for the dofs below n
-- z = y / D
abbrev pub over_pivots : (ℕ → ℤ) → (ℕ → ℤ) → ℕ → ℤ
over_pivots d y i = nearest (y i *ℤ pos (2 ^ 40)) (d i)

abbrev pub solution : ℕ → (ℕ → ℕ → ℤ) → (ℕ → ℤ) → (ℕ → ℤ) → ℕ → ℤ
solution n l d s = forth l (over_pivots d (back n l s))

-- the first number out of range: y from the last dof, and then z and a of each dof
abbrev pub accel_fault : ℕ → ℤ → Option OutOfRange
accel_fault i x = limited kind.Accel (i + 1) (2 ^ 56) x

abbrev pub forth_fault : ℕ → (ℕ → ℕ → ℤ) → (ℕ → ℤ) → (ℕ → ℤ) → ℕ → Option OutOfRange
forth_fault n l d s i = or_first (accel_fault i (over_pivots d (back n l s) i)) (accel_fault i (solution n l d s i))

abbrev pub solve_fault : ℕ → (ℕ → ℕ → ℤ) → (ℕ → ℤ) → (ℕ → ℤ) → Option OutOfRange
solve_fault n l d s = or_first (first_down n (λ i. accel_fault i (back n l s i))) (first_to n (forth_fault n l d s))

-- ---- half a solve: G = y / sqrt D
-- the root of a pivot, rounded down
abbrev pub pivot_root : ℤ → ℤ
pivot_root d = isqrt (d *ℤ pos (2 ^ 24))

-- a list of the roots of the pivots d, of the first of them
abbrev pub HasRoots : (ℕ → ℤ) → List (Number (Unit {0}) 32) → Type 0
HasRoots d roots = (k : ℕ) → k < length roots → number_at roots k ≡ pivot_root (d k)

abbrev pub reduced : ℤ → ℤ → ℤ
reduced y d = nearest (y *ℤ pos (2 ^ 24)) (pivot_root d)

abbrev pub half : ℕ → (ℕ → ℕ → ℤ) → (ℕ → ℤ) → (ℕ → ℤ) → ℕ → ℤ
half n l d x k = reduced (back n l x k) (d k)

-- the first number out of range: y and G of each dof, from the last
abbrev pub reduced_fault : ℕ → ℤ → ℤ → Option OutOfRange
reduced_fault k y g = or_first (limited kind.Reduced (k + 1) (2 ^ 48) y) (limited kind.Reduced (k + 1) (2 ^ 44) g)

abbrev pub half_fault : ℕ → (ℕ → ℕ → ℤ) → (ℕ → ℤ) → (ℕ → ℤ) → Option OutOfRange
half_fault n l d x = first_down n (λ k. reduced_fault k (back n l x k) (half n l d x k))
