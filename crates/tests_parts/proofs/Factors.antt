-- The pendulum's mass matrix, factored and solved.
use Rattle.std.proofs.Common.{◌≡◌, ℕ, zero, suc, ◌^◌, ◌==◌, ◌&&◌, cond, ℤ, pos, neg_ℤ, Some, None, refl, sym, arith}
use Rattle.std.proofs.lemmas.Int.{ints}
use Rattle.fx_whole.specs.Nearest.{nearest}
use Rattle.fx_whole.specs.Tables.{made, value, filled_down, down}
use Rattle.fx_whole.proofs.RootLaws.{isqrt-unique}
use Rattle.mj_types.specs.declared.range.Quantity.TheVariants as kind
use Rattle.mj_factor.specs.Factors.{lower, pivot, pivot_fault, work}
use Rattle.mj_factor.specs.Residuals.{greatest_to, residual_at}
use Rattle.mj_factor.specs.Solves.{back, forth, pivot_root, solution}

-- 5 2
-- 2 1
abbrev mass : ℕ → ℕ → ℤ
mass zero zero = pos 5497558138880
mass zero (suc j) = pos 2199023255552
mass (suc i) zero = pos 2199023255552
mass (suc i) (suc j) = pos 1099511627776

abbrev eight : ℤ
eight = pos 34359738368

-- the right side 24 8, and the solution 8 -8
abbrev rhs : ℕ → ℤ
rhs zero = pos 103079215104
rhs (suc i) = eight

abbrev answer : ℕ → ℤ
answer zero = eight
answer (suc i) = neg_ℤ eight

last_pivot : pivot 2 mass 1 ≡ pos 1099511627776
unfolding work down filled_down nearest
last_pivot = refl

lower_is : lower 2 mass 1 0 ≡ pos 8589934592
unfolding work down filled_down nearest
lower_is = refl

first_pivot : pivot 2 mass 0 ≡ pos 1099511627776
unfolding work down filled_down nearest
first_pivot = refl

solved_first : solution 2 (lower 2 mass) (pivot 2 mass) rhs 0 ≡ eight
unfolding work down filled_down nearest back forth value made
solved_first = refl

solved_last : solution 2 (lower 2 mass) (pivot 2 mass) rhs 1 ≡ neg_ℤ eight
unfolding work down filled_down nearest back forth value made
solved_last = refl

-- M a = s exactly, and with a = 0 it misses by s
none_left : residual_at 2 mass answer rhs 0 ≡ 0
none_left = refl

all_left : residual_at 2 mass (λ i. pos 0) rhs 0 ≡ 113336795588871485128704
all_left = refl

-- a pivot is at least 2^10
small : pivot_fault 0 (pos 1023) ≡ Some (record { kind = kind.Pivot; index = 1 })
small = refl

least : pivot_fault 0 (pos 1024) ≡ None
least = refl

-- the root of 2^40 + 1 is less than 2^32 + 1
root_of_least : pivot_root (pos 1024) ≡ pos 131072
root_of_least = sym (isqrt-unique _ (pos 131072) (record { not_negative = omega (arith, ints); below = omega (arith, ints); above = omega (arith, ints) }))

root_rounded : pivot_root (pos 1099511627777) ≡ pos 4294967296
root_rounded = sym (isqrt-unique _ (pos 4294967296) (record { not_negative = omega (arith, ints); below = omega (arith, ints); above = omega (arith, ints) }))

root_of_greatest : pivot_root (pos (2 ^ 60)) ≡ pos (2 ^ 42)
root_of_greatest = sym (isqrt-unique _ (pos 4398046511104) (record { not_negative = omega (arith, ints); below = omega (arith, ints); above = omega (arith, ints) }))

-- ---- the largest of all entries
largest : greatest_to 2 (λ i. greatest_to 2 (λ j. cond (i == 1 && j == 0) 7 3)) ≡ 7
largest = refl
