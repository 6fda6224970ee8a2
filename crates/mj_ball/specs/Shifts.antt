-- A ball around an answer a of M a = s. M less 2^k on its diagonal is factored; where the pivots are above 0, y . M y is at least 2^k times
-- y . y less what the factor leaves. Scales and ranges are this project's own.
use Rattle.std.specs.Prelude.{ℕ, ◌+◌, ◌-◌, ◌/◌, ◌^◌, ◌==◌, nat_lt, nat_le, cond, ℤ, pos, unsigned_abs, Option, Some, None, option_map}
use Rattle.fx_whole.specs.First.{or_first, first_to}
use Rattle.fx_whole.specs.Least.{ceil_div}
use Rattle.fx_whole.specs.Sums.{sum_ℕ_to, when}
use Rattle.fx_num.specs.Settled.{over_value}
use Rattle.fx_num.specs.declared.carry.Over.{Over}
use Rattle.mj_types.specs.declared.wants.Ball.{Ball}
use Rattle.mj_factor.specs.Factors.{lower, pivot, factor_fault}
use Rattle.mj_factor.specs.Residuals.{greatest_to}
use Rattle.mj_quadratic.specs.Balls.{miss}
use Rattle.mj_quadratic.specs.Forms.{row_size, less_diagonal, product, error}

-- numbers at scales 104 and 72 are judged by their size
abbrev pub too_large : ℤ → Option Over
too_large x = over_value (2 ^ 116) x

-- x, where there is no fault
abbrev pub unless_fault : {F A : Type 0} → Option F → Option A → Option A
unless_fault None x = x
unless_fault (Some e) x = None

-- ---- the errors of a factor, by its numbers d and l: m - L^T D L
-- L with its diagonal, and 0 above it
abbrev pub with_diagonal : (ℕ → ℕ → ℤ) → ℕ → ℕ → ℤ
with_diagonal l r i = cond (r == i) (pos (2 ^ 32)) (when (nat_lt i r) (l r i))

abbrev pub error_at : ℕ → (ℕ → ℕ → ℤ) → (ℕ → ℤ) → (ℕ → ℕ → ℤ) → ℕ → ℕ → ℤ
error_at n m d l = error n (pos (2 ^ 64)) m d l

-- the first of the products D_r L_ri L_rj, or the error, that is too large
abbrev pub error_fault : ℕ → (ℕ → ℕ → ℤ) → (ℕ → ℤ) → (ℕ → ℕ → ℤ) → ℕ → ℕ → Option Over
error_fault n m d l i j = or_first (first_to n (λ r. too_large (product d l i j r))) (too_large (error_at n m d l i j))

abbrev pub row_fault : ℕ → (ℕ → ℕ → ℤ) → (ℕ → ℤ) → (ℕ → ℕ → ℤ) → ℕ → Option Over
row_fault n m d l i = first_to n (error_fault n m d l i)

abbrev pub errors_fault : ℕ → (ℕ → ℕ → ℤ) → (ℕ → ℤ) → (ℕ → ℕ → ℤ) → Option Over
errors_fault n m d l = first_to n (row_fault n m d l)

-- the largest sum of a row's sizes
abbrev pub largest_row : ℕ → (ℕ → ℕ → ℤ) → (ℕ → ℤ) → (ℕ → ℕ → ℤ) → ℕ
largest_row n m d l = greatest_to n (row_size n (error_at n m d l))

-- ---- the shift k
abbrev pub shifted : ℕ → (ℕ → ℕ → ℤ) → ℕ → ℕ → ℤ
shifted k m = less_diagonal (pos (2 ^ k)) m

abbrev pub lower_at : ℕ → ℕ → (ℕ → ℕ → ℤ) → ℕ → ℕ → ℤ
lower_at n k m = with_diagonal (lower n (shifted k m))

-- how much of y . y is at least in y . m y, at scale 40, where no row's errors sum to more than g; 0 where nothing is left
abbrev pub least_part : ℕ → ℕ → ℕ
least_part k g = (2 ^ (k + 64) - g) / 2 ^ 64

abbrev pub at_least_one : ℕ → Option ℕ
at_least_one low = cond (nat_le 1 low) (Some low) None

-- the least part; none where k isn't good
unfoldable pub low_at : ℕ → (ℕ → ℕ → ℤ) → ℕ → Option ℕ
low_at n m k =
    unless_fault (factor_fault n (shifted k m))
    (unless_fault (errors_fault n (shifted k m) (pivot n (shifted k m)) (lower_at n k m))
    (at_least_one (least_part k (largest_row n (shifted k m) (pivot n (shifted k m)) (lower_at n k m)))))

-- ---- the ball of a around the solutions of m x = s
-- how far a is from a solution in row i, at scale 72
abbrev pub missed : ℕ → (ℕ → ℕ → ℤ) → (ℕ → ℤ) → (ℕ → ℤ) → ℕ → ℤ
missed n m a s = miss n m a s (pos (2 ^ 40))

abbrev pub total_missed : ℕ → (ℕ → ℕ → ℤ) → (ℕ → ℤ) → (ℕ → ℤ) → ℕ
total_missed n m a s = sum_ℕ_to n (λ i. unsigned_abs (missed n m a s i))

abbrev pub ball_from : ℕ → ℕ → ℕ → Ball
ball_from k total low = record { shift = k; low = pos low; radius = pos (ceil_div total low) }

abbrev pub ball_at : ℕ → (ℕ → ℕ → ℤ) → ℕ → ℕ → Option Ball
ball_at n m total k = option_map (ball_from k total) (low_at n m k)

-- that of the greatest good k from 50 down
abbrev pub greatest_ball : ℕ → (ℕ → ℕ → ℤ) → ℕ → Option Ball
greatest_ball n m total = first_to 51 (λ t. ball_at n m total (50 - t))

-- none where a row misses by too much, or no k is good
abbrev pub ball_of : ℕ → (ℕ → ℕ → ℤ) → (ℕ → ℤ) → (ℕ → ℤ) → Option Ball
ball_of n m a s = unless_fault (first_to n (λ i. too_large (missed n m a s i))) (greatest_ball n m (total_missed n m a s))
