-- A row of one dof of one kilogram.
use Rattle.std.proofs.Common.{◌≡◌, ℕ, zero, suc, ◌^◌, true, false, ℤ, pos, neg_ℤ, Some, None, refl}
use Rattle.fx_whole.specs.Nearest.{nearest}
use Rattle.mj_types.specs.declared.parts.Soft.{Soft}
use Rattle.mj_types.specs.declared.range.Quantity.TheVariants as kind
use Rattle.mj_types.specs.Parts.{plain}
use Rattle.mj_types.specs.Ranges.{limited}
use Rattle.mj_imp.specs.Reference.{reference}
use Rattle.mj_dual.specs.Actives.{Motion, regularizer, right_side, right_side_fault, wanted, wanted_fault}
use Rattle.mj_dual.specs.Products.{along, square_sum}
use Rattle.mj_dual.specs.Reductions.{is_idle}

abbrev one : ℤ
one = pos 4294967296

abbrev half : ℤ
half = pos 2147483648

-- ---- A_ii (1 - d) / d
at_half : regularizer (pos (2 ^ 48)) half ≡ pos (2 ^ 48)
unfolding nearest
at_half = refl

-- (1 - 3/4) / (3/4) = 1/3
at_three_quarters : regularizer (pos (2 ^ 48)) (pos 3221225472) ≡ pos 93824992236885
unfolding nearest
at_three_quarters = refl

largest : limited kind.Regularizer 5 (2 ^ 72) (pos (2 ^ 72)) ≡ None
largest = refl

too_large : limited kind.Regularizer 5 (2 ^ 72) (pos 4722366482869645213697) ≡ Some (record { kind = kind.Regularizer; index = 5 })
too_large = refl

-- ---- a row that moves no dof is idle
unmoved : is_idle (square_sum 2 (λ k. pos 0)) ≡ true
unfolding square_sum
unmoved = refl

hardly_moved : is_idle (pos 268435455) ≡ true
hardly_moved = refl

moved : is_idle (square_sum 1 (λ k. pos 16384)) ≡ false
unfolding square_sum
moved = refl

-- ---- a Jacobian times velocities is rounded once: 3 - 1/2 is a tie
abbrev row : ℕ → ℤ
row zero = one
row (suc k) = neg_ℤ half

abbrev tied : ℕ → ℤ
tied zero = pos 3
tied (suc k) = pos 1

rounded_once : along 2 row tied ≡ pos 2
unfolding along nearest
rounded_once = refl

exact : along 2 row (λ k. one) ≡ half
unfolding along nearest
exact = refl

-- ---- solimp 0.5 0.5 1 0.5 1 and solref -1 -1: b is 2 and k is 4; violated by half
abbrev soft : Soft
soft = record {
  tc = plain (neg_ℤ one);
  dr = plain (neg_ℤ one);
  dmin = plain half;
  dmax = plain half;
  width = plain one;
  mid = plain half;
  power = 1;
}

abbrev motion : ℤ → ℤ → Motion
motion velocity smooth = record { dofs = 1; velocity = λ d. velocity; smooth = λ d. smooth }

-- -2 jv - 4 (1/2) (-1/2) = 1, at rest
at_rest : wanted (motion (pos 0) (pos 0)) soft half (neg_ℤ half) (λ d. one) ≡ one
unfolding along nearest
at_rest = refl

moving_away : wanted (motion one (pos 0)) soft half (neg_ℤ half) (λ d. one) ≡ neg_ℤ one
unfolding along nearest
moving_away = refl

-- a is -9, and 1 is asked for
right : right_side (motion (pos 0) (neg_ℤ (pos 38654705664))) soft half (neg_ℤ half) (λ d. one) ≡ neg_ℤ (pos 42949672960)
unfolding along nearest
right = refl

-- ---- numbers past their limits name the row
too_fast : wanted_fault 7 (motion (pos (2 ^ 39)) (pos 0)) soft half (neg_ℤ half) (λ d. pos (2 ^ 48)) ≡ Some (record { kind = kind.Reference; index = 7 })
unfolding along nearest
too_fast = refl

too_hard : right_side_fault 7 (motion (pos 0) (pos (2 ^ 41))) soft half (neg_ℤ half) (λ d. pos (2 ^ 48)) ≡ Some (record { kind = kind.DualVector; index = 7 })
unfolding along nearest
too_hard = refl
