-- The ball of worked examples. The numbers come from outside this crate.
use Rattle.std.proofs.Common.{◌≡◌, ℕ, zero, suc, ◌^◌, ℤ, pos, neg_ℤ, Some, refl}
use Rattle.fx_whole.specs.Nearest.{nearest}
use Rattle.fx_whole.specs.Tables.{down, filled_down}
use Rattle.mj_factor.specs.Factors.{work}
use Rattle.mj_ball.specs.Shifts.{low_at, ball_of}

-- one slide of mass 1 that falls: M a = s, a is -8
abbrev slide : ℕ → ℕ → ℤ
slide i j = pos (2 ^ 40)

slide_ball : ball_of 1 slide (λ i. neg_ℤ (pos (2 ^ 35))) (λ i. neg_ℤ (pos (2 ^ 35))) ≡ Some (record { shift = 39; low = pos 549755813888; radius = pos 0 })
unfolding low_at work down filled_down nearest
slide_ball = refl

-- two links: M is 5, 2; 2, 1, the right side 24, 8, and a is 8, -8
abbrev pendulum : ℕ → ℕ → ℤ
pendulum zero zero = pos 5497558138880
pendulum zero (suc j) = pos 2199023255552
pendulum (suc i) zero = pos 2199023255552
pendulum (suc i) (suc j) = pos 1099511627776

abbrev turning : ℤ → ℕ → ℤ
turning first zero = first
turning first (suc i) = neg_ℤ (pos 34359738368)

abbrev pulling : ℕ → ℤ
pulling zero = pos 103079215104
pulling (suc i) = pos 34359738368

pendulum_ball : ball_of 2 pendulum (turning (pos 34359738368)) pulling ≡ Some (record { shift = 37; low = pos 137438953366; radius = pos 0 })
unfolding low_at work down filled_down nearest
pendulum_ball = refl

-- where the first number is one unit off
pendulum_off : ball_of 2 pendulum (turning (pos 34359738369)) pulling ≡ Some (record { shift = 37; low = pos 137438953366; radius = pos 57 })
unfolding low_at work down filled_down nearest
pendulum_off = refl
