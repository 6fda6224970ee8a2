-- How far the cost of forces can be above the least: by no more than the sum of what each row could gain alone. The certificate is this project's own.
use Rattle.std.specs.Prelude.{ℕ, ◌*◌, ℤ, pos, ◌-ℤ◌, ◌*ℤ◌, unsigned_abs, int_le, cond, Option, Some, None}
use Rattle.fx_whole.specs.Sums.{sum_to}
use Rattle.fx_whole.specs.Least.{ceil_div}
use Rattle.mj_optimum.specs.Problem.{Problem}
use Rattle.mj_optimum.specs.Cost.{cost, gradient}

-- how far the force f may go downhill before it meets a bound; none where it meets no bound
abbrev pub room_below : Option ℤ → ℤ → Option ℤ
room_below None f = None
room_below (Some low) f = Some (f -ℤ low)

abbrev pub room_above : Option ℤ → ℤ → Option ℤ
room_above None f = None
room_above (Some high) f = Some (high -ℤ f)

abbrev pub room : Option ℤ → Option ℤ → ℤ → ℤ → Option ℤ
room low high f g = cond (int_le (pos 0) g) (room_below low f) (room_above high f)

-- a q for the least q with q r >= a: no parabola of slope a and width r falls further
abbrev pub depth : ℕ → ℕ → ℤ
depth a r = pos (a * ceil_div a r)

-- how far it falls within the room t: to the bound, where that comes before its vertex
abbrev pub fall : ℕ → ℤ → Option ℤ → ℤ
fall a r None = depth a (unsigned_abs r)
fall a r (Some t) = cond (int_le (r *ℤ t) (pos a)) (t *ℤ (pos 2 *ℤ pos a -ℤ r *ℤ t)) (depth a (unsigned_abs r))

-- of row i, and of all rows
unfoldable pub shortfall : Problem → (ℕ → ℤ) → ℕ → ℤ
shortfall p f i = fall (unsigned_abs (gradient p f i)) (p.r i) (room (p.low i) (p.high i) (f i) (gradient p f i))

unfoldable pub total_shortfall : Problem → (ℕ → ℤ) → ℤ
total_shortfall p f = sum_to p.m (shortfall p f)

-- no feasible force costs less than this
abbrev pub bound2 : Problem → (ℕ → ℤ) → ℤ
bound2 p f = cost p f (pos 1) -ℤ total_shortfall p f
