-- The radii of the kind that carries them cover the numbers that are rounded nowhere, from a dof's carrier to its bias force.
use Rattle.std.proofs.Common.{◌≡◌, ℕ, zero, suc, ◌+◌, ◌*◌, ◌^◌, ◌<◌, ◌≤◌, ℤ, pos, ◌-ℤ◌, ◌*ℤ◌, unsigned_abs, Bool, true, false, cond, arith, lit≤, pow_pos, le_of_mul-le-mul_right}
use Rattle.std.proofs.lemmas.Int.{ints, unsigned_abs-mul}
use Rattle.fx_whole.proofs.Ring.{ring}
use Rattle.fx_near.specs.Covers.{Covers}
use Rattle.fx_near.specs.Widths.{settled_radius}
use Rattle.fx_near.proofs.CoverLaws.{exact-covers}
use Rattle.fx_near.proofs.DyadicLaws.{covers-settled}
use Rattle.fx_vec.specs.Spatial.{Spatial, no_spatial, times6, pair, inertia_times}
use Rattle.fx_vec.specs.Sizes.{no_size6}
use Rattle.fx_vec.specs.Sums.{vectors, sizes}
use Rattle.fx_vec.specs.Widths.{times6_width, pair_width}
use Rattle.fx_cover.specs.Covering.{Covers6, raised6}
use Rattle.fx_cover.proofs.VectorCovers.{covers6-exact, covers6-zero, covers6-add, covers6-when, covers6-sum, covers6-times, covers-pair, covers6-motion_cross, covers6-force_cross, covers6-inertia, covers6-settled, covers6-raised}
use Rattle.mj_tree.specs.Tree.{moves}
use Rattle.mj_tree.specs.TreeSums.{sum_moving}
use Rattle.mj_bias.specs.Movement.{Movement}
use Rattle.mj_bias.specs.Biases.{own_motion, carrier_sum, carrier, column_rate, own_drift, velocity_sum, body_velocity, minus_one, fall, acceleration_sum, body_acceleration, body_momentum, own_wrench, body_wrench, load_sum, load, dof_bias}
use Rattle.mj_bias.specs.Radii.{own_motion_width, carrier_width, carrier_radius, column_rate_radius, own_drift_width, velocity_width, body_velocity_radius, acceleration_width, body_acceleration_radius, body_momentum_radius, own_wrench_width, body_wrench_width, load_width, load_radius, dof_bias_radius}
use Rattle.mj_bias.specs.Exact.{exact_rate, exact_acceleration, exact_wrench, exact_body_wrench, exact_load, exact_dof_bias}

-- ---- sums over what moves a body, and a number that may be 0
covers6-moving : (parent body : ℕ → ℕ) (n : ℕ) (a e : ℕ → Spatial ℤ) (r : ℕ → Spatial ℕ) (b f g : ℕ) → ((j : ℕ) → Covers6 (a j) (r j) f (e j) g)
    → Covers6 (sum_moving vectors parent body n a b) (sum_moving sizes parent body n r b) f (sum_moving vectors parent body n e b) g
covers6-moving parent body n a e r b f g c =
    covers6-sum n _ _ _ f g (λ j h. covers6-when (moves parent body j b) (a j) (e j) (r j) f g (c j))

covers6-cond : (t : Bool) (a n : Spatial ℤ) (r : Spatial ℕ) (f g : ℕ) → Covers6 a r f n g → Covers6 (cond t no_spatial a) (cond t no_size6 r) f (cond t no_spatial n) g
covers6-cond true a n r f g c = covers6-zero f g
covers6-cond false a n r f g c = c

-- ---- of a dof
motion_covers : (m : Movement) (j : ℕ) → Covers6 (own_motion m j) (own_motion_width m j) 64 (own_motion m j) 64
motion_covers m j = covers6-times (m.speed j) (m.speed j) 0 (m.column j) (m.column j) no_size6 32 32 32 32 (exact-covers (m.speed j) 32) (covers6-exact (m.column j) 32)

carrier_covers : (m : Movement) (j : ℕ) → Covers6 (carrier m j) (carrier_radius settled_radius m j) 32 (carrier_sum m j) 64
unfolding carrier carrier_radius carrier_sum carrier_width
carrier_covers m j =
    covers6-settled _ _ _ 32 64 64 (lit≤ tt) (covers6-moving m.parent m.body (m.base j) (own_motion m) (own_motion m) (own_motion_width m) (m.body j) 64 64 (motion_covers m))

rate_covers : (m : Movement) (j : ℕ) → Covers6 (column_rate m j) (column_rate_radius settled_radius m j) 32 (exact_rate m j) 96
unfolding column_rate column_rate_radius exact_rate
rate_covers m j =
    covers6-cond (m.constant j) _ _ _ 32 96
    (covers6-settled _ _ _ 32 64 96 (lit≤ tt)
    (covers6-motion_cross (carrier m j) (m.column j) (carrier_sum m j) (m.column j) (carrier_radius settled_radius m j) no_size6 32 32 64 32 (carrier_covers m j) (covers6-exact (m.column j) 32)))

drift_covers : (m : Movement) (j : ℕ) → Covers6 (own_drift m j) (own_drift_width settled_radius m j) 64 (times6 (m.speed j) (exact_rate m j)) 128
drift_covers m j =
    covers6-times (m.speed j) (m.speed j) 0 (column_rate m j) (exact_rate m j) (column_rate_radius settled_radius m j) 32 32 32 96 (exact-covers (m.speed j) 32) (rate_covers m j)

-- ---- of a body
velocity_covers : (m : Movement) (k : ℕ) → Covers6 (body_velocity m k) (body_velocity_radius settled_radius m k) 32 (velocity_sum m k) 64
unfolding body_velocity body_velocity_radius velocity_sum velocity_width
velocity_covers m k =
    covers6-settled _ _ _ 32 64 64 (lit≤ tt) (covers6-moving m.parent m.body m.dofs (own_motion m) (own_motion m) (own_motion_width m) k 64 64 (motion_covers m))

fall_covers : (m : Movement) → Covers6 (times6 minus_one (fall m)) (times6_width minus_one 0 (fall m) no_size6) 64 (raised6 (times6 minus_one (fall m)) 64) 128
fall_covers m =
    covers6-raised _ (times6 minus_one (fall m)) _ 64 64 64
    (covers6-times minus_one minus_one 0 (fall m) (fall m) no_size6 32 32 32 32 (exact-covers minus_one 32) (covers6-exact (fall m) 32))

acceleration_covers : (m : Movement) (k : ℕ) → Covers6 (body_acceleration m k) (body_acceleration_radius settled_radius m k) 32 (exact_acceleration m k) 128
unfolding body_acceleration body_acceleration_radius acceleration_sum acceleration_width exact_acceleration
acceleration_covers m k =
    covers6-settled _ _ _ 32 64 128 (lit≤ tt)
    (covers6-add _ _ _ _ _ _ 64 128
    (covers6-moving m.parent m.body m.dofs (own_drift m) (λ j. times6 (m.speed j) (exact_rate m j)) (own_drift_width settled_radius m) k 64 128 (drift_covers m))
    (fall_covers m))

momentum_covers : (m : Movement) (b : ℕ) → Covers6 (body_momentum m b) (body_momentum_radius settled_radius m b) 40 (inertia_times (m.inertia b) (velocity_sum m (b + 1))) 104
unfolding body_momentum body_momentum_radius
momentum_covers m b =
    covers6-settled _ _ _ 40 72 104 (lit≤ tt)
    (covers6-inertia (m.inertia b) (body_velocity m (b + 1)) (velocity_sum m (b + 1)) (body_velocity_radius settled_radius m (b + 1)) 40 32 64 (velocity_covers m (b + 1)))

wrench_covers : (m : Movement) (b : ℕ) → Covers6 (own_wrench m b) (own_wrench_width settled_radius m b) 72 (exact_wrench m b) 168
unfolding own_wrench own_wrench_width exact_wrench
wrench_covers m b =
    covers6-add _ _ _ _ _ _ 72 168
    (covers6-inertia (m.inertia b) (body_acceleration m (b + 1)) (exact_acceleration m (b + 1)) (body_acceleration_radius settled_radius m (b + 1)) 40 32 128 (acceleration_covers m (b + 1)))
    (covers6-force_cross (body_velocity m (b + 1)) (body_momentum m b) (velocity_sum m (b + 1)) (inertia_times (m.inertia b) (velocity_sum m (b + 1)))
    (body_velocity_radius settled_radius m (b + 1)) (body_momentum_radius settled_radius m b) 32 40 64 104 (velocity_covers m (b + 1)) (momentum_covers m b))

body_covers : (m : Movement) (k : ℕ) → Covers6 (body_wrench m k) (body_wrench_width settled_radius m k) 72 (exact_body_wrench m k) 168
body_covers m zero = covers6-zero 72 168
body_covers m (suc b) = wrench_covers m b

-- ---- of a dof again
load_covers : (m : Movement) (i : ℕ) → Covers6 (load m i) (load_radius settled_radius m i) 40 (exact_load m i) 168
unfolding load load_radius load_sum load_width exact_load
load_covers m i =
    covers6-settled _ _ _ 40 72 168 (lit≤ tt)
    (covers6-sum (m.bodies + 1) _ _ _ 72 168
    (λ k h. covers6-when (moves m.parent m.body i k) (body_wrench m k) (exact_body_wrench m k) (body_wrench_width settled_radius m k) 72 168 (body_covers m k)))

bias_covers : (m : Movement) (i : ℕ) → Covers (dof_bias m i) (dof_bias_radius settled_radius m i) 32 (exact_dof_bias m i) (2 ^ 200)
unfolding dof_bias dof_bias_radius exact_dof_bias
bias_covers m i =
    covers-settled (pair (m.column i) (load m i)) (pair (m.column i) (exact_load m i)) (pair_width (m.column i) no_size6 (load m i) (load_radius settled_radius m i)) 32 72 200 (lit≤ tt)
    (covers-pair (m.column i) (load m i) (m.column i) (exact_load m i) no_size6 (load_radius settled_radius m i) 32 40 32 168 (covers6-exact (m.column i) 32) (load_covers m i))

-- without the factor that both sides have
split : (y c s t : ℤ) → y *ℤ s -ℤ c *ℤ (t *ℤ s) ≡ (y -ℤ c *ℤ t) *ℤ s
split y c s t = simp ring (omega (arith, ints))

shared : (y c : ℤ) (r s t : ℕ) → 0 < s → unsigned_abs (y *ℤ pos s -ℤ c *ℤ pos (t * s)) ≤ r * (t * s) → unsigned_abs (y -ℤ c *ℤ pos t) ≤ r * t
shared y c r s t h b =
    let p : unsigned_abs (y -ℤ c *ℤ pos t) * s ≤ r * (t * s) = rw (← unsigned_abs-mul (y -ℤ c *ℤ pos t) (pos s), ← split y c (pos s) (pos t)) b in
    le_of_mul-le-mul_right {k = s} (omega arith) h

pub bias_is_covered : (m : Movement) (i : ℕ) → unsigned_abs (exact_dof_bias m i -ℤ dof_bias m i *ℤ pos (2 ^ 168)) ≤ dof_bias_radius settled_radius m i * 2 ^ 168
bias_is_covered m i = shared (exact_dof_bias m i) (dof_bias m i) (dof_bias_radius settled_radius m i) (2 ^ 32) (2 ^ 168) (pow_pos 32) (bias_covers m i).bound
