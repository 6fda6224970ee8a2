-- The radii of bias forces, from those of each number on the way: an exact number has none, the widths of a sum add, and where a sum is
-- rounded the kind's rule gives the radius. A rule of this project's own.
use Rattle.std.specs.Prelude.{ℕ, zero, suc, ◌+◌, cond, ℤ}
use Rattle.fx_whole.specs.Adding.{sum_in, when_in}
use Rattle.fx_num.specs.Settled.{rounding_loss}
use Rattle.fx_vec.specs.Spatial.{Spatial, pair, motion_cross, inertia_times}
use Rattle.fx_vec.specs.Settling.{radii6}
use Rattle.fx_vec.specs.Sizes.{no_size6, plus6_size}
use Rattle.fx_vec.specs.Sums.{sizes}
use Rattle.fx_vec.specs.Widths.{times6_width, pair_width, motion_cross_width, force_cross_width, inertia_width}
use Rattle.mj_tree.specs.Tree.{moves}
use Rattle.mj_tree.specs.TreeSums.{sum_moving, sum_before}
use Rattle.mj_types.specs.declared.model.Model.{Model}
use Rattle.mj_types.specs.Placed.{Placing}
use Rattle.mj_bias.specs.Movement.{Movement, movement_of}
use Rattle.mj_bias.specs.Biases.{carrier_sum, carrier, column_rate, minus_one, fall, velocity_sum, body_velocity, acceleration_sum, body_momentum, load_sum, load}

-- the radius of a sum, from its width, what its rounding loses, and by how many bits it is rounded
abbrev pub Rule : Type 0
Rule = ℕ → ℕ → ℕ → ℕ

-- ---- of a dof
abbrev pub own_motion_width : Movement → ℕ → Spatial ℕ
own_motion_width m j = times6_width (m.speed j) 0 (m.column j) no_size6

unfoldable pub carrier_width : Movement → ℕ → Spatial ℕ
carrier_width m j = sum_before sizes m.parent m.body m.base (own_motion_width m) j

unfoldable pub carrier_radius : Rule → Movement → ℕ → Spatial ℕ
carrier_radius rule m j = radii6 rule (carrier_sum m j) (carrier_width m j) 32

unfoldable pub column_rate_radius : Rule → Movement → ℕ → Spatial ℕ
column_rate_radius rule m j =
    cond (m.constant j) no_size6 (radii6 rule (motion_cross (carrier m j) (m.column j)) (motion_cross_width (carrier m j) (carrier_radius rule m j) (m.column j) no_size6) 32)

abbrev pub own_drift_width : Rule → Movement → ℕ → Spatial ℕ
own_drift_width rule m j = times6_width (m.speed j) 0 (column_rate m j) (column_rate_radius rule m j)

-- ---- of a body
unfoldable pub velocity_width : Movement → ℕ → Spatial ℕ
velocity_width m k = sum_moving sizes m.parent m.body m.dofs (own_motion_width m) k

unfoldable pub body_velocity_radius : Rule → Movement → ℕ → Spatial ℕ
body_velocity_radius rule m k = radii6 rule (velocity_sum m k) (velocity_width m k) 32

unfoldable pub acceleration_width : Rule → Movement → ℕ → Spatial ℕ
acceleration_width rule m k =
    plus6_size (sum_moving sizes m.parent m.body m.dofs (own_drift_width rule m) k) (times6_width minus_one 0 (fall m) no_size6)

unfoldable pub body_acceleration_radius : Rule → Movement → ℕ → Spatial ℕ
body_acceleration_radius rule m k = radii6 rule (acceleration_sum m k) (acceleration_width rule m k) 32

unfoldable pub body_momentum_radius : Rule → Movement → ℕ → Spatial ℕ
body_momentum_radius rule m b =
    radii6 rule (inertia_times (m.inertia b) (body_velocity m (b + 1))) (inertia_width (m.inertia b) (body_velocity_radius rule m (b + 1))) 32

unfoldable pub own_wrench_width : Rule → Movement → ℕ → Spatial ℕ
own_wrench_width rule m b =
    plus6_size (inertia_width (m.inertia b) (body_acceleration_radius rule m (b + 1)))
    (force_cross_width (body_velocity m (b + 1)) (body_velocity_radius rule m (b + 1)) (body_momentum m b) (body_momentum_radius rule m b))

abbrev pub body_wrench_width : Rule → Movement → ℕ → Spatial ℕ
body_wrench_width rule m zero = no_size6
body_wrench_width rule m (suc b) = own_wrench_width rule m b

-- ---- of a dof again
unfoldable pub load_width : Rule → Movement → ℕ → Spatial ℕ
load_width rule m i = sum_in sizes (m.bodies + 1) (λ k. when_in sizes (moves m.parent m.body i k) (body_wrench_width rule m k))

unfoldable pub load_radius : Rule → Movement → ℕ → Spatial ℕ
load_radius rule m i = radii6 rule (load_sum m i) (load_width rule m i) 32

unfoldable pub dof_bias_radius : Rule → Movement → ℕ → ℕ
dof_bias_radius rule m i =
    rule (pair_width (m.column i) no_size6 (load m i) (load_radius rule m i)) (rounding_loss (pair (m.column i) (load m i)) 40) 40

abbrev pub bias_radius : Rule → Model → Placing → (ℕ → ℤ) → ℕ → ℕ
bias_radius rule model placing speed = dof_bias_radius rule (movement_of model placing speed)
