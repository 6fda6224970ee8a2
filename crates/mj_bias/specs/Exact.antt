-- Bias forces with no rounding at all, as whole numbers: the same sums and products at the scales at which they are exact. Featherstone,
-- Rigid Body Dynamics Algorithms, chapter 5.
use Rattle.std.specs.Prelude.{ℕ, zero, suc, ◌+◌, cond, ℤ}
use Rattle.fx_whole.specs.Adding.{sum_in, when_in}
use Rattle.fx_vec.specs.Spatial.{Spatial, no_spatial, plus6, times6, pair, motion_cross, force_cross, inertia_times}
use Rattle.fx_vec.specs.Sums.{vectors}
use Rattle.fx_cover.specs.Covering.{raised6}
use Rattle.mj_tree.specs.Tree.{moves}
use Rattle.mj_tree.specs.TreeSums.{sum_moving}
use Rattle.mj_types.specs.declared.model.Model.{Model}
use Rattle.mj_types.specs.Placed.{Placing}
use Rattle.mj_bias.specs.Movement.{Movement, movement_of}
use Rattle.mj_bias.specs.Biases.{carrier_sum, velocity_sum, minus_one, fall}

-- the rate of a column, at scale 96; the motion that carries it is exact at scale 64
unfoldable pub exact_rate : Movement → ℕ → Spatial ℤ
exact_rate m j = cond (m.constant j) no_spatial (motion_cross (carrier_sum m j) (m.column j))

-- a body's acceleration, at scale 128, where gravity is raised by 64
unfoldable pub exact_acceleration : Movement → ℕ → Spatial ℤ
exact_acceleration m k =
    plus6 (sum_moving vectors m.parent m.body m.dofs (λ j. times6 (m.speed j) (exact_rate m j)) k) (raised6 (times6 minus_one (fall m)) 64)

-- the wrench of body b + 1, at scale 168; its velocity is exact at scale 64 and its momentum at 104
unfoldable pub exact_wrench : Movement → ℕ → Spatial ℤ
exact_wrench m b =
    plus6 (inertia_times (m.inertia b) (exact_acceleration m (b + 1))) (force_cross (velocity_sum m (b + 1)) (inertia_times (m.inertia b) (velocity_sum m (b + 1))))

abbrev pub exact_body_wrench : Movement → ℕ → Spatial ℤ
exact_body_wrench m zero = no_spatial
exact_body_wrench m (suc b) = exact_wrench m b

unfoldable pub exact_load : Movement → ℕ → Spatial ℤ
exact_load m i = sum_in vectors (m.bodies + 1) (λ k. when_in vectors (moves m.parent m.body i k) (exact_body_wrench m k))

-- the bias force at scale 200
unfoldable pub exact_dof_bias : Movement → ℕ → ℤ
exact_dof_bias m i = pair (m.column i) (exact_load m i)

abbrev pub exact_bias : Model → Placing → (ℕ → ℤ) → ℕ → ℤ
exact_bias model placing speed = exact_dof_bias (movement_of model placing speed)
