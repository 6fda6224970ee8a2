-- Bias forces: what the motion and gravity ask for at each dof, by sums over all dofs that move a body and over all bodies that a dof
-- moves. Featherstone, Rigid Body Dynamics Algorithms, chapter 5 (recursive Newton-Euler); scales and rounding are this project's own.
use Rattle.std.specs.Prelude.{ℕ, zero, suc, ◌+◌, cond, ℤ, negsuc}
use Rattle.fx_whole.specs.Adding.{sum_in, when_in}
use Rattle.fx_num.specs.Settled.{settled_mid}
use Rattle.fx_vec.specs.Vectors.{no_vector}
use Rattle.fx_vec.specs.Spatial.{Spatial, no_spatial, plus6, times6, pair, motion_cross, force_cross, inertia_times}
use Rattle.fx_vec.specs.Settling.{settled6}
use Rattle.fx_vec.specs.Sums.{vectors}
use Rattle.mj_tree.specs.Tree.{moves}
use Rattle.mj_tree.specs.TreeSums.{sum_moving, sum_before}
use Rattle.mj_types.specs.declared.model.Model.{Model}
use Rattle.mj_types.specs.Placed.{Placing}
use Rattle.mj_bias.specs.Movement.{Movement, movement_of}

-- ---- of a dof
-- S_j v_j, at scale 64
abbrev pub own_motion : Movement → ℕ → Spatial ℤ
own_motion m j = times6 (m.speed j) (m.column j)

-- w_j, the motion that carries dof j: that of the dofs before its base which move its body
unfoldable pub carrier_sum : Movement → ℕ → Spatial ℤ
carrier_sum m j = sum_before vectors m.parent m.body m.base (own_motion m) j

unfoldable pub carrier : Movement → ℕ → Spatial ℤ
carrier m j = settled6 (carrier_sum m j) 32

-- the rate of the column: w_j x S_j
unfoldable pub column_rate : Movement → ℕ → Spatial ℤ
column_rate m j = cond (m.constant j) no_spatial (settled6 (motion_cross (carrier m j) (m.column j)) 32)

-- the rate of S_j, times v_j
abbrev pub own_drift : Movement → ℕ → Spatial ℤ
own_drift m j = times6 (m.speed j) (column_rate m j)

-- ---- of a body, by its number
-- V_k: the sum over the dofs that move it
unfoldable pub velocity_sum : Movement → ℕ → Spatial ℤ
velocity_sum m k = sum_moving vectors m.parent m.body m.dofs (own_motion m) k

unfoldable pub body_velocity : Movement → ℕ → Spatial ℤ
body_velocity m k = settled6 (velocity_sum m k) 32

-- -1 at scale 32
abbrev pub minus_one : ℤ
minus_one = negsuc 4294967295

-- the acceleration of gravity
abbrev pub fall : Movement → Spatial ℤ
fall m = record { ang = no_vector; lin = m.gravity }

-- a_k: the sum over the same dofs, less gravity
unfoldable pub acceleration_sum : Movement → ℕ → Spatial ℤ
acceleration_sum m k = plus6 (sum_moving vectors m.parent m.body m.dofs (own_drift m) k) (times6 minus_one (fall m))

unfoldable pub body_acceleration : Movement → ℕ → Spatial ℤ
body_acceleration m k = settled6 (acceleration_sum m k) 32

-- of body b + 1: the momentum I V
unfoldable pub body_momentum : Movement → ℕ → Spatial ℤ
body_momentum m b = settled6 (inertia_times (m.inertia b) (body_velocity m (b + 1))) 32

-- and the wrench that moves it: I a + V x* p, exact at scale 72
unfoldable pub own_wrench : Movement → ℕ → Spatial ℤ
own_wrench m b = plus6 (inertia_times (m.inertia b) (body_acceleration m (b + 1))) (force_cross (body_velocity m (b + 1)) (body_momentum m b))

-- the same by the body's number; the world's is none
abbrev pub body_wrench : Movement → ℕ → Spatial ℤ
body_wrench m zero = no_spatial
body_wrench m (suc b) = own_wrench m b

-- ---- of a dof again
-- W_i: the sum over the bodies that it moves
unfoldable pub load_sum : Movement → ℕ → Spatial ℤ
load_sum m i = sum_in vectors (m.bodies + 1) (λ k. when_in vectors (moves m.parent m.body i k) (body_wrench m k))

unfoldable pub load : Movement → ℕ → Spatial ℤ
load m i = settled6 (load_sum m i) 32

-- c_i = S_i . W_i
unfoldable pub dof_bias : Movement → ℕ → ℤ
dof_bias m i = settled_mid (pair (m.column i) (load m i)) 40

-- that of dof i of a model whose bodies are placed so and whose dofs have these velocities
abbrev pub bias : Model → Placing → (ℕ → ℤ) → ℕ → ℤ
bias model placing speed = dof_bias (movement_of model placing speed)
