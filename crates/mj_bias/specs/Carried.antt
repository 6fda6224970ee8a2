-- What the lists of working room hold on the way down the tree.
use Rattle.std.specs.Prelude.{◌≡◌, ℕ, ◌+◌, ◌^◌, ◌<◌, ◌≤◌, length}
use Rattle.fx_num.specs.Radii.{radius_limit}
use Rattle.fx_vec.specs.Sums.{vectors, sizes}
use Rattle.mj_tree.specs.TreeSums.{sum_moving}
use Rattle.mj_types.specs.declared.bias.Bias.{Bias}
use Rattle.mj_types.specs.declared.model.Model.{Model}
use Rattle.mj_types.specs.declared.carriers.Frames.{Frames}
use Rattle.mj_types.specs.declared.state.State.{State}
use Rattle.mj_types.specs.Parts.{body, dof, body_of, number_at}
use Rattle.mj_types.specs.Placed.{placing_of}
use Rattle.mj_bias.specs.Movement.{Movement, movement_of}
use Rattle.mj_bias.specs.Measures.{Measured, measured, numbers_at, totals_at, settled_by, IsWithin}
use Rattle.mj_bias.specs.Biases.{carrier, column_rate, own_motion, own_drift, body_wrench}
use Rattle.mj_bias.specs.Radii.{Rule, carrier_radius, column_rate_radius, own_motion_width, own_drift_width, body_wrench_width}

-- what frames and a state move
abbrev pub movement : Model → Frames → State → Movement
movement model frames state = movement_of model (placing_of frames) (number_at state.v)

-- ---- with radii
abbrev pub carrier_at : Rule → Movement → ℕ → Measured
carrier_at rule m j = measured (carrier m j) (carrier_radius rule m j)

abbrev pub rate_at : Rule → Movement → ℕ → Measured
rate_at rule m j = measured (column_rate m j) (column_rate_radius rule m j)

-- the sums over those of the first n dofs that move body k
unfoldable pub motion_to : Movement → ℕ → ℕ → Measured
motion_to m n k = measured (sum_moving vectors m.parent m.body n (own_motion m) k) (sum_moving sizes m.parent m.body n (own_motion_width m) k)

unfoldable pub drift_to : Rule → Movement → ℕ → ℕ → Measured
drift_to rule m n k = measured (sum_moving vectors m.parent m.body n (own_drift m) k) (sum_moving sizes m.parent m.body n (own_drift_width rule m) k)

abbrev pub wrench_at : Rule → Movement → ℕ → Measured
wrench_at rule m k = measured (body_wrench m k) (body_wrench_width rule m k)

-- ---- down the tree: the dofs before place j are made, and the sums of the bodies up to number b are whole
pub record IsCarried {K R W : Type 0} (rule : Rule) (width : R → ℕ) (wide : W → ℕ) (m : Movement) (b j : ℕ) (x : Bias K R W) : Type 0 where
  pub turn_ : (i : ℕ) → i < j → numbers_at width x.turn i ≡ carrier_at rule m i
  pub small : (i : ℕ) → i < j → IsWithin (numbers_at width x.turn i) (2 ^ 48) radius_limit
  pub rates : (i : ℕ) → i < j → IsWithin (rate_at rule m i) (2 ^ 56) radius_limit
  pub motion_ : (k : ℕ) → k ≤ b → totals_at wide x.motion k ≡ motion_to m m.dofs k
  pub drift_ : (k : ℕ) → k ≤ b → totals_at wide x.drift k ≡ drift_to rule m m.dofs k

-- and those of body b + 1 go as far as the dofs
pub record IsBegun {K R W : Type 0} (rule : Rule) (width : R → ℕ) (wide : W → ℕ) (m : Movement) (b j : ℕ) (x : Bias K R W) : Type 0 where
  pub earlier : IsCarried rule width wide m b j x
  pub motion_here : totals_at wide x.motion (b + 1) ≡ motion_to m j (b + 1)
  pub drift_here : totals_at wide x.drift (b + 1) ≡ drift_to rule m j (b + 1)

-- ---- what is at hand for the bodies
-- dof j is of body k, and its base is itself
pub record BeginsBody (m : Model) (j k : ℕ) : Type 0 where
  pub there : j < m.nv
  pub base_ : (dof m.dofs j).base ≡ j
  pub body_ : body_of m.dofs j ≡ k

-- body k is the parent of the next one, whose first dof its motion carries
pub record CarriesNext (m : Model) (k : ℕ) : Type 0 where
  pub next : k < length m.bodies
  pub parent_ : (body m.bodies k).parent ≡ k
  pub first : BeginsBody m (body m.bodies k).dofadr (k + 1)

-- a velocity within its limits from a sum of motions
pub record IsVelocity (rule : Rule) (motion velocity : Measured) : Type 0 where
  pub value_ : velocity ≡ settled_by rule 32 motion
  pub within : IsWithin velocity (2 ^ 48) radius_limit
