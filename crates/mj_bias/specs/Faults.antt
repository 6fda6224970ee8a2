-- The first number out of range on the way to the bias forces: those of the dofs, then those of the bodies, then the forces. Of each
-- rounded number the value is measure_fault before its radius. Ranges of this project's own.
use Rattle.std.specs.Prelude.{ℕ, ◌+◌, ◌^◌, ℤ, Bool, ◌&&◌, Option}
use Rattle.fx_whole.specs.First.{or_first, first_to}
use Rattle.fx_num.specs.Settled.{over}
use Rattle.fx_vec.specs.Vectors.{Triple}
use Rattle.fx_vec.specs.Spatial.{Spatial}
use Rattle.fx_vec.specs.Settling.{over6}
use Rattle.mj_types.specs.declared.model.Model.{Model}
use Rattle.mj_types.specs.declared.range.OutOfRange.{OutOfRange}
use Rattle.mj_types.specs.declared.range.Quantity.TheVariants as kind
use Rattle.mj_types.specs.Placed.{Placing}
use Rattle.mj_types.specs.Ranges.{unless, is_within, named}
use Rattle.mj_bias.specs.Movement.{Movement, movement_of}
use Rattle.mj_bias.specs.Biases.{carrier, column_rate, body_velocity, body_acceleration, body_momentum, own_wrench, load, dof_bias}
use Rattle.mj_bias.specs.Radii.{Rule, carrier_radius, column_rate_radius, body_velocity_radius, body_acceleration_radius, body_momentum_radius, load_radius, dof_bias_radius}

abbrev pub is_within3 : ℕ → Triple ℤ → Bool
is_within3 limit v = is_within limit v.x && (is_within limit v.y && is_within limit v.z)

abbrev pub is_within6 : ℕ → Spatial ℤ → Bool
is_within6 limit s = is_within3 limit s.ang && is_within3 limit s.lin

-- of dof j: the motion that carries it, and the rate of its column
abbrev pub dof_fault : Rule → Movement → ℕ → Option OutOfRange
dof_fault rule m j =
    or_first (named kind.DofMotion (j + 1) (over6 (2 ^ 48) (carrier m j) (carrier_radius rule m j)))
    (named kind.DofMotion (j + 1) (over6 (2 ^ 56) (column_rate m j) (column_rate_radius rule m j)))

-- of body b + 1: its velocity, acceleration and momentum, and then its wrench, which isn't rounded
abbrev pub body_fault : Rule → Movement → ℕ → Option OutOfRange
body_fault rule m b =
    or_first (named kind.BodyMotion (b + 1) (over6 (2 ^ 48) (body_velocity m (b + 1)) (body_velocity_radius rule m (b + 1))))
    (or_first (named kind.BodyMotion (b + 1) (over6 (2 ^ 56) (body_acceleration m (b + 1)) (body_acceleration_radius rule m (b + 1))))
    (or_first (named kind.BodyMotion (b + 1) (over6 (2 ^ 62) (body_momentum m b) (body_momentum_radius rule m b)))
    (unless (is_within6 (2 ^ 118) (own_wrench m b)) kind.Wrench (b + 1))))

-- of dof i: the wrench of the bodies that it moves, and its bias force
abbrev pub force_fault : Rule → Movement → ℕ → Option OutOfRange
force_fault rule m i =
    or_first (named kind.Bias (i + 1) (over6 (2 ^ 62) (load m i) (load_radius rule m i)))
    (named kind.Bias (i + 1) (over (2 ^ 52) (dof_bias m i) (dof_bias_radius rule m i)))

abbrev pub movement_fault : Rule → Movement → Option OutOfRange
movement_fault rule m = or_first (first_to m.dofs (dof_fault rule m)) (or_first (first_to m.bodies (body_fault rule m)) (first_to m.dofs (force_fault rule m)))

abbrev pub bias_fault : Rule → Model → Placing → (ℕ → ℤ) → Option OutOfRange
bias_fault rule model placing speed = movement_fault rule (movement_of model placing speed)
