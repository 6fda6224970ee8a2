-- What each step on the way makes of what it reads: the same formulas as those of a dof and of a body, over vectors with their radii.
use Rattle.std.specs.Prelude.{◌≡◌, ℕ, ◌+◌, ◌^◌, ◌<◌, ◌≤◌, Bool, cond, nat_lt, ℤ, unsigned_abs, List, Option, slice_index_or}
use Rattle.fx_whole.specs.First.{or_first}
use Rattle.fx_num.specs.declared.number.Number.{Number}
use Rattle.fx_num.specs.Radii.{radius_limit}
use Rattle.fx_num.specs.Settled.{settled_mid, rounding_loss, over}
use Rattle.fx_vec.specs.Vectors.{Triple, no_vector}
use Rattle.fx_vec.specs.Spatial.{Spatial, Inertia, pair}
use Rattle.fx_vec.specs.Sums.{vectors, sizes}
use Rattle.fx_vec.specs.Widths.{pair_width}
use Rattle.mj_tree.specs.TreeSums.{sum_under}
use Rattle.mj_types.specs.declared.bias.Bias.{Bias}
use Rattle.mj_types.specs.declared.model.Model.{Model}
use Rattle.mj_types.specs.declared.range.OutOfRange.{OutOfRange}
use Rattle.mj_types.specs.declared.range.Quantity.TheVariants as kind
use Rattle.mj_types.specs.Parts.{dof}
use Rattle.mj_types.specs.Ranges.{unless, named}
use Rattle.mj_bias.specs.Measures.{Measured, measured, exact, no_measure, numbers_at, totals_at, sum_of, multiple, motion_rate, force_rate, momentum_of, settled_by, measure_fault}
use Rattle.mj_bias.specs.Biases.{minus_one}
use Rattle.mj_bias.specs.Radii.{Rule}
use Rattle.mj_bias.specs.Faults.{is_within6}

-- ---- of dof j, of the body at the place b
-- what carries it: that of its base, or the sum so far
abbrev pub carrier_there : {K R W : Type 0} → Rule → (R → ℕ) → (W → ℕ) → Model → Bias K R W → ℕ → ℕ → Measured
carrier_there rule width wide m x b j =
    cond (nat_lt (dof m.dofs j).base j) (numbers_at width x.turn (dof m.dofs j).base) (settled_by rule 32 (totals_at wide x.motion (b + 1)))

abbrev pub rate_there : Rule → Bool → Measured → Measured → Measured
rate_there rule constant turn column = cond constant no_measure (settled_by rule 32 (motion_rate turn column))

abbrev pub dof_fault_there : Rule → Bool → Measured → Measured → ℕ → Option OutOfRange
dof_fault_there rule constant turn column j =
    or_first (measure_fault kind.DofMotion (j + 1) (2 ^ 48) turn) (measure_fault kind.DofMotion (j + 1) (2 ^ 56) (rate_there rule constant turn column))

-- ---- of a body, from the sums of its motions and of its drifts
abbrev pub fall_of : Triple ℤ → Spatial ℤ
fall_of gravity = record { ang = no_vector; lin = gravity }

unfoldable pub acceleration_there : Rule → Triple ℤ → Measured → Measured
acceleration_there rule gravity drift = settled_by rule 32 (sum_of drift (multiple minus_one (exact (fall_of gravity))))

unfoldable pub momentum_there : Rule → Inertia → Measured → Measured
momentum_there rule inertia velocity = settled_by rule 32 (momentum_of inertia velocity)

unfoldable pub wrench_there : Inertia → Measured → Measured → Measured → Measured
wrench_there inertia acceleration velocity momentum = sum_of (momentum_of inertia acceleration) (force_rate velocity momentum)

unfoldable pub velocity_there : Rule → Measured → Measured
velocity_there rule motion = settled_by rule 32 motion

abbrev pub body_wrench_there : Rule → Triple ℤ → Inertia → Measured → Measured → Measured
body_wrench_there rule gravity inertia motion drift =
    wrench_there inertia (acceleration_there rule gravity drift) (velocity_there rule motion) (momentum_there rule inertia (velocity_there rule motion))

abbrev pub body_fault_there : Rule → Triple ℤ → Inertia → Measured → Measured → ℕ → Option OutOfRange
body_fault_there rule gravity inertia motion drift k =
    or_first (measure_fault kind.BodyMotion k (2 ^ 48) (velocity_there rule motion))
    (or_first (measure_fault kind.BodyMotion k (2 ^ 56) (acceleration_there rule gravity drift))
    (or_first (measure_fault kind.BodyMotion k (2 ^ 62) (momentum_there rule inertia (velocity_there rule motion)))
    (unless (is_within6 (2 ^ 118) (body_wrench_there rule gravity inertia motion drift).value) kind.Wrench k)))

-- ---- up the tree: the sum over all that is at or below b of what stood there
abbrev pub sum_there : (ℕ → ℕ) → ℕ → (ℕ → Measured) → ℕ → Measured
sum_there parent n f b = measured (sum_under vectors parent n (λ k. (f k).value) b) (sum_under sizes parent n (λ k. (f k).width) b)

-- ---- of dof i, from its column and the sum of wrenches
unfoldable pub load_there : Rule → Measured → Measured
load_there rule wrench = settled_by rule 32 wrench

unfoldable pub force_there : Measured → Measured → ℤ
force_there column load = settled_mid (pair column.value load.value) 40

unfoldable pub force_radius_there : Rule → Measured → Measured → ℕ
force_radius_there rule column load = rule (pair_width column.value column.width load.value load.width) (rounding_loss (pair column.value load.value) 40) 40

abbrev pub force_fault_there : Rule → Measured → Measured → ℕ → Option OutOfRange
force_fault_there rule column wrench i =
    or_first (measure_fault kind.Bias (i + 1) (2 ^ 62) (load_there rule wrench))
    (named kind.Bias (i + 1) (over (2 ^ 52) (force_there column (load_there rule wrench)) (force_radius_there rule column (load_there rule wrench))))

-- a list of numbers, each with these functions of its place
pub record Holds {R : Type 0} (width : R → ℕ) (n : ℕ) (xs : List (Number R 32)) (value : ℕ → ℤ) (radius : ℕ → ℕ) : Type 0 where
  pub value_ : (i : ℕ) → i < n → (d : Number R 32) → (slice_index_or xs i d).mid ≡ value i
  pub radius_ : (i : ℕ) → i < n → (d : Number R 32) → width (slice_index_or xs i d).rad ≡ radius i

pub record AreSmall {R : Type 0} (width : R → ℕ) (n : ℕ) (xs : List (Number R 32)) : Type 0 where
  pub value_ : (i : ℕ) → i < n → (d : Number R 32) → unsigned_abs (slice_index_or xs i d).mid ≤ 2 ^ 52
  pub radius_ : (i : ℕ) → i < n → (d : Number R 32) → width (slice_index_or xs i d).rad ≤ radius_limit
