-- The kinds of number that a step makes within a range, and the list of ranges: a row of checks, whose first fault is the first number out of range.
use Rattle.std.specs.Prelude.{ℕ, ◌-◌, List, codes, Bool, ◌&&◌, cond, Option, Some, None, ℤ, int_le, nat_le, unsigned_abs}
use Rattle.fx_whole.specs.First.{first_to}
use Rattle.fx_num.specs.declared.carry.Over.{Over}
use Rattle.fx_num.specs.declared.carry.Over.TheVariants.{Value, Radius}
use Rattle.mj_types.specs.declared.range.OutOfRange.{OutOfRange}
use Rattle.mj_types.specs.declared.range.Quantity.{Quantity}
use Rattle.mj_types.specs.declared.range.Quantity.TheVariants as kind

abbrev pub quantity_name : Quantity → List ℕ
quantity_name kind.QuatNorm = codes "QuatNorm"
quantity_name kind.FramePos = codes "FramePos"
quantity_name kind.Arm = codes "Arm"
quantity_name kind.GeomNorm = codes "GeomNorm"
quantity_name kind.Inertia = codes "Inertia"
quantity_name kind.Column = codes "Column"
quantity_name kind.Momentum = codes "Momentum"
quantity_name kind.Mass = codes "Mass"
quantity_name kind.DofMotion = codes "DofMotion"
quantity_name kind.BodyMotion = codes "BodyMotion"
quantity_name kind.Wrench = codes "Wrench"
quantity_name kind.Bias = codes "Bias"
quantity_name kind.TendonLength = codes "TendonLength"
quantity_name kind.TendonForce = codes "TendonForce"
quantity_name kind.Applied = codes "Applied"
quantity_name kind.Pivot = codes "Pivot"
quantity_name kind.Lower = codes "Lower"
quantity_name kind.Accel = codes "Accel"
quantity_name kind.Rows = codes "Rows"
quantity_name kind.Jacobian = codes "Jacobian"
quantity_name kind.Violation = codes "Violation"
quantity_name kind.Reduced = codes "Reduced"
quantity_name kind.Regularizer = codes "Regularizer"
quantity_name kind.Reference = codes "Reference"
quantity_name kind.DualVector = codes "DualVector"
quantity_name kind.Force = codes "Force"
quantity_name kind.Reach = codes "Reach"
quantity_name kind.Cost = codes "Cost"
quantity_name kind.Shortfall = codes "Shortfall"
quantity_name kind.Box = codes "Box"
quantity_name kind.Load = codes "Load"
quantity_name kind.Velocity = codes "Velocity"
quantity_name kind.Position = codes "Position"
quantity_name kind.InverseRate = codes "InverseRate"
quantity_name kind.InverseForce = codes "InverseForce"
quantity_name kind.InverseLoad = codes "InverseLoad"
quantity_name kind.ErrorBound = codes "ErrorBound"

-- at most a limit in size
abbrev pub is_within : ℕ → ℤ → Bool
is_within limit n = nat_le (unsigned_abs n) limit

-- from least to most
abbrev pub is_between : ℤ → ℤ → ℤ → Bool
is_between least most n = int_le least n && int_le n most

-- the fault of a number that a test doesn't find in its range: its kind, and which of that kind, from 1
abbrev pub unless : Bool → Quantity → ℕ → Option OutOfRange
unless good what index = cond good None (Some (record { kind = what; index = index }))

-- the fault of a number whose size passes a limit
abbrev pub limited : Quantity → ℕ → ℕ → ℤ → Option OutOfRange
limited what index limit n = unless (is_within limit n) what index

-- the fault of a number with a radius, by which of the two passes its limit: the kind of a radius is ErrorBound
abbrev pub named : Quantity → ℕ → Option Over → Option OutOfRange
named what index None = None
named what index (Some Value) = Some (record { kind = what; index = index })
named what index (Some Radius) = Some (record { kind = kind.ErrorBound; index = index })

-- the first fault of f (n - 1), .., f 0
abbrev pub first_down : ℕ → (ℕ → Option OutOfRange) → Option OutOfRange
first_down n f = first_to n (λ s. f (n - 1 - s))
