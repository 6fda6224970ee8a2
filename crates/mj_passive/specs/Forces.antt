-- The forces that springs, dampers, fixed tendons and motors apply at the dofs. MuJoCo documentation, Computation, passive forces
-- and actuation; scales, rounding and ranges are this project's own.
use Rattle.std.specs.Prelude.{ℕ, suc, ◌+◌, ◌-◌, ◌^◌, ◌==◌, Bool, false, cond, ℤ, ◌+ℤ◌, ◌-ℤ◌, ◌*ℤ◌, int_lt, unsigned_abs, ◌≡◌, ◌<◌, ◌≤◌, List, length, Option, None, Some}
use Rattle.fx_whole.specs.First.{or_first, first_to}
use Rattle.fx_whole.specs.Sums.{sum_to, when}
use Rattle.fx_num.specs.Settled.{settled_mid}
use Rattle.mj_types.specs.declared.model.Model.{Model}
use Rattle.mj_types.specs.declared.state.State.{State}
use Rattle.mj_types.specs.declared.parts.Drive.{Drive}
use Rattle.mj_types.specs.declared.parts.Drive.TheVariants as drive
use Rattle.mj_types.specs.declared.parts.Motor.{Motor}
use Rattle.mj_types.specs.declared.parts.Range.{Range}
use Rattle.mj_types.specs.declared.parts.Tendon.{Tendon}
use Rattle.mj_types.specs.declared.parts.Term.{Term}
use Rattle.mj_types.specs.declared.range.OutOfRange.{OutOfRange}
use Rattle.mj_types.specs.declared.range.Quantity.TheVariants as kind
use Rattle.mj_types.specs.Control.{Control, control_limit}
use Rattle.mj_types.specs.Lawful.{is_scalar}
use Rattle.mj_types.specs.Parts.{joint, dof, term, tendon, motor, number_at}
use Rattle.mj_types.specs.Ranges.{limited}

-- the position and the velocity of a hinge or a slide, by its number
abbrev pub q_at : Model → State → ℕ → ℤ
q_at m s number = number_at s.q (joint m.joints (number - 1)).qadr

abbrev pub v_at : Model → State → ℕ → ℤ
v_at m s number = number_at s.v (joint m.joints (number - 1)).dadr

-- ---- motors
-- a control held within the range, where there is one
abbrev pub held : Option Range → ℤ → ℤ
held None u = u
held (Some r) u = cond (int_lt u r.least.mid) r.least.mid (cond (int_lt r.greatest.mid u) r.greatest.mid u)

-- gear times control, at scale 64
unfoldable pub motor_force : Motor → ℤ → ℤ
motor_force a u = a.gear.mid *ℤ held a.ctrlrange u

-- whether a motor drives the joint, or the tendon, of a number
abbrev pub is_on_joint : ℕ → Drive → Bool
is_on_joint number (drive.Joint x) = number == x
is_on_joint number (drive.Tendon x) = false

abbrev pub is_on_tendon : ℕ → Drive → Bool
is_on_tendon number (drive.Joint x) = false
is_on_tendon number (drive.Tendon x) = number == x

-- what motor k adds there with the control u
abbrev pub joint_push : Model → ℕ → ℕ → ℤ → ℤ
joint_push m k number u = when (is_on_joint number (motor m.motors k).drive) (motor_force (motor m.motors k) u)

abbrev pub tendon_push : Model → ℕ → ℕ → ℤ → ℤ
tendon_push m k number u = when (is_on_tendon number (motor m.motors k).drive) (motor_force (motor m.motors k) u)

abbrev pub joint_motor : Model → List Control → ℕ → ℕ → ℤ
joint_motor m controls number k = joint_push m k number (number_at controls k)

abbrev pub tendon_motor : Model → List Control → ℕ → ℕ → ℤ
tendon_motor m controls number k = tendon_push m k number (number_at controls k)

-- one for each motor, each at most 2^20, which is 2^52 raw
pub record AreControls (m : Model) (controls : List Control) : Type 0 where
  pub many : length controls ≡ length m.motors
  pub small : (k : ℕ) → k < length m.motors → unsigned_abs (number_at controls k) ≤ control_limit

-- ---- tendons
-- the sum of coef x over the terms, for a number x of each joint
abbrev pub over_terms : List Term → (ℕ → ℤ) → ℤ
over_terms terms x = sum_to (length terms) (λ i. (term terms i).coef.mid *ℤ x (term terms i).joint)

unfoldable pub tendon_length : Model → State → ℕ → ℤ
tendon_length m s t = settled_mid (over_terms (tendon m.tendons t).terms (q_at m s)) 32

unfoldable pub tendon_rate : Model → State → ℕ → ℤ
tendon_rate m s t = settled_mid (over_terms (tendon m.tendons t).terms (v_at m s)) 32

-- -stiffness (length - springlength) - damping rate, and what its motors add
unfoldable pub tension_of : Tendon → ℤ → ℤ → ℤ → ℤ
tension_of a length_ rate motors =
    settled_mid (motors -ℤ a.stiffness.mid *ℤ (length_ -ℤ a.springlength.mid) -ℤ a.damping.mid *ℤ rate) 32

abbrev pub tension_from : Model → State → ℕ → ℤ → ℤ
tension_from m s t motors = tension_of (tendon m.tendons t) (tendon_length m s t) (tendon_rate m s t) motors

abbrev pub tension : Model → State → List Control → ℕ → ℤ
tension m s controls t = tension_from m s t (sum_to (length m.motors) (tendon_motor m controls (suc t)))

-- what a tendon adds at a joint: coef T for each term that names it
abbrev pub term_pull : Term → ℤ → ℕ → ℤ
term_pull x force number = when (number == x.joint) (x.coef.mid *ℤ force)

abbrev pub pull : List Term → ℤ → ℕ → ℤ
pull terms force number = sum_to (length terms) (λ i. term_pull (term terms i) force number)

-- tendon t, from what motors add to each tendon
abbrev pub pull_from : Model → State → ℕ → (ℕ → ℤ) → ℕ → ℤ
pull_from m s number motors t = pull (tendon m.tendons t).terms (tension_from m s t (motors t)) number

abbrev pub tendon_pull : Model → State → List Control → ℕ → ℕ → ℤ
tendon_pull m s controls number t = pull (tendon m.tendons t).terms (tension m s controls t) number

-- ---- dofs
-- -stiffness (q - springref), and what motors and tendons add, of a hinge or a slide
unfoldable pub joint_force : Model → State → ℤ → ℕ → ℤ
joint_force m s added number =
    added -ℤ (joint m.joints (number - 1)).stiffness.mid *ℤ (q_at m s number -ℤ (joint m.joints (number - 1)).springref.mid)

-- that for a hinge or a slide alone, and -damping v
unfoldable pub tau_of : Model → State → ℤ → ℕ → ℤ
tau_of m s added d =
    let number = (dof m.dofs d).joint in
    settled_mid (when (is_scalar (joint m.joints (number - 1)).kind) (joint_force m s added number) -ℤ (joint m.joints (number - 1)).damping.mid *ℤ number_at s.v d) 32

abbrev pub added_at : Model → State → List Control → ℕ → ℤ
added_at m s controls number = sum_to (length m.motors) (joint_motor m controls number) +ℤ sum_to (length m.tendons) (tendon_pull m s controls number)

abbrev pub tau : Model → State → List Control → ℕ → ℤ
tau m s controls d = tau_of m s (added_at m s controls (dof m.dofs d).joint) d

-- ---- the first number out of range: each tendon's length, rate and force, and then each dof's force
abbrev pub stretch_fault : Model → State → ℕ → Option OutOfRange
stretch_fault m s t =
    or_first (limited kind.TendonLength (t + 1) (2 ^ 52) (tendon_length m s t)) (limited kind.TendonLength (t + 1) (2 ^ 52) (tendon_rate m s t))

abbrev pub tendon_fault_from : Model → State → ℕ → ℤ → Option OutOfRange
tendon_fault_from m s t motors = or_first (stretch_fault m s t) (limited kind.TendonForce (t + 1) (2 ^ 52) (tension_from m s t motors))

abbrev pub tendon_fault : Model → State → List Control → ℕ → Option OutOfRange
tendon_fault m s controls t = tendon_fault_from m s t (sum_to (length m.motors) (tendon_motor m controls (suc t)))

abbrev pub tau_fault : Model → State → List Control → ℕ → Option OutOfRange
tau_fault m s controls d = limited kind.Applied (d + 1) (2 ^ 52) (tau m s controls d)

abbrev pub applied_fault : Model → State → List Control → Option OutOfRange
applied_fault m s controls = or_first (first_to (length m.tendons) (tendon_fault m s controls)) (first_to m.nv (tau_fault m s controls))
