-- One step: M a = tau - c + J^T f with the forces f of the constraints, and the state after it. MuJoCo documentation, Computation chapter.
use Rattle.std.specs.Prelude.{ℕ, ◌+◌, ◌-◌, ◌^◌, ℤ, pos, ◌+ℤ◌, ◌-ℤ◌, ◌*ℤ◌, List, length, Option}
use Rattle.fx_whole.specs.Entries.{below}
use Rattle.fx_whole.specs.First.{or_first, first_to}
use Rattle.fx_whole.specs.Sums.{sum_to}
use Rattle.fx_num.specs.Settled.{settled_mid}
use Rattle.fx_near.specs.Widths.{settled_radius}
use Rattle.mj_optimum.specs.Box.{lo, hi}
use Rattle.mj_optimum.specs.Cost.{cost}
use Rattle.mj_optimum.specs.Problem.{Problem}
use Rattle.mj_optimum.specs.Shortfall.{bound2}
use Rattle.mj_optimum.specs.Stop.{stop_of}
use Rattle.mj_types.specs.declared.model.Model.{Model}
use Rattle.mj_types.specs.declared.range.OutOfRange.{OutOfRange}
use Rattle.mj_types.specs.declared.range.Quantity.TheVariants as kind
use Rattle.mj_types.specs.declared.rows.Row.{Row}
use Rattle.mj_types.specs.declared.state.State.{State}
use Rattle.mj_types.specs.declared.wants.Ball.{Ball}
use Rattle.mj_types.specs.Control.{Control}
use Rattle.mj_types.specs.Parts.{number_at}
use Rattle.mj_types.specs.Ranges.{limited}
use Rattle.mj_types.specs.StepValues.{StepValues, DualValues}
use Rattle.mj_kin.specs.Placings.{placing, frames_fault}
use Rattle.mj_inertia.specs.MassEntries.{mass, mass_radius, mass_fault}
use Rattle.mj_bias.specs.Biases.{bias}
use Rattle.mj_bias.specs.Radii.{bias_radius}
use Rattle.mj_bias.specs.Faults.{bias_fault}
use Rattle.mj_passive.specs.Forces.{tau, tendon_length, applied_fault}
use Rattle.mj_factor.specs.Factors.{lower, pivot, factor_fault}
use Rattle.mj_factor.specs.Solves.{solution, solve_fault}
use Rattle.mj_factor.specs.Residuals.{greatest_to, residual_at}
use Rattle.mj_ball.specs.Shifts.{ball_of}
use Rattle.mj_contact.specs.Lists.{contact_list, contacts_fault}
use Rattle.mj_rows.specs.Constraint.{Constraint}
use Rattle.mj_rows.specs.Constraints.{constraints}
use Rattle.mj_dual.specs.Assembly.{constraint, row_list, dual_of, assembly_fault}
use Rattle.mj_dual.specs.Reductions.{Dynamics}
use Rattle.mj_force.specs.Enclosures.{force_of, enclosure_fault}
use Rattle.mj_euler.specs.Advance.{next_state, state_fault}

-- ---- the equation of motion of a model in a state: the mass matrix M and the bias forces c, with their radii
unfoldable pub mass_of : Model → State → ℕ → ℕ → ℤ
mass_of m s = mass m (placing m s).column (placing m s).inertia

unfoldable pub mass_radius_of : Model → State → ℕ → ℕ → ℕ
mass_radius_of m s = mass_radius m (placing m s).column (placing m s).inertia

unfoldable pub bias_of : Model → State → ℕ → ℤ
bias_of m s = bias m (placing m s) (number_at s.v)

unfoldable pub bias_radius_of : Model → State → ℕ → ℕ
bias_radius_of m s = bias_radius settled_radius m (placing m s) (number_at s.v)

-- the largest radii of M's entries and of c's
unfoldable pub largest_mass_radius : Model → State → ℕ
largest_mass_radius m s = greatest_to m.nv (λ i. greatest_to m.nv (mass_radius_of m s i))

unfoldable pub largest_bias_radius : Model → State → ℕ
largest_bias_radius m s = greatest_to m.nv (bias_radius_of m s)

-- x, which solves M x = b
abbrev pub solved : Model → State → (ℕ → ℤ) → ℕ → ℤ
solved m s b = below (pos 0) m.nv (solution m.nv (lower m.nv (mass_of m s)) (pivot m.nv (mass_of m s)) b)

-- ---- without constraints, under the controls u: tau - c, and the acceleration that it gives
unfoldable pub free_load : Model → State → List Control → ℕ → ℤ
free_load m s u = below (pos 0) m.nv (λ i. tau m s u i -ℤ bias_of m s i)

unfoldable pub smooth : Model → State → List Control → ℕ → ℤ
smooth m s u = solved m s (free_load m s u)

-- ---- the constraints of a state, and their dual
abbrev pub tendon_lengths : Model → State → ℕ → ℤ
tendon_lengths m s = below (pos 0) (length m.tendons) (tendon_length m s)

unfoldable pub constraints_at : Model → State → List Constraint
constraints_at m s = constraints m s (placing m s) (tendon_lengths m s) (contact_list m (placing m s))

-- what they act on
unfoldable pub dynamics_of : Model → State → List Control → Dynamics
dynamics_of m s u = record {
  motion = record { dofs = m.nv; velocity = number_at s.v; smooth = smooth m s u };
  lower = lower m.nv (mass_of m s);
  pivot = pivot m.nv (mass_of m s);
}

-- their rows in order, and the dual of those that aren't idle
unfoldable pub rows_at : Model → State → List Control → List Row
rows_at m s u = row_list (dynamics_of m s u) (constraints_at m s)

unfoldable pub dual_at : Model → State → List Control → DualValues
dual_at m s u = dual_of (dynamics_of m s u) (constraints_at m s)

abbrev pub problem_at : Model → State → List Control → Problem
problem_at m s u = (dual_at m s u).problem

-- the forces of the dual's rows, at scale 20, after the sweeps that are made
unfoldable pub force_at : Model → State → List Control → ℕ → ℤ
force_at m s u = force_of (problem_at m s u) m.tolerance.mid m.iterations

-- ---- with them: J^T f at dof i, at scale 52, a sum over the dual's rows
abbrev pub row_jacobian : Model → State → List Control → ℕ → ℕ → ℤ
row_jacobian m s u k = (constraint (constraints_at m s) ((dual_at m s u).place k - 1)).jacobian

unfoldable pub push_at : Model → State → List Control → ℕ → ℤ
push_at m s u i = sum_to (problem_at m s u).m (λ k. row_jacobian m s u k i *ℤ force_at m s u k)

-- tau - c + J^T f, the acceleration a that it gives, and the largest |M a - (tau - c + J^T f)|, exact
unfoldable pub load : Model → State → List Control → ℕ → ℤ
load m s u = below (pos 0) m.nv (λ i. free_load m s u i +ℤ settled_mid (push_at m s u i) 20)

unfoldable pub acceleration : Model → State → List Control → ℕ → ℤ
acceleration m s u = solved m s (load m s u)

unfoldable pub residual_of : Model → State → List Control → ℕ
residual_of m s u = greatest_to m.nv (residual_at m.nv (mass_of m s) (acceleration m s u) (load m s u))

-- a ball around a that holds each rational solution x of M x = tau - c + J^T f
unfoldable pub ball_at : Model → State → List Control → Option Ball
ball_at m s u = ball_of m.nv (mass_of m s) (acceleration m s u) (load m s u)

-- ---- the step
-- the state after it
abbrev pub step_state : Model → State → List Control → State
step_state m s u = next_state m s (acceleration m s u)

-- what it tells
abbrev pub step_values : Model → State → List Control → StepValues
step_values m s u = record {
  q = number_at (step_state m s u).q;
  v = number_at (step_state m s u).v;
  accel = acceleration m s u;
  residual = pos (residual_of m s u);
  mass_radius = pos (largest_mass_radius m s);
  bias_radius = pos (largest_bias_radius m s);
  rows = rows_at m s u;
  stop = stop_of (problem_at m s u) m.tolerance.mid m.iterations;
  force = force_at m s u;
  cost = cost (problem_at m s u) (force_at m s u) (pos 1);
  bound = bound2 (problem_at m s u) (force_at m s u);
  lo = below (pos 0) (problem_at m s u).m (lo (problem_at m s u) (force_at m s u));
  hi = below (pos 0) (problem_at m s u).m (hi (problem_at m s u) (force_at m s u));
}

-- ---- the first number out of range: on the way to the frames, the mass matrix and the bias forces
unfoldable pub weigh_fault : Model → State → Option OutOfRange
weigh_fault m s =
    or_first (frames_fault m s)
    (or_first (mass_fault m (placing m s).column (placing m s).inertia)
    (bias_fault settled_radius m (placing m s) (number_at s.v)))

-- to the factor and the acceleration without constraints
abbrev pub solved_fault : Model → State → (ℕ → ℤ) → Option OutOfRange
solved_fault m s b = solve_fault m.nv (lower m.nv (mass_of m s)) (pivot m.nv (mass_of m s)) b

unfoldable pub smooth_fault : Model → State → List Control → Option OutOfRange
smooth_fault m s u = or_first (factor_fault m.nv (mass_of m s)) (solved_fault m s (free_load m s u))

-- to the rows and their dual
unfoldable pub rows_fault : Model → State → List Control → Option OutOfRange
rows_fault m s u = or_first (contacts_fault m (placing m s)) (assembly_fault m (dynamics_of m s u) (constraints_at m s))

-- to the forces and their certificate
unfoldable pub force_fault : Model → State → List Control → Option OutOfRange
force_fault m s u = enclosure_fault (dual_at m s u) m.tolerance.mid m.iterations

-- to the load of each dof
unfoldable pub load_fault : Model → State → List Control → Option OutOfRange
load_fault m s u = first_to m.nv (λ i. limited kind.Load (i + 1) (2 ^ 54) (load m s u i))

-- and then to the acceleration and the new state
unfoldable pub step_fault : Model → State → List Control → Option OutOfRange
step_fault m s u =
    or_first (weigh_fault m s)
    (or_first (applied_fault m s u)
    (or_first (smooth_fault m s u)
    (or_first (rows_fault m s u)
    (or_first (force_fault m s u)
    (or_first (load_fault m s u)
    (or_first (solved_fault m s (load m s u)) (state_fault m s (acceleration m s u))))))))
