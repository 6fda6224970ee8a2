-- Which workspaces are made for a model, and what they hold after each part of a step.
use Rattle.std.specs.Prelude.{◌≡◌, ℕ, ◌-◌, ◌*◌, ◌<◌, ◌≤◌, ◌^◌, ℤ, ◌-ℤ◌, ◌*ℤ◌, ◌≤ℤ◌, List, length, unsigned_abs, slice_index_or}
use Rattle.fx_whole.specs.Sums.{sum_to}
use Rattle.fx_num.specs.declared.number.Number.{Number}
use Rattle.mj_types.specs.declared.model.Model.{Model}
use Rattle.mj_types.specs.declared.state.State.{State}
use Rattle.mj_types.specs.declared.carriers.Applied.{Applied}
use Rattle.mj_types.specs.declared.carriers.Factor.{Factor}
use Rattle.mj_types.specs.declared.carriers.Frames.{Frames}
use Rattle.mj_types.specs.declared.carriers.Mass.{Mass}
use Rattle.mj_types.specs.declared.dual.Cert.{Cert}
use Rattle.mj_types.specs.declared.dual.Dual.{Dual}
use Rattle.mj_types.specs.declared.dual.Forces.{Forces}
use Rattle.mj_types.specs.declared.rows.Rows.{Rows}
use Rattle.mj_types.specs.declared.rows.StepReport.{StepReport}
use Rattle.mj_types.specs.Applieds.{AreApplied}
use Rattle.mj_types.specs.BiasRooms.{BiasRoom}
use Rattle.mj_types.specs.Control.{Control}
use Rattle.mj_types.specs.Duals.{entry_at}
use Rattle.mj_types.specs.FactorRooms.{FactorRoom}
use Rattle.mj_types.specs.Forests.{above_in}
use Rattle.mj_types.specs.Masses.{IsMass, mass_at, mass_radius_at}
use Rattle.mj_types.specs.Parts.{number_at}
use Rattle.mj_types.specs.Placed.{AreFrames, placing_of}
use Rattle.mj_types.specs.Problems.{IsSolvable, HasRoom, place, forces}
use Rattle.mj_types.specs.Rooms.{FramesRoom, CompositeRoom, MassRoom, AppliedRoom, ContactsRoom}
use Rattle.mj_types.specs.RowRooms.{RowsRoom, ReportRoom}
use Rattle.mj_types.specs.StepValues.{active_count, dual_values}
use Rattle.mj_optimum.specs.Box.{lo, hi}
use Rattle.mj_kin.specs.Placings.{placing, AreUnits}
use Rattle.mj_factor.specs.Factors.{lower, pivot}
use Rattle.mj_factor.specs.Stored.{entry, IsFactor}
use Rattle.mj_dual.specs.Assembly.{HasJacobians}
use Rattle.mj_euler.specs.Written.{StateRoom}
use Rattle.mj_quadratic.specs.Forms.{IsSymmetric}
use Rattle.mj_step.specs.declared.work.Work.{Work}
use Rattle.mj_step.specs.Steps.{mass_of, mass_radius_of, bias_of, bias_radius_of, tendon_lengths, constraints_at, rows_at, dual_at, problem_at, force_at, step_values}

pub record MadeFor (m : Model) (w : Work) : Type 0 where
  pub frames : FramesRoom m w.frames
  pub composite : CompositeRoom m w.composite
  pub mass : MassRoom m w.mass
  pub bias : BiasRoom m w.bias
  pub applied : AppliedRoom m w.applied
  pub factor : FactorRoom m w.factor
  pub spare : FactorRoom m w.spare
  pub contacts : ContactsRoom m w.contacts
  pub free_load : length w.free_load ≡ m.nv
  pub smooth : length w.smooth.items ≡ m.nv
  pub load : length w.load ≡ m.nv
  pub accel : length w.accel.items ≡ m.nv
  pub rows : RowsRoom m w.rows
  pub dual : HasRoom m.njmax m.nv w.dual
  pub report : ReportRoom m w.report
  pub next : StateRoom m w.next

-- ---- after the frames, the mass matrix and the bias forces of a state
pub record HasFrames (m : Model) (s : State) (f : Frames) : Type 0 where
  pub values : placing_of f ≡ placing m s
  pub ranges : AreFrames m f
  pub units : AreUnits m f

pub record HasMass (m : Model) (s : State) (x : Mass) : Type 0 where
  pub lawful : IsMass m x
  pub values : (i j : ℕ) → i < m.nv → j < m.nv → mass_at m.nv x.m i j ≡ mass_of m s i j
  pub radii : (i j : ℕ) → i < m.nv → j < m.nv → mass_radius_at m.nv x.m i j ≡ mass_radius_of m s i j
  pub small : (i j : ℕ) → i < m.nv → j < m.nv → mass_radius_at m.nv x.m i j ≤ 2 ^ 40

pub record HasBias (m : Model) (s : State) (c : List (Number ℕ 32)) : Type 0 where
  pub values : (i : ℕ) → i < m.nv → (d : Number ℕ 32) → (slice_index_or c i d).mid ≡ bias_of m s i
  pub radii : (i : ℕ) → i < m.nv → (d : Number ℕ 32) → (slice_index_or c i d).rad ≡ bias_radius_of m s i
  pub small : (i : ℕ) → i < m.nv → (d : Number ℕ 32) → unsigned_abs (slice_index_or c i d).mid ≤ 2 ^ 52
  pub small_radii : (i : ℕ) → i < m.nv → (d : Number ℕ 32) → (slice_index_or c i d).rad ≤ 2 ^ 40

-- ---- after the applied forces
pub record HasApplied (m : Model) (s : State) (a : Applied) : Type 0 where
  pub ranges : AreApplied m a
  pub lengths : number_at a.length ≡ tendon_lengths m s

-- numbers of which each is at most 2^54
pub record HasLoad (m : Model) (value_ : ℕ → ℤ) (x : List Control) : Type 0 where
  pub value : number_at x ≡ value_
  pub small : (i : ℕ) → i < m.nv → unsigned_abs (number_at x i) ≤ 2 ^ 54

-- and at most 2^56
pub record HasAcceleration (m : Model) (value_ : ℕ → ℤ) (x : List Control) : Type 0 where
  pub value : number_at x ≡ value_
  pub small : (i : ℕ) → i < m.nv → unsigned_abs (number_at x i) ≤ 2 ^ 56

-- ---- after the factor
pub record HasFactor (m : Model) (s : State) (f : Factor) : Type 0 where
  pub ranges : IsFactor m f
  pub lowers : (k i : ℕ) → k < m.nv → i < k → entry (above_in m) f.l k i ≡ lower m.nv (mass_of m s) k i
  pub pivots : (k : ℕ) → k < m.nv → number_at f.d k ≡ pivot m.nv (mass_of m s) k

-- ---- after the assembly
pub record HasRows (m : Model) (s : State) (u : List Control) (rows : Rows) (d : Dual) : Type 0 where
  pub list : rows.list.list ≡ rows_at m s u
  pub jacobians : HasJacobians m.nv (constraints_at m s) rows.jac.list
  pub dual_ : dual_values d ≡ dual_at m s u
  pub count : d.m ≡ active_count rows.list.list
  pub solvable : IsSolvable d

-- what pushes on the dofs: the dual's rows, with their Jacobians in the list of rows, and their forces
pub record CanPush (nv : ℕ) (rows : Rows) (d : Dual) (x : Forces) : Type 0 where
  pub some_place : (k : ℕ) → k < d.m → 1 ≤ place d k
  pub place_there : (k : ℕ) → k < d.m → place d k * nv ≤ length rows.jac.list
  pub small : (k i : ℕ) → k < d.m → i < nv → unsigned_abs (entry_at nv rows.jac.list (place d k - 1) i) ≤ 2 ^ 48
  pub f_room : d.m ≤ length x.f
  pub forces_ : (k : ℕ) → k < d.m → unsigned_abs (forces x k) ≤ 2 ^ 50

-- J^T f at dof i, of what the carriers hold
abbrev pub push_of : ℕ → Rows → Dual → Forces → ℕ → ℤ
push_of nv rows d x i = sum_to d.m (λ k. entry_at nv rows.jac.list (place d k - 1) i *ℤ forces x k)

-- ---- after the solver and the certificate
pub record HasForces (m : Model) (s : State) (u : List Control) (r : StepReport) : Type 0 where
  pub stop : r.stop ≡ (step_values m s u).stop
  pub force : forces r.forces ≡ force_at m s u
  pub cost : r.cert.cost2 ≡ (step_values m s u).cost
  pub bound : r.cert.bound2 ≡ (step_values m s u).bound
  pub low : (i : ℕ) → i < (problem_at m s u).m → number_at r.cert.lo i ≡ lo (problem_at m s u) (force_at m s u) i
  pub high : (i : ℕ) → i < (problem_at m s u).m → number_at r.cert.hi i ≡ hi (problem_at m s u) (force_at m s u) i
  pub small : (k : ℕ) → k < (problem_at m s u).m → unsigned_abs (force_at m s u k) ≤ 2 ^ 50

-- ---- in the end
-- what a ball around the acceleration asks for
pub record CanEnclose (m : Model) (x : Mass) (a : List Control) : Type 0 where
  pub lawful : IsMass m x
  pub symmetric : IsSymmetric m.nv (mass_at m.nv x.m)
  pub small : (i : ℕ) → i < m.nv → unsigned_abs (number_at a i) ≤ 2 ^ 56

-- the bound isn't above the cost, and not far below it
pub record HasGap (c : Cert) : Type 0 where
  pub order : c.bound2 ≤ℤ c.cost2
  pub near : unsigned_abs (c.cost2 -ℤ c.bound2) ≤ 2 ^ 124
