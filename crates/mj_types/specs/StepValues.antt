-- What one step makes, as functions of a place: the new state and what a report tells; and the dual that it solves. MuJoCo documentation, Computation chapter.
use Rattle.std.specs.Prelude.{ℕ, Bool, true, not, ℤ, pos, List, None, length, slice_index_or}
use Rattle.fx_whole.specs.Counting.{count_to}
use Rattle.fx_whole.specs.Entries.{below}
use Rattle.mj_optimum.specs.Problem.{Problem}
use Rattle.mj_optimum.specs.declared.stop.Stop.{Stop}
use Rattle.mj_types.specs.declared.dual.Dual.{Dual}
use Rattle.mj_types.specs.declared.rows.Row.{Row}
use Rattle.mj_types.specs.declared.rows.Source.TheVariants as source
use Rattle.mj_types.specs.declared.rows.StepReport.{StepReport}
use Rattle.mj_types.specs.declared.state.State.{State}
use Rattle.mj_types.specs.Parts.{plain, no_soft, number_at}
use Rattle.mj_types.specs.Problems.{problem, place, forces}

-- ---- rows
abbrev pub no_row : Row
no_row = record { source = source.Low 0; r = plain (pos 0); soft = no_soft; idle = true; low = None; high = None }

abbrev pub row : List Row → ℕ → Row
row rows i = slice_index_or rows i no_row

-- row i is in the dual
abbrev pub is_active : List Row → ℕ → Bool
is_active rows i = not (row rows i).idle

-- how many of the first n rows are
abbrev pub active_before : List Row → ℕ → ℕ
active_before rows n = count_to n (is_active rows)

abbrev pub active_count : List Row → ℕ
active_count rows = active_before rows (length rows)

-- ---- positions and velocities after the step, the acceleration, the residual, the largest radii of mass and bias; the rows, how the
-- solver stopped, the forces of those that aren't idle, their cost, a lower bound of it, and the ends of the box
pub record StepValues : Type 0 where
  pub q : ℕ → ℤ
  pub v : ℕ → ℤ
  pub accel : ℕ → ℤ
  pub residual : ℤ
  pub mass_radius : ℤ
  pub bias_radius : ℤ
  pub rows : List Row
  pub stop : Stop
  pub force : ℕ → ℤ
  pub cost : ℤ
  pub bound : ℤ
  pub lo : ℕ → ℤ
  pub hi : ℕ → ℤ

-- those that a state and a report hold
abbrev pub values_of : State → StepReport → StepValues
values_of state report = record {
  q = number_at state.q;
  v = number_at state.v;
  accel = number_at report.accel;
  residual = report.residual;
  mass_radius = report.mass_radius;
  bias_radius = report.bias_radius;
  rows = report.rows.list;
  stop = report.stop;
  force = below (pos 0) (active_count (report.rows.list)) (forces report.forces);
  cost = report.cert.cost2;
  bound = report.cert.bound2;
  lo = below (pos 0) (active_count (report.rows.list)) (number_at report.cert.lo);
  hi = below (pos 0) (active_count (report.rows.list)) (number_at report.cert.hi);
}

-- ---- a problem's numbers of its own rows and dofs, and none elsewhere: two problems are one where these agree
abbrev pub own : Problem → Problem
own p = record {
  m = p.m;
  nv = p.nv;
  g = below (λ k. pos 0) p.m (λ i. below (pos 0) p.nv (p.g i));
  r = below (pos 0) p.m p.r;
  b = below (pos 0) p.m p.b;
  low = below None p.m p.low;
  high = below None p.m p.high;
}

-- the problem of the rows that aren't idle, and the number of each in the list of rows
pub record DualValues : Type 0 where
  pub problem : Problem
  pub place : ℕ → ℕ

abbrev pub dual_values : Dual → DualValues
dual_values d = record { problem = own (problem d); place = below 0 d.m (place d) }
