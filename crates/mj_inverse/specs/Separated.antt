-- Inverse dynamics of a step: the force of each row by itself, the load of each dof with these forces, and how far the step is from them. Todorov, Convex and analytically-invertible dynamics with contacts and constraints, 2014.
use Rattle.std.specs.Prelude.{ℕ, ◌+◌, ◌^◌, ℤ, ◌+ℤ◌, ◌-ℤ◌, ◌*ℤ◌, unsigned_abs, Option}
use Rattle.fx_whole.specs.First.{or_first, first_to}
use Rattle.fx_whole.specs.Sums.{sum_to}
use Rattle.fx_num.specs.Settled.{settled_mid}
use Rattle.mj_factor.specs.Residuals.{greatest_to, residual_at}
use Rattle.mj_types.specs.declared.range.OutOfRange.{OutOfRange}
use Rattle.mj_types.specs.declared.range.Quantity.TheVariants as kind
use Rattle.mj_types.specs.Ranges.{limited}
use Rattle.mj_inverse.specs.Rows.{Motion, RowProblem, separate, row_fault}

-- what a step gives: its accelerations, so many rows of a dual and their forces; the mass matrix M, and tau - c
pub record Given : Type 0 where
  pub motion : Motion
  pub rows : ℕ
  pub row : ℕ → RowProblem
  pub force : ℕ → ℤ
  pub mass : ℕ → ℕ → ℤ
  pub free_load : ℕ → ℤ

-- ---- the force x of each row by itself, and the largest |x - f|
abbrev pub force_of : Given → ℕ → ℤ
force_of g k = separate g.motion (g.row k)

abbrev pub gap_to : Given → ℕ → ℕ
gap_to g n = greatest_to n (λ k. unsigned_abs (force_of g k -ℤ g.force k))

abbrev pub gap : Given → ℕ
gap g = gap_to g g.rows

-- ---- tau - c + J^T x at dof i, of the forces x of m rows
abbrev pub push : ℕ → (ℕ → ℕ → ℤ) → (ℕ → ℤ) → ℕ → ℤ
push m jacobian x i = sum_to m (λ k. jacobian k i *ℤ x k)

abbrev pub load : ℕ → (ℕ → ℕ → ℤ) → (ℕ → ℤ) → (ℕ → ℤ) → ℕ → ℤ
load m jacobian free x i = free i +ℤ settled_mid (push m jacobian x i) 20

abbrev pub load_of : Given → ℕ → ℤ
load_of g = load g.rows (λ k. (g.row k).jacobian) g.free_load (force_of g)

-- the largest |M a - (tau - c + J^T x)|, exact
abbrev pub discrepancy : Given → ℕ
discrepancy g = greatest_to g.motion.dofs (residual_at g.motion.dofs g.mass g.motion.accel (load_of g))

-- ---- the first number out of range: row by row, and then dof by dof
abbrev pub load_fault : (ℕ → ℤ) → ℕ → Option OutOfRange
load_fault s i = limited kind.InverseLoad (i + 1) (2 ^ 54) (s i)

abbrev pub inverse_fault : Given → Option OutOfRange
inverse_fault g =
    or_first (first_to g.rows (λ k. row_fault g.motion (g.row k))) (first_to g.motion.dofs (load_fault (load_of g)))
