-- The row lines of a report: the forces and the box of the rows that aren't idle stand in its lists one after another.
use Rattle.std.specs.Prelude.{◌≡◌, ℕ, ◌≤◌, pos, ℤ, List, length}
use Rattle.fx_whole.specs.Entries.{below}
use Rattle.mj_types.specs.declared.rows.StepReport.{StepReport}
use Rattle.mj_types.specs.Parts.{number_at}
use Rattle.mj_types.specs.Problems.{forces}
use Rattle.mj_types.specs.StepValues.{active_count}
use Rattle.mj_trace.specs.Block.{rest_text, row_text}

-- its rows are counted, and each that isn't idle has a force and the ends of a box
pub record HasForces (x : StepReport) : Type 0 where
  pub count : x.count ≡ length x.rows.list
  pub f : active_count x.rows.list ≤ length x.forces.f
  pub lo : active_count x.rows.list ≤ length x.cert.lo
  pub hi : active_count x.rows.list ≤ length x.cert.hi

-- what a list holds for the rows that aren't idle
abbrev pub of_active : StepReport → (ℕ → ℤ) → ℕ → ℤ
of_active x f = below (pos 0) (active_count x.rows.list) f

abbrev pub report_rest : StepReport → ℕ → List ℕ
report_rest x = rest_text x.format x.rows.list (of_active x (forces x.forces)) (of_active x (number_at x.cert.lo)) (of_active x (number_at x.cert.hi))

abbrev pub report_row : StepReport → ℕ → List ℕ
report_row x = row_text x.format x.rows.list (of_active x (forces x.forces)) (of_active x (number_at x.cert.lo)) (of_active x (number_at x.cert.hi))
