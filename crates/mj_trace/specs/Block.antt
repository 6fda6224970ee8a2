-- What a trace tells of one step that was done. A format of this project's own; the sources are MuJoCo's kinds of constraint.
use Rattle.std.specs.Prelude.{ℕ, ◌+◌, ◌==◌, cond, ℤ, List, [], ◌++◌, length, codes, decimal, Option, Some, None}
use Rattle.std.specs.Fmt.{signed_decimal}
use Rattle.fx_whole.specs.Joined.{joined}
use Rattle.fx_whole.specs.Counting.{count_to}
use Rattle.mj_optimum.specs.declared.stop.Stop.{Stop}
use Rattle.mj_optimum.specs.declared.stop.Stop.TheVariants as stop
use Rattle.mj_types.specs.declared.rows.Row.{Row}
use Rattle.mj_types.specs.declared.rows.Source.{Source}
use Rattle.mj_types.specs.declared.rows.Source.TheVariants as source
use Rattle.mj_types.specs.Duals.{bound}
use Rattle.mj_types.specs.StepValues.{StepValues, DualValues, row, active_before}
use Rattle.mj_trace.specs.Lines.{line, spaced, numbers_text}

-- what a row stands for
abbrev pub source_text : Source → List ℕ
source_text (source.Low j) = codes "low " ++ decimal j
source_text (source.High j) = codes "high " ++ decimal j
source_text (source.TendonLow t) = codes "tlow " ++ decimal t
source_text (source.TendonHigh t) = codes "thigh " ++ decimal t
source_text (source.Contact c edge) = ((codes "contact " ++ decimal c) ++ codes " ") ++ decimal edge
source_text (source.Equality e) = codes "equality " ++ decimal e
source_text (source.Friction j) = codes "friction " ++ decimal j

-- a bound that may be missing, after a space
abbrev pub bound_text : Option ℤ → List ℕ
bound_text None = codes " -"
bound_text (Some n) = spaced n

-- format 2 tells a row's bounds
abbrev pub bounds_text : ℕ → Row → List ℕ
bounds_text format r = cond (format == 2) ((codes " in" ++ bound_text (bound r.low)) ++ bound_text (bound r.high)) []

-- ---- a row: `force`, `lo` and `hi` are those of the rows of the dual
-- the force of row k of the dual, and the ends of its box
abbrev pub force_text : (ℕ → ℤ) → (ℕ → ℤ) → (ℕ → ℤ) → ℕ → List ℕ
force_text force lo hi k = (spaced (force k) ++ spaced (lo k)) ++ spaced (hi k)

-- what follows a row's source: an idle row has no force
abbrev pub rest_text : ℕ → List Row → (ℕ → ℤ) → (ℕ → ℤ) → (ℕ → ℤ) → ℕ → List ℕ
rest_text format rows force lo hi i =
    cond (row rows i).idle (codes " idle") (force_text force lo hi (active_before rows i) ++ bounds_text format (row rows i))

-- row i, from 0
unfoldable pub row_text : ℕ → List Row → (ℕ → ℤ) → (ℕ → ℤ) → (ℕ → ℤ) → ℕ → List ℕ
row_text format rows force lo hi i =
    ((((codes "row " ++ decimal (i + 1)) ++ codes " ") ++ source_text (row rows i).source) ++ rest_text format rows force lo hi i) ++ codes "\n"

abbrev pub stop_text : Stop → List ℕ
stop_text stop.NoRows = codes "stop none\n"
stop_text (stop.Tolerance n) = line (codes "stop tolerance ") (decimal n)
stop_text (stop.Limit n) = line (codes "stop limit ") (decimal n)

-- two numbers on a line
abbrev pub two_text : List ℕ → ℤ → ℤ → List ℕ
two_text label a b = (((label ++ signed_decimal a) ++ codes " ") ++ signed_decimal b) ++ codes "\n"

-- how many rows there are, and how many of them are idle
abbrev pub idle_count : List Row → ℕ
idle_count rows = count_to (length rows) (λ i. (row rows i).idle)

abbrev pub counts_text : List Row → List ℕ
counts_text rows = ((codes "rows " ++ decimal (length rows)) ++ (codes " idle " ++ decimal (idle_count rows))) ++ codes "\n"

abbrev pub rows_text : ℕ → StepValues → List ℕ
rows_text format s = joined (length s.rows) (row_text format s.rows s.force s.lo s.hi)

-- ---- the block of step `step`, from 1, of a model with nq positions and nv velocities
unfoldable pub motion_text : ℕ → ℕ → ℕ → StepValues → List ℕ
motion_text nq nv step s =
    ((((line (codes "step ") (decimal step)
    ++ line (codes "q") (numbers_text nq s.q))
    ++ line (codes "v") (numbers_text nv s.v))
    ++ line (codes "a") (numbers_text nv s.accel))
    ++ line (codes "residual ") (signed_decimal s.residual))
    ++ two_text (codes "radius ") s.mass_radius s.bias_radius

unfoldable pub constraint_text : ℕ → StepValues → List ℕ
constraint_text format s =
    ((counts_text s.rows ++ rows_text format s) ++ stop_text s.stop) ++ two_text (codes "cost ") s.cost s.bound

-- ---- the dual, where it is asked for
abbrev pub dual_bounds_text : ℕ → Option ℤ → Option ℤ → List ℕ
dual_bounds_text format low high = cond (format == 2) (bound_text low ++ bound_text high) []

-- row i of it: its number in the list of rows, R, b, in format 2 its bounds, and its row of G
unfoldable pub dual_row_text : ℕ → DualValues → ℕ → List ℕ
dual_row_text format d i =
    ((((codes "d " ++ decimal (d.place i)) ++ spaced (d.problem.r i)) ++ spaced (d.problem.b i))
    ++ dual_bounds_text format (d.problem.low i) (d.problem.high i))
    ++ line [] (numbers_text d.problem.nv (d.problem.g i))

abbrev pub bounds_mark : ℕ → List ℕ
bounds_mark format = cond (format == 2) (codes " bounds") []

abbrev pub dual_head : ℕ → DualValues → List ℕ
dual_head format d =
    (((codes "dual " ++ decimal d.problem.m) ++ (codes " " ++ decimal d.problem.nv)) ++ bounds_mark format) ++ codes "\n"

unfoldable pub problem_text : ℕ → DualValues → List ℕ
problem_text format d = dual_head format d ++ joined d.problem.m (dual_row_text format d)

abbrev pub dual_text : ℕ → Option DualValues → List ℕ
dual_text format None = []
dual_text format (Some d) = problem_text format d

unfoldable pub block_text : ℕ → ℕ → ℕ → ℕ → StepValues → Option DualValues → List ℕ
block_text format nq nv step s d = (motion_text nq nv step s ++ constraint_text format s) ++ dual_text format d
