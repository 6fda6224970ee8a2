-- What a run tells of a step: its block and its dual, a ball around its acceleration, and its inverse dynamics, where they are asked for.
use Rattle.std.specs.Prelude.{ℕ, ◌+◌, ◌<◌, cond, pos, List, [], ◌++◌, Bool, Option, Some, None}
use Rattle.fx_whole.specs.First.{or_first}
use Rattle.mj_types.specs.declared.model.Model.{Model}
use Rattle.mj_types.specs.declared.range.OutOfRange.{OutOfRange}
use Rattle.mj_types.specs.declared.state.State.{State}
use Rattle.mj_types.specs.declared.wants.Ball.{Ball}
use Rattle.mj_types.specs.declared.wants.Wants.{Wants}
use Rattle.mj_types.specs.Control.{Control}
use Rattle.mj_types.specs.StepValues.{DualValues}
use Rattle.mj_inverse.specs.Rows.{RowProblem, IsRowOptimum, pull}
use Rattle.mj_inverse.specs.Separated.{Given, force_of, gap, discrepancy, inverse_fault}
use Rattle.mj_step.specs.Steps.{mass_of, free_load, smooth, acceleration, dual_at, problem_at, row_jacobian, force_at, ball_at, step_values, step_fault}
use Rattle.mj_trace.specs.Block.{block_text}
use Rattle.mj_trace.specs.Wanted.{InverseValues, ball_text, inverse_text}

-- a dual, where it is asked for
abbrev pub asked : Bool → DualValues → Option DualValues
asked wants dual = cond wants (Some dual) None

-- the step of a model from a state under the controls u
module _ (m : Model) (s : State) (u : List Control) where
  -- ---- its inverse dynamics: row k of its dual, what it gives, and what that makes
  abbrev pub row_at : ℕ → RowProblem
  row_at k = record {
    place = (dual_at m s u).place k;
    jacobian = row_jacobian m s u k;
    b = (problem_at m s u).b k;
    r = (problem_at m s u).r k;
    low = (problem_at m s u).low k;
    high = (problem_at m s u).high k;
  }

  unfoldable pub given_at : Given
  given_at = record {
    motion = record { dofs = m.nv; smooth = smooth m s u; accel = acceleration m s u };
    rows = (problem_at m s u).m;
    row = row_at;
    force = force_at m s u;
    mass = mass_of m s;
    free_load = free_load m s u;
  }

  abbrev pub inverse_at : InverseValues
  inverse_at = record { x = force_of given_at; gap = pos (gap given_at); discrepancy = pos (discrepancy given_at) }

  -- each of its forces is within one unit of its row's rational optimum
  abbrev pub AreBest : Type 0
  AreBest =
      (k : ℕ) → k < (problem_at m s u).m
      → IsRowOptimum ((problem_at m s u).low k) ((problem_at m s u).high k) ((problem_at m s u).r k) (pull given_at.motion (row_at k)) (inverse_at.x k)

-- ---- the first number out of range: of the step, and then of its inverse dynamics, where they are asked for
abbrev pub with_more : Bool → Option OutOfRange → Option OutOfRange → Option OutOfRange
with_more wants first later = cond wants (or_first first later) first

abbrev pub told_fault : Wants → Model → State → List Control → Option OutOfRange
told_fault wants m s u = with_more wants.inverse (step_fault m s u) (inverse_fault (given_at m s u))

-- ---- the text of the step after k others
abbrev pub ball_lines : Bool → Option Ball → List ℕ
ball_lines wants ball = cond wants (ball_text ball) []

abbrev pub inverse_lines : Bool → DualValues → InverseValues → List ℕ
inverse_lines wants dual inverse = cond wants (inverse_text dual inverse) []

abbrev pub told_text : Wants → Model → ℕ → State → List Control → List ℕ
told_text wants m k s u =
    (block_text m.format m.nq m.nv (k + 1) (step_values m s u) (asked wants.dual (dual_at m s u))
    ++ ball_lines wants.ball (ball_at m s u))
    ++ inverse_lines wants.inverse (dual_at m s u) (inverse_at m s u)
