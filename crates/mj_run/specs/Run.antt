-- A run: its steps one after another, until one has a number out of range.
use Rattle.std.specs.Prelude.{ℕ, zero, suc, List, ◌++◌, Option}
use Rattle.mj_types.specs.declared.model.Model.{Model}
use Rattle.mj_types.specs.declared.range.OutOfRange.{OutOfRange}
use Rattle.mj_types.specs.declared.range.End.{End}
use Rattle.mj_types.specs.declared.state.State.{State}
use Rattle.mj_types.specs.declared.wants.Wants.{Wants}
use Rattle.mj_types.specs.Control.{Control}
use Rattle.mj_types.specs.StepValues.{StepValues}
use Rattle.mj_step.specs.Steps.{step_state, step_values, step_fault}
use Rattle.mj_trace.specs.Trace.{header_text, end_text}
use Rattle.mj_run.specs.Course as courses
use Rattle.mj_run.specs.Course.{Course, done_by, end_by, done_blocks}
use Rattle.mj_run.specs.Told.{told_fault, told_text}

-- where a run starts
abbrev pub start : Model → State
start m = record { q = m.qpos0; v = m.qvel0 }

-- a model, and the controls of the step after k others
module _ (m : Model) (controls : ℕ → List Control) where
  -- the state after k steps
  unfoldable pub state_at : ℕ → State
  state_at zero = start m
  state_at (suc k) = step_state m (state_at k) (controls k)

  -- what the step after k others tells
  abbrev pub told_at : ℕ → StepValues
  told_at k = step_values m (state_at k) (controls k)

  -- its first number out of range
  abbrev pub refusal_at : ℕ → Option OutOfRange
  refusal_at k = step_fault m (state_at k) (controls k)

  -- how many of n steps are done before one is refused
  abbrev pub done_of : ℕ → ℕ
  done_of = done_by refusal_at

  -- the end of n steps: the first refusal, or done
  abbrev pub end_of : ℕ → End
  end_of = end_by refusal_at

-- ---- the trace: the header, a block for each step that is done with what is asked for beside, and the end
abbrev pub course : Wants → Model → (ℕ → List Control) → Course
course wants m controls = record {
  refusal = λ k. told_fault wants m (state_at m controls k) (controls k);
  block = λ k. told_text wants m k (state_at m controls k) (controls k);
}

abbrev pub trace_text : Wants → Model → (ℕ → List Control) → ℕ → List ℕ
trace_text wants m controls n =
    (header_text m.format m.nq m.nv n ++ done_blocks (course wants m controls) n) ++ end_text (courses.end_of (course wants m controls) n)
