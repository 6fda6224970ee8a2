-- A batch's tapes as they are taken: of each its file is read and judged, and its job made. This
-- project's own.
use Rattle.std.specs.Prelude.{◌≡◌, ◌⊎◌, ℕ, ◌+◌, ◌-◌, ◌≤◌, Bool, IsTrue, List, [], ◌∷◌, ◌++◌, length, Option, Result, Ok, Err}
use Rattle.mj_tape.specs.Judging.{TapeValues, tape_verdict}
use Rattle.mj_types.specs.declared.model.Model.{Model}
use Rattle.mj_types.specs.declared.status.Status.{Status}
use Rattle.mj_types.specs.declared.status.Status.TheVariants as status
use Rattle.mj_types.specs.declared.tape.TapeFault.{TapeFault}
use Rattle.mj_types.specs.declared.tape.TapeFault.TheVariants.{Memory}
use Rattle.mj_run.specs.declared.job.RunJob.{RunJob}
use Rattle.mj_run.specs.Batch.{AreJobsOf}
use Rattle.mj_words.specs.Words.{step_count, tape_count}
use Rattle.mj_top.specs.declared.batch.Stopped.{Stopped}
use Rattle.mj_top.specs.declared.batch.Stopped.TheVariants as stopped
use Rattle.mj_top.specs.Outcome.{kept_before, tape_room, tape_refused, AreFirstTapes, IsTapesOutcome}
use Rattle.mj_top.specs.Ends.{NthTapeRose, AcceptsTapes, Ends}

-- a cabinet before some reads and after them: it holds the same, and its counts didn't fall
pub record ReadsOn
    (tells tells' : Bool) (held held' : List ℕ → Option (List ℕ)) (reads reads' : List ℕ → ℕ) : Type 0
  where
    pub still : tells' ≡ tells
    pub same : (name : List ℕ) → held' name ≡ held name
    pub later : (name : List ℕ) → reads name ≤ reads' name

-- the bytes of a tape are accepted and its job is added, with the room that is left; or they are
-- refused, or memory was wanted
abbrev pub TakesBytes :
    Model → ℕ → ℕ → List ℕ → List RunJob → List RunJob → Result ℕ TapeFault → Type 0
TakesBytes m n room bytes jobs jobs' (Ok left) =
    (tape : TapeValues) × (tape_verdict (length m.motors) n room bytes ≡ Ok tape)
    × (left ≡ room - length tape.values)
    × ((tapes : List TapeValues) → AreJobsOf m n tapes jobs → AreJobsOf m n (tapes ++ tape ∷ []) jobs')
TakesBytes m n room bytes jobs jobs' (Err fault) =
    (fault ≡ Memory) ⊎ (tape_verdict (length m.motors) n room bytes ≡ Err fault)

-- the same of the tape after k others
abbrev pub TakesFile :
    Model → ℕ → ℕ → ℕ → List ℕ → List RunJob → List RunJob → Result ℕ Stopped → Type 0
TakesFile m n room k bytes jobs jobs' (Ok left) = TakesBytes m n room bytes jobs jobs' (Ok left)
TakesFile m n room k bytes jobs jobs' (Err stopped.ReadFault) = ⊥
TakesFile m n room k bytes jobs jobs' (Err stopped.Memory) = Unit {0}
TakesFile m n room k bytes jobs jobs' (Err (stopped.Refused tape fault)) =
    (tape ≡ k + 1) × (tape_verdict (length m.motors) n room bytes ≡ Err fault)

module _ (words : List (List ℕ)) (tells : Bool) (held : List ℕ → Option (List ℕ)) (m : Model) where
  -- the first k tapes are accepted where the cabinet tells, with a job for each and the room that is left
  pub record HasTaken (k room : ℕ) (jobs : List RunJob) : Type 0 where
    pub tapes : List TapeValues
    pub count : length tapes ≡ k
    pub left : room ≡ tape_room - kept_before tapes k
    pub due : AreJobsOf m (step_count words) tapes jobs
    pub accepted : IsTrue tells → AreFirstTapes held words m tapes

  -- why no tape more is taken: a read failed, memory was wanted, or the outcome is a refusal
  abbrev pub StopsFor : (List ℕ → ℕ) → (List ℕ → ℕ) → Stopped → Type 0
  StopsFor reads reads' stopped.ReadFault = NthTapeRose words tells (AcceptsTapes words held m) reads reads'
  StopsFor reads reads' stopped.Memory = Unit {0}
  StopsFor reads reads' (stopped.Refused tape fault) =
      IsTrue tells → IsTapesOutcome held words m (tape_refused tape fault)

  -- one tape more is taken after k others, or none for a reason
  abbrev pub TakesNext :
      ℕ → List RunJob → (List ℕ → ℕ) → (List ℕ → ℕ) → Result ℕ Stopped → Type 0
  TakesNext k jobs reads reads' (Ok left) = HasTaken (k + 1) left jobs
  TakesNext k jobs reads reads' (Err why) = StopsFor reads reads' why

  -- all tapes are taken, or not for a reason
  abbrev pub TakesAll :
      {T : Type 0} → List RunJob → (List ℕ → ℕ) → (List ℕ → ℕ) → Result T Stopped → Type 0
  TakesAll jobs reads reads' (Ok done) = (room : ℕ) × HasTaken (tape_count words) room jobs
  TakesAll jobs reads reads' (Err why) = StopsFor reads reads' why

-- the answer where no tape more is taken: a refusal is written, and else nothing
abbrev pub EndsStopped :
    {K : Type 0} → (K → Option (List ℕ)) → (K → ℕ) → Stopped → K → Status → K → Type 0
EndsStopped holds faults stopped.ReadFault old answer new = (answer ≡ status.ReadFault) × (new ≡ old)
EndsStopped holds faults stopped.Memory old answer new = (answer ≡ status.Memory) × (new ≡ old)
EndsStopped holds faults (stopped.Refused tape fault) old answer new =
    Ends holds faults (tape_refused tape fault) old answer new
