-- What a command that ended has done: what it wrote, and what each number of it is worth.
use Rattle.std.specs.Prelude.{◌≡◌, ◌⊎◌, ℕ, ◌<◌, Bool, true, false, ◌&&◌, IsTrue, is_none, List, length, take, Option, Some, None, Ok}
use Rattle.mj_io.specs.Faults.{Rose}
use Rattle.mj_io.specs.Growth.{Grew}
use Rattle.mj_types.specs.Control.{Control}
use Rattle.mj_types.specs.declared.model.Model.{Model}
use Rattle.mj_types.specs.declared.status.Status.{Status}
use Rattle.mj_types.specs.declared.status.Status.TheVariants as status
use Rattle.mj_types.specs.declared.verdict.Verdict.{Verdict}
use Rattle.mj_types.specs.declared.wants.Wants.{Wants}
use Rattle.mj_tape.specs.Judging.{TapeValues, tape_verdict}
use Rattle.mj_gen.specs.Chain.{chain_text}
use Rattle.mj_gen.specs.Tape.{tape_text}
use Rattle.mj_valid.specs.Judging.{accepted_of, judged_bytes}
use Rattle.mj_step.specs.Certified.{IsCertified}
use Rattle.mj_step.specs.Covered.{IsCovered}
use Rattle.mj_step.specs.Enclosed.{IsInBall}
use Rattle.mj_run.specs.Batch.{tape_at, batch_text, batch_end, driven_by}
use Rattle.mj_run.specs.Controls.{controls_at}
use Rattle.mj_run.specs.Course as courses
use Rattle.mj_run.specs.Run.{state_at, refusal_at, done_of, end_of, course, trace_text}
use Rattle.mj_run.specs.Summing.{run_summary_text}
use Rattle.mj_run.specs.Told.{AreBest}
use Rattle.mj_words.specs.declared.table.Command.{Command}
use Rattle.mj_words.specs.declared.table.Command.TheVariants as command
use Rattle.mj_words.specs.Words.{bad_place, command_of, model_of, step_count, tape_of, tape_count, seed_of, link_count, dump_of}
use Rattle.mj_check.specs.Verdict.{IsVerdict, VerdictHolds}
use Rattle.mj_top.specs.Outcome.{status_of, wants_of, judged_as, model_cap, tape_cap, dump_cap, tape_room, AreFirstTapes, IsOutcome}
use Rattle.mj_top.specs.Ends.{Answers, LeavesSink, HasCause, Completes, ReadRose}

-- step k + 1 isn't refused; the forces that are printed of it are feasible, and the bound and the box
-- hold; the radii and the residual cover what rounding did; a ball, where there is one, holds each rational
-- solution of its equation of motion; and each force by itself is within one unit of its row's optimum
pub record IsSound (m : Model) (controls : ℕ → List Control) (k : ℕ) : Type 0 where
  pub going : refusal_at m controls k ≡ None
  pub certified : IsCertified m (state_at m controls k) (controls k)
  pub covered : IsCovered m (state_at m controls k) (controls k)
  pub enclosed : IsInBall m (state_at m controls k) (controls k)
  pub best : AreBest m (state_at m controls k) (controls k)

-- the bytes are judged to be this model
abbrev pub AreModelOf : List ℕ → Model → Type 0
AreModelOf bytes m = judged_bytes bytes ≡ Ok (accepted_of m)

-- the answer of a text that was written whole, and is no refusal of the input
abbrev pub IsEnd : Status → Type 0
IsEnd status.Done = Unit {0}
IsEnd (status.OutOfRange step kind index) = Unit {0}
IsEnd (status.Rejected line reason) = Unit {0}
IsEnd answer = ⊥

module _ (held : List ℕ → Option (List ℕ)) where
  -- the file of this name is judged to be the model
  abbrev pub IsModelUnder : List ℕ → Model → Type 0
  IsModelUnder name m = (file : List ℕ) × (held name ≡ Some file) × AreModelOf (take model_cap file) m

  -- no tape is named and there is none, or the file of that name is judged to be this one
  abbrev pub IsTapeUnder : Option (List ℕ) → Model → ℕ → Option TapeValues → Type 0
  IsTapeUnder None m n tape = tape ≡ None
  IsTapeUnder (Some name) m n tape =
      (file : List ℕ) × (values : TapeValues) × (held name ≡ Some file)
      × (tape_verdict (length m.motors) n tape_room (take tape_cap file) ≡ Ok values) × (tape ≡ Some values)

-- what the words' files are judged to be
module _ (words : List (List ℕ)) (held : List ℕ → Option (List ℕ)) where
  -- of a run: a model, and a tape or none
  abbrev pub AreGiven : Model → Option TapeValues → Type 0
  AreGiven m tape = IsModelUnder held (model_of words) m × IsTapeUnder held (tape_of words) m (step_count words) tape

  -- of a batch: a model, and its tapes
  abbrev pub AreAllGiven : Model → List TapeValues → Type 0
  AreAllGiven m tapes =
      IsModelUnder held (model_of words) m × (length tapes ≡ tape_count words) × AreFirstTapes held words m tapes

-- and of a bench what is generated is judged to be this model and this tape
abbrev pub AreGenerated : List (List ℕ) → Model → TapeValues → Type 0
AreGenerated words m tape =
    AreModelOf (chain_text (seed_of words) (link_count words)) m
    × (tape_verdict (length m.motors) (step_count words) tape_room (tape_text (seed_of words) (step_count words) (link_count words)) ≡ Ok tape)

-- n steps of the model under these controls: the trace was written, the answer is its end, and each step
-- that has a block is sound
pub record IsTraced
    (wants : Wants) (m : Model) (controls : ℕ → List Control) (n : ℕ) (answer : Status)
    (old new : Option (List ℕ)) : Type 0
  where
    pub gained : Grew old (trace_text wants m controls n) new
    pub end : answer ≡ status_of (courses.end_of (course wants m controls) n)
    pub sound : (k : ℕ) → k < courses.done_of (course wants m controls) n → IsSound m controls k

-- the same of a run whose summary was written
pub record IsSummed
    (m : Model) (controls : ℕ → List Control) (n : ℕ) (answer : Status) (old new : Option (List ℕ)) : Type 0
  where
    pub gained : Grew old (run_summary_text m controls n) new
    pub end : answer ≡ status_of (end_of m controls n)
    pub sound : (k : ℕ) → k < done_of m controls n → IsSound m controls k

-- and of a batch, of each tape's run
pub record AreSummed
    (m : Model) (tapes : List TapeValues) (n : ℕ) (answer : Status) (old new : Option (List ℕ)) : Type 0
  where
    pub gained : Grew old (batch_text m n tapes) new
    pub end : answer ≡ status_of (batch_end m n tapes)
    pub sound :
        (t k : ℕ) → t < length tapes → k < done_of m (driven_by m (tape_at tapes t)) n → IsSound m (driven_by m (tape_at tapes t)) k

-- a run of the model that the words' file is judged to be, with its tape or none
abbrev pub IsRunTraced :
    List (List ℕ) → (List ℕ → Option (List ℕ)) → Status → Option (List ℕ) → Option (List ℕ) → Type 0
IsRunTraced words held answer old new =
    (m : Model) × (tape : Option TapeValues) × AreGiven words held m tape
    × IsTraced (wants_of words) m (controls_at (length m.motors) tape) (step_count words) answer old new

-- these bytes are judged so, the answer and the line say it; and where they are accepted, in each block the
-- forces are feasible, and the bound and the box hold
pub record IsChecked (bytes : List ℕ) (found : Verdict) (answer : Status) (old new : Option (List ℕ)) : Type 0 where
  pub judged : IsVerdict bytes found
  pub gained : Grew old (judged_as found).text new
  pub end : answer ≡ (judged_as found).status
  pub holds : VerdictHolds bytes found

-- the dump that the words' file is
abbrev pub IsDumpChecked :
    List (List ℕ) → (List ℕ → Option (List ℕ)) → Status → Option (List ℕ) → Option (List ℕ) → Type 0
IsDumpChecked words held answer old new =
    (file : List ℕ) × (found : Verdict) × (held (dump_of words) ≡ Some file)
    × IsChecked (take dump_cap file) found answer old new

-- what a command that ended has done
abbrev pub Achieves :
    Command → List (List ℕ) → (List ℕ → Option (List ℕ)) → Status → Option (List ℕ) → Option (List ℕ) → Type 0
Achieves command.Run words held answer old new = IsRunTraced words held answer old new
Achieves command.Gen words held answer old new = Grew old (chain_text (seed_of words) (link_count words)) new
Achieves command.Bench words held answer old new =
    (m : Model) × (tape : TapeValues) × AreGenerated words m tape
    × IsSummed m (driven_by m tape) (step_count words) answer old new
Achieves command.Batch words held answer old new =
    (m : Model) × (tapes : List TapeValues) × AreAllGiven words held m tapes
    × AreSummed m tapes (step_count words) answer old new
Achieves command.Inverse words held answer old new = IsRunTraced words held answer old new
Achieves command.Check words held answer old new = IsDumpChecked words held answer old new

-- the headline: accepted words, where the answer is an end, have done what their command says
abbrev pub IsHeadline :
    List (List ℕ) → (List ℕ → Option (List ℕ)) → Status → Option (List ℕ) → Option (List ℕ) → Type 0
IsHeadline words held answer old new =
    bad_place words ≡ None → IsEnd answer → Achieves (command_of words) words held answer old new

-- ---- where it ends
-- all input is accepted
abbrev pub IsAccepted : Command → List (List ℕ) → (List ℕ → Option (List ℕ)) → Type 0
IsAccepted command.Run words held = (m : Model) × (tape : Option TapeValues) × AreGiven words held m tape
IsAccepted command.Gen words held = Unit {0}
IsAccepted command.Bench words held = (m : Model) × (tape : TapeValues) × AreGenerated words m tape
IsAccepted command.Batch words held = (m : Model) × (tapes : List TapeValues) × AreAllGiven words held m tapes
IsAccepted command.Inverse words held = (m : Model) × (tape : Option TapeValues) × AreGiven words held m tape
IsAccepted command.Check words held = (file : List ℕ) × (held (dump_of words) ≡ Some file)

-- accepted input ends where no count rose, unless memory was wanted
abbrev pub EndsWell :
    List (List ℕ) → Bool → (List ℕ → Option (List ℕ)) → Status → (List ℕ → ℕ) → (List ℕ → ℕ) → ℕ → ℕ → Type 0
EndsWell words tells held answer reads reads' writes writes' =
    bad_place words ≡ None → IsAccepted (command_of words) words held
    → ¬ ReadRose words tells held reads reads' → ¬ Rose writes writes' → (answer ≡ status.Memory) ⊎ IsEnd answer

-- ---- the promise
-- the command reads files
abbrev pub reads_files : Command → Bool
reads_files command.Run = true
reads_files command.Gen = false
reads_files command.Bench = false
reads_files command.Batch = true
reads_files command.Inverse = true
reads_files command.Check = true

-- the words do: refused ones read none
abbrev pub read_files : List (List ℕ) → Bool
read_files words = is_none (bad_place words) && reads_files (command_of words)

-- what a call keeps: the cabinet and the sink are seen before it and after it, and the cabinet tells,
-- where files are read
pub record Promise {F K : Type 0}
    (tells : F → Bool) (held : F → List ℕ → Option (List ℕ)) (reads : F → List ℕ → ℕ)
    (holds : K → Option (List ℕ)) (writes : K → ℕ) (words : List (List ℕ))
    (cabinet cabinet' : F) (sink sink' : K) (answer : Status) : Type 0
  where
    -- what was written, and what each number of it is worth
    pub headline :
        (IsTrue (read_files words) → IsTrue (tells cabinet))
        → IsHeadline words (held cabinet) answer (holds sink) (holds sink')
    -- accepted input is run to its end, where no count rose and memory was found
    pub ends :
        (IsTrue (read_files words) → IsTrue (tells cabinet))
        → EndsWell words (tells cabinet) (held cabinet) answer (reads cabinet) (reads cabinet') (writes sink) (writes sink')
    -- the answer and the text are those of the outcome, but for three faults
    pub outcome :
        (IsTrue (read_files words) → IsTrue (tells cabinet))
        → Answers (IsOutcome words (held cabinet)) answer (holds sink) (holds sink')
    -- where no count rose, the answer is the outcome's, or memory was wanted
    pub complete :
        (IsTrue (read_files words) → IsTrue (tells cabinet))
        → Completes words (tells cabinet) (held cabinet) answer (reads cabinet) (reads cabinet') (writes sink) (writes sink')
    -- when each answer may come
    pub cause :
        HasCause words (tells cabinet) (held cabinet) answer (reads cabinet) (reads cabinet') (writes sink) (writes sink')
    -- after a fault in reading and after want of memory the sink was not touched, and a count of its
    -- faults rose after a fault in writing alone
    pub nothing : LeavesSink writes answer sink sink'
    -- where no file is read, nor was the cabinet
    pub unread : read_files words ≡ false → cabinet' ≡ cabinet
    -- whatever the cabinet tells: in every step of every run the forces are feasible, and the bound and the
    -- box hold; the radii and the residual cover what rounding did; a ball holds each rational solution; and
    -- each force by itself is its row's best
    pub certified :
        (m : Model) (controls : ℕ → List Control) (k : ℕ) → IsCertified m (state_at m controls k) (controls k)
    pub covered :
        (m : Model) (controls : ℕ → List Control) (k : ℕ) → IsCovered m (state_at m controls k) (controls k)
    pub enclosed :
        (m : Model) (controls : ℕ → List Control) (k : ℕ) → IsInBall m (state_at m controls k) (controls k)
    pub best :
        (m : Model) (controls : ℕ → List Control) (k : ℕ) → AreBest m (state_at m controls k) (controls k)
