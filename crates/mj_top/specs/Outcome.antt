-- What a command answers and writes, for its words and for the bytes held under each name.
use Rattle.std.specs.Prelude.{◌≡◌, ◌⊎◌, ℕ, ◌+◌, ◌-◌, ◌<◌, List, length, take, Option, Some, None, option_map, option_and_then, Result, Ok, Err}
use Rattle.fx_whole.specs.Sums.{sum_ℕ_to}
use Rattle.mj_types.specs.declared.model.Model.{Model}
use Rattle.mj_types.specs.declared.range.End.{End}
use Rattle.mj_types.specs.declared.range.End.TheVariants as finish
use Rattle.mj_types.specs.declared.status.ModelFault.{ModelFault}
use Rattle.mj_types.specs.declared.status.Status.{Status}
use Rattle.mj_types.specs.declared.status.Status.TheVariants as status
use Rattle.mj_types.specs.declared.tape.TapeFault.{TapeFault}
use Rattle.mj_types.specs.declared.wants.Wants.{Wants}
use Rattle.mj_gen.specs.Chain.{chain_text}
use Rattle.mj_gen.specs.Tape.{tape_text}
use Rattle.mj_tape.specs.Judging.{TapeValues, tape_verdict}
use Rattle.mj_trace.specs.Refusal.{words_refusal, model_refusal, tape_refusal}
use Rattle.mj_trace.specs.Verdicts.{accepted_text, rejected_text}
use Rattle.mj_types.specs.declared.verdict.Verdict.{Verdict}
use Rattle.mj_types.specs.declared.verdict.Verdict.TheVariants as verdict
use Rattle.mj_check.specs.Verdict.{IsVerdict}
use Rattle.mj_valid.specs.Judging.{told, judged_bytes}
use Rattle.mj_run.specs.Controls.{controls_at}
use Rattle.mj_words.specs.declared.table.Command.{Command}
use Rattle.mj_words.specs.declared.table.Command.TheVariants as command
use Rattle.mj_words.specs.Words.{bad_place, command_of, model_of, step_count, wants_dual, wants_ball, wants_inverse, tape_of, tape_count, nth_tape, seed_of, link_count, dump_of}
use Rattle.mj_run.specs.Batch.{tape_at, batch_text, batch_end}
use Rattle.mj_run.specs.Course as courses
use Rattle.mj_run.specs.Run.{end_of, course, trace_text}
use Rattle.mj_run.specs.Summing.{run_summary_text}

-- an answer and a text
pub record Outcome : Type 0 where
  pub status : Status
  pub text : List ℕ

-- the words are refused
abbrev pub words_refused : ℕ → Outcome
words_refused at = record { status = status.BadWords at; text = words_refusal at }

-- the model is refused
abbrev pub model_refused : ModelFault → Outcome
model_refused fault = record { status = status.BadModel fault; text = model_refusal fault }

-- a tape is refused, by its number
abbrev pub tape_refused : ℕ → TapeFault → Outcome
tape_refused number fault = record {
  status = status.BadTape number fault;
  text = tape_refusal number fault;
}

-- a text that ends well
abbrev pub written : List ℕ → Outcome
written text = record { status = status.Done; text = text }

-- a model of so many links is generated from a seed
abbrev pub generated : ℕ → ℕ → Outcome
generated seed links = written (chain_text seed links)

-- the answer to a run's end
abbrev pub status_of : End → Status
status_of finish.Done = status.Done
status_of (finish.OutOfRange step kind index) = status.OutOfRange step kind index

-- what the words ask for beside the blocks of a run
abbrev pub wants_of : List (List ℕ) → Wants
wants_of words = record { dual = wants_dual words; ball = wants_ball words; inverse = wants_inverse words }

-- the model runs for n steps with this tape, or without one, and what is asked for is told of each
abbrev pub ran : Wants → ℕ → Model → Option TapeValues → Outcome
ran wants n m tape = record {
  status = status_of (courses.end_of (course wants m (controls_at (length m.motors) tape)) n);
  text = trace_text wants m (controls_at (length m.motors) tape) n;
}

-- the tape is refused, or the model runs with it
abbrev pub with_tape : Wants → ℕ → Model → Result TapeValues TapeFault → Outcome
with_tape wants n m (Ok tape) = ran wants n m (Some tape)
with_tape wants n m (Err fault) = tape_refused 1 fault

-- how many values the tapes of a command may hold together
abbrev pub tape_room : ℕ
tape_room = 4000000

-- a file enters with one byte more than its limit
abbrev pub model_cap : ℕ
model_cap = 1048577

abbrev pub tape_cap : ℕ
tape_cap = 67108865

abbrev pub dump_cap : ℕ
dump_cap = 67108865

-- what is read of a tape's file
abbrev pub with_tape_file : Wants → ℕ → Model → List ℕ → Outcome
with_tape_file wants n m held = with_tape wants n m (tape_verdict (length m.motors) n tape_room (take tape_cap held))

-- the steps of a run with this tape are summed
abbrev pub summed : ℕ → Model → Option TapeValues → Outcome
summed n m tape = record {
  status = status_of (end_of m (controls_at (length m.motors) tape) n);
  text = run_summary_text m (controls_at (length m.motors) tape) n;
}

-- the tape is refused, or the run with it is summed
abbrev pub with_summed_tape : ℕ → Model → Result TapeValues TapeFault → Outcome
with_summed_tape n m (Ok tape) = summed n m (Some tape)
with_summed_tape n m (Err fault) = tape_refused 1 fault

-- an accepted model of so many links runs n steps with the generated tape
abbrev pub benched : ℕ → ℕ → ℕ → Model → Outcome
benched seed links n m =
    with_summed_tape n m (tape_verdict (length m.motors) n tape_room (tape_text seed n links))

-- the generated model is refused, or accepted
abbrev pub bench_of : ℕ → ℕ → ℕ → Result Model ModelFault → Outcome
bench_of seed links n (Ok m) = benched seed links n m
bench_of seed links n (Err fault) = model_refused fault

-- `bench`: of the generated model, which is judged as a file is
abbrev pub IsBenchOutcome : ℕ → ℕ → ℕ → Outcome → Type 0
IsBenchOutcome seed links n outcome =
    (judged : Result Model ModelFault) × (told judged ≡ judged_bytes (chain_text seed links)) × (outcome ≡ bench_of seed links n judged)

-- how many values the tapes before tape t hold, which count from 0
abbrev pub kept_before : List TapeValues → ℕ → ℕ
kept_before tapes t = sum_ℕ_to t (λ s. length (tape_at tapes s).values)

-- the model runs n steps with each of these tapes; the status is that of the first run that ended early
abbrev pub batched : ℕ → Model → List TapeValues → Outcome
batched n m tapes = record {
  status = status_of (batch_end m n tapes);
  text = batch_text m n tapes;
}

-- a dump is judged so
abbrev pub judged_as : Verdict → Outcome
judged_as (verdict.Accepted blocks) = written (accepted_text blocks)
judged_as (verdict.Rejected line reason) = record {
  status = status.Rejected line reason;
  text = rejected_text line reason;
}

-- of the bytes of a dump
abbrev pub IsDumpOutcome : List ℕ → Outcome → Type 0
IsDumpOutcome bytes outcome = (found : Verdict) × IsVerdict bytes found × (outcome ≡ judged_as found)

-- ---- a batch, by its words and the files that are held
module _ (held : List ℕ → Option (List ℕ)) (words : List (List ℕ)) (m : Model) where
  -- the file of tape t is judged so, in the room that the tapes before it leave
  abbrev pub IsTapeJudged : List TapeValues → ℕ → Result TapeValues TapeFault → Type 0
  IsTapeJudged tapes t answer =
      (file : List ℕ) × (option_and_then held (nth_tape words t) ≡ Some file)
      × (tape_verdict (length m.motors) (step_count words) (tape_room - kept_before tapes t) (take tape_cap file) ≡ answer)

  -- these are the first tapes, each of them accepted
  abbrev pub AreFirstTapes : List TapeValues → Type 0
  AreFirstTapes tapes = (t : ℕ) → t < length tapes → IsTapeJudged tapes t (Ok (tape_at tapes t))

  -- all are accepted, and the model runs with each
  abbrev pub RunsAll : List TapeValues → Outcome → Type 0
  RunsAll tapes outcome =
      (length tapes ≡ tape_count words) × (outcome ≡ batched (step_count words) m tapes)

  -- the one after these is refused
  abbrev pub RefusesNext : List TapeValues → Outcome → Type 0
  RefusesNext tapes outcome =
      (fault : TapeFault) × IsTapeJudged tapes (length tapes) (Err fault) × (outcome ≡ tape_refused (length tapes + 1) fault)

  -- of the tapes, in their order
  abbrev pub IsTapesOutcome : Outcome → Type 0
  IsTapesOutcome outcome =
      (tapes : List TapeValues) × AreFirstTapes tapes × (RunsAll tapes outcome ⊎ RefusesNext tapes outcome)

module _ (held : List ℕ → Option (List ℕ)) (words : List (List ℕ)) where
  -- the model is refused, or accepted, and then the tapes are judged
  abbrev pub IsTapesOutcomeOf : Result Model ModelFault → Outcome → Type 0
  IsTapesOutcomeOf (Ok m) outcome = IsTapesOutcome held words m outcome
  IsTapesOutcomeOf (Err fault) outcome = outcome ≡ model_refused fault

  -- of what the bytes of the model's file are judged to be
  abbrev pub IsBatchFileOutcome : List ℕ → Outcome → Type 0
  IsBatchFileOutcome bytes outcome =
      (judged : Result Model ModelFault) × (told judged ≡ judged_bytes bytes) × IsTapesOutcomeOf judged outcome

  -- `batch`: of the model's file
  abbrev pub IsBatchOutcome : Outcome → Type 0
  IsBatchOutcome outcome =
      (file : List ℕ) × (held (model_of words) ≡ Some file) × IsBatchFileOutcome (take model_cap file) outcome

module _ (held : List ℕ → Option (List ℕ)) where
  -- no tape is named, or its file is read; none where nothing is held under that name
  abbrev pub with_tape_name : Wants → ℕ → Model → Option (List ℕ) → Option Outcome
  with_tape_name wants n m None = Some (ran wants n m None)
  with_tape_name wants n m (Some name) = option_map (with_tape_file wants n m) (held name)

  -- the model is refused, or accepted, and then it runs
  abbrev pub with_model : Wants → ℕ → Option (List ℕ) → Result Model ModelFault → Option Outcome
  with_model wants n tape (Ok m) = with_tape_name wants n m tape
  with_model wants n tape (Err fault) = Some (model_refused fault)

  -- the outcome of a model's file: of what its bytes are judged to be
  abbrev pub IsFileOutcome : Wants → ℕ → Option (List ℕ) → List ℕ → Outcome → Type 0
  IsFileOutcome wants n tape bytes outcome =
      (judged : Result Model ModelFault) × (told judged ≡ judged_bytes bytes) × (with_model wants n tape judged ≡ Some outcome)

  -- `run` and `inverse`: of the model's file
  abbrev pub IsRunOutcome : List (List ℕ) → Outcome → Type 0
  IsRunOutcome words outcome =
      (file : List ℕ) × (held (model_of words) ≡ Some file)
      × IsFileOutcome (wants_of words) (step_count words) (tape_of words) (take model_cap file) outcome

  -- `check`: of the dump's file
  abbrev pub IsCheckOutcome : List (List ℕ) → Outcome → Type 0
  IsCheckOutcome words outcome =
      (file : List ℕ) × (held (dump_of words) ≡ Some file) × IsDumpOutcome (take dump_cap file) outcome

  -- of each command
  abbrev pub IsCommandOutcome : Command → List (List ℕ) → Outcome → Type 0
  IsCommandOutcome command.Run words outcome = IsRunOutcome words outcome
  IsCommandOutcome command.Gen words outcome = outcome ≡ generated (seed_of words) (link_count words)
  IsCommandOutcome command.Bench words outcome =
      IsBenchOutcome (seed_of words) (link_count words) (step_count words) outcome
  IsCommandOutcome command.Batch words outcome = IsBatchOutcome held words outcome
  IsCommandOutcome command.Inverse words outcome = IsRunOutcome words outcome
  IsCommandOutcome command.Check words outcome = IsCheckOutcome words outcome

  -- the words are refused, or do what their command does
  abbrev pub IsWordsOutcome : List (List ℕ) → Option ℕ → Outcome → Type 0
  IsWordsOutcome words (Some at) outcome = outcome ≡ words_refused at
  IsWordsOutcome words None outcome = IsCommandOutcome (command_of words) words outcome

-- the outcome of a command's words and files
abbrev pub IsOutcome : List (List ℕ) → (List ℕ → Option (List ℕ)) → Outcome → Type 0
IsOutcome words held outcome = IsWordsOutcome held words (bad_place words) outcome
