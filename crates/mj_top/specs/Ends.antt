-- How a command ends, against its outcome, and the cause of each answer.
use Rattle.std.specs.Prelude.{◌≡◌, ◌⊎◌, ℕ, List, length, Option, Some, None, Result, Ok, Err, Bool, IsTrue, take}
use Rattle.mj_io.specs.Faults.{Rose}
use Rattle.mj_io.specs.Growth.{Grew, GrewPart}
use Rattle.mj_types.specs.declared.model.Model.{Model}
use Rattle.mj_types.specs.declared.status.Status.{Status}
use Rattle.mj_types.specs.declared.status.Status.TheVariants as status
use Rattle.mj_tape.specs.Judging.{TapeValues}
use Rattle.mj_valid.specs.Judging.{accepted_of, judged_bytes}
use Rattle.mj_words.specs.declared.table.Command.{Command}
use Rattle.mj_words.specs.declared.table.Command.TheVariants as command
use Rattle.mj_words.specs.Words.{bad_place, command_of, model_of, tape_of, nth_tape, dump_of}
use Rattle.mj_top.specs.Outcome.{Outcome, IsOutcome, AreFirstTapes, model_cap}

-- the status is the outcome's, and its whole text was written
pub record EndsWhole (outcome : Outcome) (old : Option (List ℕ)) (answer : Status) (new : Option (List ℕ)) : Type 0 where
  pub same : answer ≡ outcome.status
  pub grew : Grew old outcome.text new

-- against an outcome that is known: the whole of it, or a prefix of its text after a fault of the
-- sink; another fault leaves the sink as it was
abbrev pub EndsAs : Outcome → Status → Option (List ℕ) → Option (List ℕ) → Type 0
EndsAs outcome status.ReadFault old new = new ≡ old
EndsAs outcome status.Memory old new = new ≡ old
EndsAs outcome status.WriteFault old new = GrewPart old outcome.text new
EndsAs outcome answer old new = EndsWhole outcome old answer new

-- against the outcomes that are meant: after a fault in reading and after want of memory the sink is
-- as it was, and any other answer is that of one of them
abbrev pub Answers : (Outcome → Type 0) → Status → Option (List ℕ) → Option (List ℕ) → Type 0
Answers Meant status.ReadFault old new = new ≡ old
Answers Meant status.Memory old new = new ≡ old
Answers Meant answer old new = (outcome : Outcome) × Meant outcome × EndsAs outcome answer old new

-- what an answer leaves of the sink: after a fault in reading and after want of memory it is as it was, and
-- nothing was written; after any other answer but a fault in writing no fault was counted
abbrev pub LeavesSink : {K : Type 0} → (K → ℕ) → Status → K → K → Type 0
LeavesSink faults status.ReadFault old new = new ≡ old
LeavesSink faults status.Memory old new = new ≡ old
LeavesSink faults status.WriteFault old new = Unit {0}
LeavesSink faults answer old new = faults new ≡ faults old

-- bytes are judged to be a model
abbrev pub AreModel : List ℕ → Type 0
AreModel bytes = (model : Model) × (judged_bytes bytes ≡ Ok (accepted_of model))

-- the model's file is held, and its model accepted
abbrev pub AcceptsModel : List (List ℕ) → (List ℕ → Option (List ℕ)) → Type 0
AcceptsModel words held =
    (file : List ℕ) × (held (model_of words) ≡ Some file) × AreModel (take model_cap file)

-- a tape's name was given, and the cabinet's count under it rose
abbrev pub TapeRose : Option (List ℕ) → (List ℕ → ℕ) → (List ℕ → ℕ) → Type 0
TapeRose tape reads reads' = (name : List ℕ) × (tape ≡ Some name) × Rose (reads name) (reads' name)

-- a read failed in a run: the cabinet's count rose under the model's name; or under the tape's, and
-- there, where the cabinet tells, the model is accepted
abbrev pub RunReadRose :
    List (List ℕ) → Bool → (List ℕ → Option (List ℕ)) → (List ℕ → ℕ) → (List ℕ → ℕ) → Type 0
RunReadRose words tells held reads reads' =
    Rose (reads (model_of words)) (reads' (model_of words)) ⊎ (TapeRose (tape_of words) reads reads' × (IsTrue tells → AcceptsModel words held))

-- of a batch, the first t tapes are held and accepted for this model
abbrev pub AcceptsTapes : List (List ℕ) → (List ℕ → Option (List ℕ)) → Model → ℕ → Type 0
AcceptsTapes words held m t =
    (tapes : List TapeValues) × (length tapes ≡ t) × AreFirstTapes held words m tapes

-- and that model is what these bytes are judged to be
abbrev pub AcceptsTapesOf : List (List ℕ) → (List ℕ → Option (List ℕ)) → List ℕ → ℕ → Type 0
AcceptsTapesOf words held bytes t =
    (model : Model) × (judged_bytes bytes ≡ Ok (accepted_of model)) × AcceptsTapes words held model t

-- and these are the bytes of the model's file
abbrev pub AcceptsBatch : List (List ℕ) → (List ℕ → Option (List ℕ)) → ℕ → Type 0
AcceptsBatch words held t =
    (file : List ℕ) × (held (model_of words) ≡ Some file) × AcceptsTapesOf words held (take model_cap file) t

-- the cabinet's count rose under the name of one of a batch's tapes; where the cabinet tells, what is
-- meant of the tapes before it holds
abbrev pub NthTapeRose :
    List (List ℕ) → Bool → (ℕ → Type 0) → (List ℕ → ℕ) → (List ℕ → ℕ) → Type 0
NthTapeRose words tells Before reads reads' =
    (t : ℕ) × TapeRose (nth_tape words t) reads reads' × (IsTrue tells → Before t)

-- a read failed in a batch: of the model's file; or of a tape's, and there, where the cabinet tells,
-- the model and the tapes before it are accepted
abbrev pub BatchReadRose :
    List (List ℕ) → Bool → (List ℕ → Option (List ℕ)) → (List ℕ → ℕ) → (List ℕ → ℕ) → Type 0
BatchReadRose words tells held reads reads' =
    Rose (reads (model_of words)) (reads' (model_of words)) ⊎ NthTapeRose words tells (AcceptsBatch words held) reads reads'

-- a read failed in a command; one that generates its model reads no file
abbrev pub CommandReadRose : Command
    → List (List ℕ) → Bool → (List ℕ → Option (List ℕ)) → (List ℕ → ℕ) → (List ℕ → ℕ) → Type 0
CommandReadRose command.Run words tells held reads reads' = RunReadRose words tells held reads reads'
CommandReadRose command.Gen words tells held reads reads' = ⊥
CommandReadRose command.Bench words tells held reads reads' = ⊥
CommandReadRose command.Batch words tells held reads reads' = BatchReadRose words tells held reads reads'
CommandReadRose command.Inverse words tells held reads reads' = RunReadRose words tells held reads reads'
CommandReadRose command.Check words tells held reads reads' = Rose (reads (dump_of words)) (reads' (dump_of words))

abbrev pub ReadRose :
    List (List ℕ) → Bool → (List ℕ → Option (List ℕ)) → (List ℕ → ℕ) → (List ℕ → ℕ) → Type 0
ReadRose words tells held reads reads' =
    CommandReadRose (command_of words) words tells held reads reads'

-- a command that runs one model
abbrev pub IsRun : Command → Type 0
IsRun kind = (kind ≡ command.Run) ⊎ (kind ≡ command.Inverse)

-- an answer that is an outcome's
abbrev pub IsMeant : (Outcome → Type 0) → Status → Type 0
IsMeant Meant answer = (outcome : Outcome) × Meant outcome × (answer ≡ outcome.status)

-- the cause of each answer: the place that is bad; accepted words for all that comes after judging
-- them; and for a fault a count that rose
module _ (words : List (List ℕ)) (tells : Bool) (held : List ℕ → Option (List ℕ)) where
  abbrev pub HasCause : Status → (List ℕ → ℕ) → (List ℕ → ℕ) → ℕ → ℕ → Type 0
  HasCause (status.BadWords at) reads reads' writes writes' = bad_place words ≡ Some at
  HasCause status.ReadFault reads reads' writes writes' =
      (bad_place words ≡ None) × ReadRose words tells held reads reads'
  HasCause status.WriteFault reads reads' writes writes' = Rose writes writes'
  HasCause answer reads reads' writes writes' = bad_place words ≡ None

  -- where no count rose, the answer is the outcome's, or memory was wanted
  abbrev pub Completes : Status → (List ℕ → ℕ) → (List ℕ → ℕ) → ℕ → ℕ → Type 0
  Completes answer reads reads' writes writes' =
      ¬ ReadRose words tells held reads reads' → ¬ Rose writes writes' → (answer ≡ status.Memory) ⊎ IsMeant (IsOutcome words held) answer

-- the cause of an answer that comes after judging the words, with what a fault in reading means
abbrev pub HasLaterCause : Type 0 → Status → ℕ → ℕ → Type 0
HasLaterCause Read (status.BadWords at) writes writes' = ⊥
HasLaterCause Read status.ReadFault writes writes' = Read
HasLaterCause Read status.WriteFault writes writes' = Rose writes writes'
HasLaterCause Read answer writes writes' = Unit {0}

-- ---- within the command, where no file is read any more

-- an outcome was written to the sink `old`, whole and without a fault, or a prefix of it after a fault
abbrev pub Ends : {K : Type 0} → (K → Option (List ℕ)) → (K → ℕ) → Outcome → K → Status → K → Type 0
Ends holds faults outcome old status.ReadFault new = ⊥
Ends holds faults outcome old status.Memory new = ⊥
Ends holds faults outcome old status.WriteFault new =
    GrewPart (holds old) outcome.text (holds new) × Rose (faults old) (faults new)
Ends holds faults outcome old answer new =
    EndsWhole outcome (holds old) answer (holds new) × (faults new ≡ faults old)

-- the same, or memory was wanted and the sink is as it was
abbrev pub EndsOrMemory :
    {K : Type 0} → (K → Option (List ℕ)) → (K → ℕ) → Outcome → K → Status → K → Type 0
EndsOrMemory holds faults outcome old answer new =
    ((answer ≡ status.Memory) × (new ≡ old)) ⊎ Ends holds faults outcome old answer new

-- the same, of one of the outcomes that are meant
abbrev pub EndsMeant :
    {K : Type 0} → (K → Option (List ℕ)) → (K → ℕ) → (Outcome → Type 0) → K → Status → K → Type 0
EndsMeant holds faults Meant old answer new =
    ((answer ≡ status.Memory) × (new ≡ old)) ⊎ ((outcome : Outcome) × Meant outcome × Ends holds faults outcome old answer new)

-- the status, unless the writing failed
abbrev pub unless_failed : {T E : Type 0} → Result T E → Status → Status
unless_failed (Ok done) answer = answer
unless_failed (Err failed) answer = status.WriteFault
