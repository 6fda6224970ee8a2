-- Laws of how a command ends.
use Rattle.std.proofs.Common.{◌≡◌, ◌≤◌, inl, inr, ℕ, Bool, List, Option, Some, None, Result, Ok, Err, option_map, length, take, refl, sym, ap, ◌∙◌, subst}
use Rattle.mj_io.specs.Faults.{Rose}
use Rattle.mj_io.proofs.Faults.{Rose-after}
use Rattle.mj_io.specs.Growth.{Grew}
use Rattle.mj_io.specs.Sent.{Wrote}
use Rattle.mj_types.specs.declared.model.Model.{Model}
use Rattle.mj_types.specs.declared.wants.Wants.{Wants}
use Rattle.mj_types.specs.declared.range.End.{End}
use Rattle.mj_types.specs.declared.range.End.TheVariants as finish
use Rattle.mj_types.specs.declared.status.ModelFault.{ModelFault}
use Rattle.mj_types.specs.declared.status.Status.{Status}
use Rattle.mj_types.specs.declared.status.Status.TheVariants as status
use Rattle.mj_types.specs.declared.tape.TapeFault.{TapeFault}
use Rattle.mj_gen.specs.Tape.{tape_text}
use Rattle.mj_tape.specs.Judging.{TapeValues, tape_verdict}
use Rattle.mj_run.specs.Controls.{controls_at}
use Rattle.mj_run.specs.Course as courses
use Rattle.mj_run.specs.Run.{course, end_of}
use Rattle.mj_valid.specs.Judging.{told, judged_bytes}
use Rattle.mj_words.specs.declared.table.Command.{Command}
use Rattle.mj_words.specs.declared.table.Command.TheVariants as command
use Rattle.mj_types.specs.declared.verdict.Verdict.{Verdict}
use Rattle.mj_types.specs.declared.verdict.Verdict.TheVariants as verdict
use Rattle.mj_words.specs.Words.{bad_place, command_of, model_of, step_count, tape_of, dump_of}
use Rattle.mj_top.specs.Outcome.{IsRunOutcome, wants_of, Outcome, IsOutcome, IsFileOutcome, IsCommandOutcome, IsWordsOutcome, words_refused, status_of, tape_room, with_summed_tape, bench_of, IsBenchOutcome, judged_as, IsDumpOutcome, with_tape, with_tape_file, with_tape_name, with_model, model_cap}
use Rattle.mj_top.specs.Ends.{IsRun, Answers, LeavesSink, HasCause, Completes, RunReadRose, BatchReadRose, CommandReadRose, ReadRose, TapeRose, HasLaterCause, Ends, EndsOrMemory, EndsMeant, unless_failed}

-- a status that tells of an outcome, and of no fault
abbrev pub IsTold : Status → Type 0
IsTold status.ReadFault = ⊥
IsTold status.WriteFault = ⊥
IsTold status.Memory = ⊥
IsTold answer = Unit {0}

-- a status that comes once the words are accepted
abbrev pub IsLater : Status → Type 0
IsLater (status.BadWords at) = ⊥
IsLater answer = Unit {0}

pub told-status_of : (end : End) → IsTold (status_of end)
told-status_of finish.Done = tt
told-status_of (finish.OutOfRange step kind index) = tt

pub later-status_of : (end : End) → IsLater (status_of end)
later-status_of finish.Done = tt
later-status_of (finish.OutOfRange step kind index) = tt

pub later-with_tape : (wants : Wants) (n : ℕ) (m : Model) (answer : Result TapeValues TapeFault) → IsLater (with_tape wants n m answer).status
later-with_tape wants n m (Ok tape) = later-status_of (courses.end_of (course wants m (controls_at (length m.motors) (Some tape))) n)
later-with_tape wants n m (Err fault) = tt

-- an answer with its cause is the outcome's where no count rose
pub completes : (words : List (List ℕ)) (tells : Bool) (held : List ℕ → Option (List ℕ)) (answer : Status) (old new : Option (List ℕ)) (reads reads' : List ℕ → ℕ) (writes writes' : ℕ) → Answers (IsOutcome words held) answer old new → HasCause words tells held answer reads reads' writes writes' → Completes words tells held answer reads reads' writes writes'
completes words tells held status.Done old new reads reads' writes writes' answers cause quiet silent = inr (answers.0, answers.1, answers.2.same)
completes words tells held (status.BadWords at) old new reads reads' writes writes' answers cause quiet silent = inr (answers.0, answers.1, answers.2.same)
completes words tells held (status.OutOfRange step kind index) old new reads reads' writes writes' answers cause quiet silent = inr (answers.0, answers.1, answers.2.same)
completes words tells held (status.BadModel fault) old new reads reads' writes writes' answers cause quiet silent = inr (answers.0, answers.1, answers.2.same)
completes words tells held (status.Rejected line reason) old new reads reads' writes writes' answers cause quiet silent = inr (answers.0, answers.1, answers.2.same)
completes words tells held (status.BadTape tape fault) old new reads reads' writes writes' answers cause quiet silent = inr (answers.0, answers.1, answers.2.same)
completes words tells held status.ReadFault old new reads reads' writes writes' answers cause quiet silent = absurd (quiet cause.1)
completes words tells held status.WriteFault old new reads reads' writes writes' answers cause quiet silent = absurd (silent cause)
completes words tells held status.Memory old new reads reads' writes writes' answers cause quiet silent = inl refl

-- what answers one meaning answers another that it is within
pub answers-within : (Meant Wider : Outcome → Type 0) (answer : Status) (old new : Option (List ℕ)) → ((o : Outcome) → Meant o → Wider o) → Answers Meant answer old new → Answers Wider answer old new
answers-within Meant Wider status.Done old new within answers = (answers.0, within answers.0 answers.1, answers.2)
answers-within Meant Wider (status.BadWords at) old new within answers = (answers.0, within answers.0 answers.1, answers.2)
answers-within Meant Wider (status.OutOfRange step kind index) old new within answers = (answers.0, within answers.0 answers.1, answers.2)
answers-within Meant Wider (status.BadModel fault) old new within answers = (answers.0, within answers.0 answers.1, answers.2)
answers-within Meant Wider (status.Rejected line reason) old new within answers = (answers.0, within answers.0 answers.1, answers.2)
answers-within Meant Wider (status.BadTape tape fault) old new within answers = (answers.0, within answers.0 answers.1, answers.2)
answers-within Meant Wider status.ReadFault old new within answers = answers
answers-within Meant Wider status.WriteFault old new within answers = (answers.0, within answers.0 answers.1, answers.2)
answers-within Meant Wider status.Memory old new within answers = answers

module _ {K : Type 0} (holds : K → Option (List ℕ)) (faults : K → ℕ) (a b : K) where
  -- the whole text was written
  pub ends_whole : (outcome : Outcome) (answer : Status) → IsTold answer → answer ≡ outcome.status → Grew (holds a) outcome.text (holds b) → faults b ≡ faults a → Ends holds faults outcome a answer b
  ends_whole outcome status.Done told e grew calm = (record { same = e; grew = grew }, calm)
  ends_whole outcome (status.BadWords at) told e grew calm = (record { same = e; grew = grew }, calm)
  ends_whole outcome (status.OutOfRange step kind index) told e grew calm = (record { same = e; grew = grew }, calm)
  ends_whole outcome (status.BadModel fault) told e grew calm = (record { same = e; grew = grew }, calm)
  ends_whole outcome (status.Rejected line reason) told e grew calm = (record { same = e; grew = grew }, calm)
  ends_whole outcome (status.BadTape tape fault) told e grew calm = (record { same = e; grew = grew }, calm)
  ends_whole outcome status.ReadFault told e grew calm = told
  ends_whole outcome status.WriteFault told e grew calm = absurd told
  ends_whole outcome status.Memory told e grew calm = told

  -- a text was written through a page, and the answer is the status unless that failed
  pub ends-from_wrote : {T E : Type 0} (r : Result T E) (outcome : Outcome) (answer : Status) → IsTold outcome.status → Wrote holds faults a outcome.text r b → answer ≡ unless_failed r outcome.status → Ends holds faults outcome a answer b
  ends-from_wrote (Ok done) outcome answer told wrote e =
      let P = λ (s : Status). Ends holds faults outcome a s b in
      subst P (sym e) (ends_whole outcome outcome.status told refl wrote.whole wrote.calm)
  ends-from_wrote (Err failed) outcome answer told wrote e =
      let P = λ (s : Status). Ends holds faults outcome a s b in
      subst P (sym e) (wrote.part, wrote.cause)

  -- what ends so answers any meaning of the outcome
  pub answers-from_ends : (Meant : Outcome → Type 0) (outcome : Outcome) (answer : Status) → Meant outcome → Ends holds faults outcome a answer b → Answers Meant answer (holds a) (holds b)
  answers-from_ends Meant outcome status.Done e ends = (outcome, e, ends.0)
  answers-from_ends Meant outcome (status.BadWords at) e ends = (outcome, e, ends.0)
  answers-from_ends Meant outcome (status.OutOfRange step kind index) e ends = (outcome, e, ends.0)
  answers-from_ends Meant outcome (status.BadModel fault) e ends = (outcome, e, ends.0)
  answers-from_ends Meant outcome (status.Rejected line reason) e ends = (outcome, e, ends.0)
  answers-from_ends Meant outcome (status.BadTape tape fault) e ends = (outcome, e, ends.0)
  answers-from_ends Meant outcome status.ReadFault e ends = absurd ends
  answers-from_ends Meant outcome status.WriteFault e ends = (outcome, e, ends.0)
  answers-from_ends Meant outcome status.Memory e ends = absurd ends

  -- the same, where memory may have been wanted
  pub answers-from_either : (Meant : Outcome → Type 0) (outcome : Outcome) (answer : Status) → Meant outcome → EndsOrMemory holds faults outcome a answer b → Answers Meant answer (holds a) (holds b)
  answers-from_either Meant outcome answer e (inl wanted) =
      let P = λ (s : Status). Answers Meant s (holds a) (holds b) in
      subst P (sym wanted.0) (ap holds wanted.1)
  answers-from_either Meant outcome answer e (inr ends) = answers-from_ends Meant outcome answer e ends

  pub leaves-from_ends : (outcome : Outcome) (answer : Status) → Ends holds faults outcome a answer b → LeavesSink faults answer a b
  leaves-from_ends outcome status.Done ends = ends.1
  leaves-from_ends outcome (status.BadWords at) ends = ends.1
  leaves-from_ends outcome (status.OutOfRange step kind index) ends = ends.1
  leaves-from_ends outcome (status.BadModel fault) ends = ends.1
  leaves-from_ends outcome (status.Rejected line reason) ends = ends.1
  leaves-from_ends outcome (status.BadTape tape fault) ends = ends.1
  leaves-from_ends outcome status.ReadFault ends = absurd ends
  leaves-from_ends outcome status.WriteFault ends = tt
  leaves-from_ends outcome status.Memory ends = absurd ends

  pub leaves-from_either : (outcome : Outcome) (answer : Status) → EndsOrMemory holds faults outcome a answer b → LeavesSink faults answer a b
  leaves-from_either outcome answer (inl wanted) =
      let P = λ (s : Status). LeavesSink faults s a b in
      subst P (sym wanted.0) wanted.1
  leaves-from_either outcome answer (inr ends) = leaves-from_ends outcome answer ends

  -- refused words have their cause
  pub cause-from_refused : (words : List (List ℕ)) (tells : Bool) (held : List ℕ → Option (List ℕ)) (at : ℕ) (answer : Status) (reads reads' : List ℕ → ℕ) → bad_place words ≡ Some at → Ends holds faults (words_refused at) a answer b → HasCause words tells held answer reads reads' (faults a) (faults b)
  cause-from_refused words tells held at status.Done reads reads' bad ends = absurd (let e = ends.0.same in cc)
  cause-from_refused words tells held at (status.BadWords there) reads reads' bad ends = let e = ends.0.same in let same : there ≡ at = cc in bad ∙ ap Some (sym same)
  cause-from_refused words tells held at (status.OutOfRange step kind index) reads reads' bad ends = absurd (let e = ends.0.same in cc)
  cause-from_refused words tells held at (status.BadModel fault) reads reads' bad ends = absurd (let e = ends.0.same in cc)
  cause-from_refused words tells held at (status.Rejected line reason) reads reads' bad ends = absurd (let e = ends.0.same in cc)
  cause-from_refused words tells held at (status.BadTape tape fault) reads reads' bad ends = absurd (let e = ends.0.same in cc)
  cause-from_refused words tells held at status.ReadFault reads reads' bad ends = absurd ends
  cause-from_refused words tells held at status.WriteFault reads reads' bad ends = ends.1
  cause-from_refused words tells held at status.Memory reads reads' bad ends = absurd ends

  -- what ends after the words has its cause
  pub later_cause-from_ends : (Read : Type 0) (outcome : Outcome) (answer : Status) → IsLater outcome.status → Ends holds faults outcome a answer b → HasLaterCause Read answer (faults a) (faults b)
  later_cause-from_ends Read outcome status.Done later ends = tt
  later_cause-from_ends Read outcome (status.BadWords at) later ends = let P = λ (s : Status). IsLater s in subst P (sym ends.0.same) later
  later_cause-from_ends Read outcome (status.OutOfRange step kind index) later ends = tt
  later_cause-from_ends Read outcome (status.BadModel fault) later ends = tt
  later_cause-from_ends Read outcome (status.Rejected line reason) later ends = tt
  later_cause-from_ends Read outcome (status.BadTape number fault) later ends = tt
  later_cause-from_ends Read outcome status.ReadFault later ends = absurd ends
  later_cause-from_ends Read outcome status.WriteFault later ends = ends.1
  later_cause-from_ends Read outcome status.Memory later ends = tt

  pub later_cause-from_either : (Read : Type 0) (outcome : Outcome) (answer : Status) → IsLater outcome.status → EndsOrMemory holds faults outcome a answer b → HasLaterCause Read answer (faults a) (faults b)
  later_cause-from_either Read outcome answer later (inl wanted) =
      let P = λ (s : Status). HasLaterCause Read s (faults a) (faults b) in
      subst P (sym wanted.0) tt
  later_cause-from_either Read outcome answer later (inr ends) = later_cause-from_ends Read outcome answer later ends

module _ {K : Type 0} (holds : K → Option (List ℕ)) (faults : K → ℕ) (a b : K) (Meant : Outcome → Type 0) (answer : Status) where
  pub meant-from_either : (outcome : Outcome) → Meant outcome → EndsOrMemory holds faults outcome a answer b → EndsMeant holds faults Meant a answer b
  meant-from_either outcome meant (inl wanted) = inl wanted
  meant-from_either outcome meant (inr ends) = inr (outcome, meant, ends)

  pub answers-from_meant : EndsMeant holds faults Meant a answer b → Answers Meant answer (holds a) (holds b)
  answers-from_meant (inl wanted) =
      let P = λ (s : Status). Answers Meant s (holds a) (holds b) in
      subst P (sym wanted.0) (ap holds wanted.1)
  answers-from_meant (inr ends) = answers-from_ends holds faults a b Meant ends.0 answer ends.1 ends.2

  pub leaves-from_meant : EndsMeant holds faults Meant a answer b → LeavesSink faults answer a b
  leaves-from_meant (inl wanted) =
      let P = λ (s : Status). LeavesSink faults s a b in
      subst P (sym wanted.0) wanted.1
  leaves-from_meant (inr ends) = leaves-from_ends holds faults a b ends.0 answer ends.2

  pub later_cause-from_meant : (Read : Type 0) → ((o : Outcome) → Meant o → IsLater o.status) → EndsMeant holds faults Meant a answer b → HasLaterCause Read answer (faults a) (faults b)
  later_cause-from_meant Read later (inl wanted) =
      let P = λ (s : Status). HasLaterCause Read s (faults a) (faults b) in
      subst P (sym wanted.0) tt
  later_cause-from_meant Read later (inr ends) = later_cause-from_ends holds faults a b Read ends.0 answer (later ends.0 ends.1) ends.2

-- ---- a bench comes after the words
later-summed : (n : ℕ) (m : Model) (answer : Result TapeValues TapeFault) → IsLater (with_summed_tape n m answer).status
later-summed n m (Ok tape) = later-status_of (end_of m (controls_at (length m.motors) (Some tape)) n)
later-summed n m (Err fault) = tt

later-bench : (seed links n : ℕ) (judged : Result Model ModelFault) → IsLater (bench_of seed links n judged).status
later-bench seed links n (Ok m) =
    later-summed n m (tape_verdict (length m.motors) n tape_room (tape_text seed n links))
later-bench seed links n (Err fault) = tt

pub bench-later : (seed links n : ℕ) (o : Outcome) → IsBenchOutcome seed links n o → IsLater o.status
bench-later seed links n o meant =
    let P = λ (x : Outcome). IsLater x.status in subst P (sym meant.2) (later-bench seed links n meant.0)

-- and so does the check of a dump
later-judged : (found : Verdict) → IsLater (judged_as found).status
later-judged (verdict.Accepted blocks) = tt
later-judged (verdict.Rejected line reason) = tt

pub dump-later : (bytes : List ℕ) (o : Outcome) → IsDumpOutcome bytes o → IsLater o.status
dump-later bytes o meant =
    let P = λ (x : Outcome). IsLater x.status in subst P (sym meant.2) (later-judged meant.0)

-- the cause of an answer that comes after judging the words, as the whole command's
pub cause-from_later : (words : List (List ℕ)) (tells : Bool) (held : List ℕ → Option (List ℕ)) (Read : Type 0) (answer : Status) (reads reads' : List ℕ → ℕ) (writes writes' : ℕ) → bad_place words ≡ None → (Read → answer ≡ status.ReadFault → ReadRose words tells held reads reads') → HasLaterCause Read answer writes writes' → HasCause words tells held answer reads reads' writes writes'
cause-from_later words tells held Read status.Done reads reads' writes writes' good rose cause = good
cause-from_later words tells held Read (status.BadWords at) reads reads' writes writes' good rose cause = absurd cause
cause-from_later words tells held Read (status.OutOfRange step kind index) reads reads' writes writes' good rose cause = good
cause-from_later words tells held Read (status.BadModel fault) reads reads' writes writes' good rose cause = good
cause-from_later words tells held Read (status.Rejected line reason) reads reads' writes writes' good rose cause = good
cause-from_later words tells held Read (status.BadTape number fault) reads reads' writes writes' good rose cause = good
cause-from_later words tells held Read status.ReadFault reads reads' writes writes' good rose cause = (good, rose cause refl)
cause-from_later words tells held Read status.WriteFault reads reads' writes writes' good rose cause = cause
cause-from_later words tells held Read status.Memory reads reads' writes writes' good rose cause = good

-- a fault in reading that means more
pub later_cause-within : (Read Wider : Type 0) (answer : Status) (writes writes' : ℕ) → (Read → Wider) → HasLaterCause Read answer writes writes' → HasLaterCause Wider answer writes writes'
later_cause-within Read Wider status.Done writes writes' wider cause = tt
later_cause-within Read Wider (status.BadWords at) writes writes' wider cause = cause
later_cause-within Read Wider (status.OutOfRange step kind index) writes writes' wider cause = tt
later_cause-within Read Wider (status.BadModel fault) writes writes' wider cause = tt
later_cause-within Read Wider (status.Rejected line reason) writes writes' wider cause = tt
later_cause-within Read Wider (status.BadTape number fault) writes writes' wider cause = tt
later_cause-within Read Wider status.ReadFault writes writes' wider cause = wider cause
later_cause-within Read Wider status.WriteFault writes writes' wider cause = cause
later_cause-within Read Wider status.Memory writes writes' wider cause = tt

-- counts under a tape's name may have stood lower before
pub tape_rose-earlier : (tape : Option (List ℕ)) (reads between reads' : List ℕ → ℕ) → ((n : List ℕ) → reads n ≤ between n) → TapeRose tape between reads' → TapeRose tape reads reads'
tape_rose-earlier tape reads between reads' later rose =
    let n = rose.0 in (n, rose.1, Rose-after (reads n) (between n) (reads' n) (later n) rose.2)

-- ---- outcomes are the same for files that are held alike
with_tape_name-same : (held held' : List ℕ → Option (List ℕ)) (wants : Wants) (n : ℕ) (m : Model) (tape : Option (List ℕ)) → ((name : List ℕ) → held' name ≡ held name)
    → with_tape_name held' wants n m tape ≡ with_tape_name held wants n m tape
with_tape_name-same held held' wants n m None same = refl
with_tape_name-same held held' wants n m (Some name) same = ap (option_map (with_tape_file wants n m)) (same name)

with_model-same : (held held' : List ℕ → Option (List ℕ)) (wants : Wants) (n : ℕ) (tape : Option (List ℕ)) (judged : Result Model ModelFault) → ((name : List ℕ) → held' name ≡ held name)
    → with_model held' wants n tape judged ≡ with_model held wants n tape judged
with_model-same held held' wants n tape (Ok m) same = with_tape_name-same held held' wants n m tape same
with_model-same held held' wants n tape (Err fault) same = refl

-- accepted words have the outcome of their command
pub outcome-is : (words : List (List ℕ)) (held : List ℕ → Option (List ℕ)) (kind : Command) (o : Outcome) → bad_place words ≡ None → command_of words ≡ kind → IsCommandOutcome held kind words o → IsOutcome words held o
outcome-is words held kind o good is meant =
    let P = λ (p : Option ℕ). IsWordsOutcome held words p o in
    let Q = λ (k : Command). IsCommandOutcome held k words o in
    subst P (sym good) (subst Q (sym is) meant)

-- those of a run
run_outcome-is : (words : List (List ℕ)) (held : List ℕ → Option (List ℕ)) (o : Outcome) → bad_place words ≡ None → IsRun (command_of words) → IsRunOutcome held words o → IsOutcome words held o
run_outcome-is words held o good (inl run) meant = outcome-is words held command.Run o good run meant
run_outcome-is words held o good (inr inverse) meant = outcome-is words held command.Inverse o good inverse meant

-- the outcome of the model's file is that of a run
pub file_outcome-is : (words : List (List ℕ)) (held held' : List ℕ → Option (List ℕ)) (file bytes : List ℕ) → bad_place words ≡ None → IsRun (command_of words) → ((name : List ℕ) → held' name ≡ held name) → held (model_of words) ≡ Some file → bytes ≡ take model_cap file → (o : Outcome) → IsFileOutcome held' (wants_of words) (step_count words) (tape_of words) bytes o → IsOutcome words held o
file_outcome-is words held held' file bytes good run same kept e o meant =
    let Q = λ (b : List ℕ). told meant.0 ≡ judged_bytes b in
    run_outcome-is words held o good run
    (file, kept, (meant.0, subst Q e meant.1, sym (with_model-same held held' (wants_of words) (step_count words) (tape_of words) meant.0 same) ∙ meant.2))

-- a read that failed in a run failed in the command
pub run_read-rose : (words : List (List ℕ)) (tells : Bool) (held : List ℕ → Option (List ℕ)) (reads reads' : List ℕ → ℕ) → IsRun (command_of words) → RunReadRose words tells held reads reads' → ReadRose words tells held reads reads'
run_read-rose words tells held reads reads' (inl run) rose =
    let P = λ (k : Command). CommandReadRose k words tells held reads reads' in subst P (sym run) rose
run_read-rose words tells held reads reads' (inr inverse) rose =
    let P = λ (k : Command). CommandReadRose k words tells held reads reads' in subst P (sym inverse) rose

-- the same of a batch
pub batch_read-rose : (words : List (List ℕ)) (tells : Bool) (held : List ℕ → Option (List ℕ)) (reads reads' : List ℕ → ℕ) → command_of words ≡ command.Batch → BatchReadRose words tells held reads reads' → ReadRose words tells held reads reads'
batch_read-rose words tells held reads reads' batch rose =
    let P = λ (k : Command). CommandReadRose k words tells held reads reads' in subst P (sym batch) rose

-- and of a check
pub check_read-rose : (words : List (List ℕ)) (tells : Bool) (held : List ℕ → Option (List ℕ)) (reads reads' : List ℕ → ℕ) → command_of words ≡ command.Check → (name : List ℕ) → dump_of words ≡ name → Rose (reads name) (reads' name) → ReadRose words tells held reads reads'
check_read-rose words tells held reads reads' check name named rose =
    let P = λ (k : Command). CommandReadRose k words tells held reads reads' in
    let Q = λ (n : List ℕ). Rose (reads n) (reads' n) in
    subst P (sym check) (subst Q (sym named) rose)
