-- Laws of a batch's tapes as they are taken.
use Rattle.std.proofs.Common.{◌≡◌, inl, inr, ℕ, ◌+◌, ◌-◌, ◌<◌, ◌≤◌, Bool, IsTrue, List, [], ◌∷◌, ◌++◌, length, take, Option, Some, None, option_and_then, Result, Ok, Err, refl, sym, ap, ap₂, ◌∙◌, subst, arith}
use Rattle.std.proofs.lemmas.Bool.{cases_eq}
use Rattle.std.proofs.lemmas.List.{get_or_push, get_or_append_left, length-append}
use Rattle.fx_whole.proofs.JoinedLaws.{joined-none}
use Rattle.fx_whole.proofs.SumLaws.{sum_ℕ_to-ext, sum_ℕ_to-more}
use Rattle.mj_types.specs.declared.model.Model.{Model}
use Rattle.mj_types.specs.declared.status.ModelFault.{ModelFault}
use Rattle.mj_types.specs.declared.status.Status.{Status}
use Rattle.mj_types.specs.declared.tape.TapeFault.{TapeFault}
use Rattle.mj_tape.specs.Judging.{TapeValues, tape_verdict}
use Rattle.mj_run.specs.declared.job.RunJob.{RunJob}
use Rattle.mj_run.specs.Batch.{no_tape, tape_at, driven_by, report_text}
use Rattle.mj_valid.specs.Judging.{told as told_of, judged_bytes}
use Rattle.mj_words.specs.declared.table.Command.TheVariants as command
use Rattle.mj_words.specs.Words.{bad_place, command_of, model_of, nth_tape, step_count}
use Rattle.mj_top.specs.declared.batch.Stopped.{Stopped}
use Rattle.mj_top.specs.declared.batch.Stopped.TheVariants as stopped
use Rattle.mj_top.specs.Outcome.{Outcome, kept_before, tape_room, tape_cap, tape_refused, model_cap, IsTapeJudged, AreFirstTapes, IsTapesOutcome, IsTapesOutcomeOf, IsBatchFileOutcome, IsOutcome}
use Rattle.mj_top.specs.Ends.{Answers, LeavesSink, HasLaterCause, NthTapeRose, AcceptsTapes}
use Rattle.mj_top.specs.Taking.{ReadsOn, TakesFile, HasTaken, StopsFor, TakesNext, EndsStopped}
use Rattle.mj_top.proofs.Endings.{answers-from_ends, leaves-from_ends, later_cause-from_ends, outcome-is}

-- ---- reads one after another
pub reads-none : (tells : Bool) (held : List ℕ → Option (List ℕ)) (reads : List ℕ → ℕ) → ReadsOn tells tells held held reads reads
reads-none tells held reads = record { still = refl; same = λ name. refl; later = λ name. omega arith }

pub reads-then : (a b c : Bool) (f g h : List ℕ → Option (List ℕ)) (x y z : List ℕ → ℕ) → ReadsOn a b f g x y → ReadsOn b c g h y z → ReadsOn a c f h x z
reads-then a b c f g h x y z before after = record {
  still = after.still ∙ before.still;
  same = λ name. after.same name ∙ before.same name;
  later = λ name. let p = before.later name in let q = after.later name in omega (arith, p, q);
}

-- ---- one tape more
less-more : (r a b : ℕ) → (r - a) - b ≡ r - (a + b)
less-more r a b = omega arith

module _ (tapes : List TapeValues) (tape : TapeValues) where
  kept-same : (t : ℕ) → t ≤ length tapes → kept_before (tapes ++ tape ∷ []) t ≡ kept_before tapes t
  kept-same t h =
      sum_ℕ_to-ext t (λ s. length (tape_at (tapes ++ tape ∷ []) s).values) (λ s. length (tape_at tapes s).values)
      (λ s l. ap (λ x. length x.values) (get_or_append_left tapes (tape ∷ []) no_tape s (omega (arith, l, h))))

  kept-more : kept_before (tapes ++ tape ∷ []) (length tapes + 1) ≡ kept_before tapes (length tapes) + length tape.values
  kept-more =
      sum_ℕ_to-more (length tapes) (λ s. length (tape_at (tapes ++ tape ∷ []) s).values)
      ∙ ap₂ (λ (a b : ℕ). a + b) (kept-same (length tapes) (omega arith)) (ap (λ x. length x.values) (get_or_push tapes tape no_tape (length tapes) refl))

  module _ (held : List ℕ → Option (List ℕ)) (words : List (List ℕ)) (m : Model) where
    judged-same : (t : ℕ) (answer : Result TapeValues TapeFault) → t ≤ length tapes → IsTapeJudged held words m tapes t answer → IsTapeJudged held words m (tapes ++ tape ∷ []) t answer
    judged-same t answer h judged = (
      judged.0,
      judged.1,
      ap (λ (kept : ℕ). tape_verdict (length m.motors) (step_count words) (tape_room - kept) (take tape_cap judged.0)) (kept-same t h) ∙ judged.2,
    )

    first-more : AreFirstTapes held words m tapes → IsTapeJudged held words m tapes (length tapes) (Ok tape) → AreFirstTapes held words m (tapes ++ tape ∷ [])
    first-more before here t h =
        let more = tapes ++ tape ∷ [] in
        let count : length more ≡ length tapes + 1 = length-append tapes (tape ∷ []) in
        let P = λ (s : ℕ) (x : TapeValues). IsTapeJudged held words m more s (Ok x) in
        elim (cases_eq t (length tapes)) [
          | inl e ↦ (let Q = λ (s : ℕ). IsTapeJudged held words m more s (Ok (tape_at more s)) in
              subst Q (sym e) (subst (P (length tapes)) (sym (get_or_push tapes tape no_tape (length tapes) refl)) (judged-same (length tapes) (Ok tape) (omega arith) here)))
          | inr e ↦ (let l : t < length tapes = omega (arith, h, count, e) in
              subst (P t) (sym (get_or_append_left tapes (tape ∷ []) no_tape t l)) (judged-same t (Ok (tape_at tapes t)) (omega (arith, l)) (before t l)))
        ]

-- ---- what was taken
module _ (words : List (List ℕ)) (tells : Bool) (held : List ℕ → Option (List ℕ)) (m : Model) where
  pub taken-none : HasTaken words tells held m 0 tape_room []
  taken-none = record {
    tapes = [];
    count = refl;
    left = refl;
    due = record { many = refl; text = sym (joined-none (λ t. report_text m (t + 1) (driven_by m (tape_at [] t)) (step_count words))); ends = refl };
    accepted = λ told t h. absurd (omega (arith, h));
  }

  module _ (k room : ℕ) (jobs : List RunJob) (name bytes : List ℕ) (named : nth_tape words k ≡ Some name) (given : IsTrue tells → (file : List ℕ) × (held name ≡ Some file) × (bytes ≡ take tape_cap file)) where
    -- the tape that was read is judged where it stands
    judged-here : (taken : HasTaken words tells held m k room jobs) (answer : Result TapeValues TapeFault) → tape_verdict (length m.motors) (step_count words) room bytes ≡ answer → IsTrue tells → IsTapeJudged held words m taken.tapes (length taken.tapes) answer
    judged-here taken answer judged told =
        let here = given told in
        let w = length m.motors in
        let n = step_count words in (
          here.0,
          ap (λ (t : ℕ). option_and_then held (nth_tape words t)) taken.count ∙ ap (option_and_then held) named ∙ here.1,
          ap (λ (t : ℕ). tape_verdict w n (tape_room - kept_before taken.tapes t) (take tape_cap here.0)) taken.count
              ∙ ap (λ (r : ℕ). tape_verdict w n r (take tape_cap here.0)) (sym taken.left)
              ∙ ap (λ (b : List ℕ). tape_verdict w n room b) (sym here.2)
              ∙ judged,
        )

    -- it is taken, or the outcome is its refusal
    pub taken-next : (jobs' : List RunJob) (reads reads' : List ℕ → ℕ) (answer : Result ℕ Stopped) → HasTaken words tells held m k room jobs → TakesFile m (step_count words) room k bytes jobs jobs' answer → TakesNext words tells held m k jobs' reads reads' answer
    taken-next jobs' reads reads' (Ok left) taken takes =
        let tapes = taken.tapes in
        let tape = takes.0 in
        let P = λ (c : ℕ). kept_before (tapes ++ tape ∷ []) (c + 1) ≡ kept_before tapes c + length tape.values in
        let kept : kept_before (tapes ++ tape ∷ []) (k + 1) ≡ kept_before tapes k + length tape.values = subst P taken.count (kept-more tapes tape) in
        record {
          tapes = tapes ++ tape ∷ [];
          count = length-append tapes (tape ∷ []) ∙ ap (λ (c : ℕ). c + 1) taken.count;
          left =
              takes.2 ∙ ap (λ (r : ℕ). r - length tape.values) taken.left ∙ less-more tape_room (kept_before tapes k) (length tape.values)
              ∙ ap (λ (a : ℕ). tape_room - a) (sym kept);
          due = takes.3 tapes taken.due;
          accepted = λ told. first-more tapes tape held words m (taken.accepted told) (judged-here taken (Ok tape) takes.1 told);
        }
    taken-next jobs' reads reads' (Err stopped.ReadFault) taken takes = absurd takes
    taken-next jobs' reads reads' (Err stopped.Memory) taken takes = tt
    taken-next jobs' reads reads' (Err (stopped.Refused tape fault)) taken takes = λ told. (
      taken.tapes,
      taken.accepted told,
      inr (
        fault,
        judged-here taken (Err fault) takes.1 told,
        ap (λ (c : ℕ). tape_refused c fault) (takes.0 ∙ ap (λ (c : ℕ). c + 1) (sym taken.count)),
      ),
    )

  -- ---- an end before all tapes are taken
  module _ {K : Type 0} (holds : K → Option (List ℕ)) (faults : K → ℕ) (a b : K) (reads reads' : List ℕ → ℕ) where
    pub answers-from_stopped : (why : Stopped) (answer : Status) → StopsFor words tells held m reads reads' why → EndsStopped holds faults why a answer b → IsTrue tells → Answers (IsTapesOutcome held words m) answer (holds a) (holds b)
    answers-from_stopped stopped.ReadFault answer stops ends told =
        let P = λ (s : Status). Answers (IsTapesOutcome held words m) s (holds a) (holds b) in
        subst P (sym ends.0) (ap holds ends.1)
    answers-from_stopped stopped.Memory answer stops ends told =
        let P = λ (s : Status). Answers (IsTapesOutcome held words m) s (holds a) (holds b) in
        subst P (sym ends.0) (ap holds ends.1)
    answers-from_stopped (stopped.Refused tape fault) answer stops ends told =
        answers-from_ends holds faults a b (IsTapesOutcome held words m) (tape_refused tape fault) answer (stops told) ends

    pub leaves-from_stopped : (why : Stopped) (answer : Status) → EndsStopped holds faults why a answer b → LeavesSink faults answer a b
    leaves-from_stopped stopped.ReadFault answer ends =
        let P = λ (s : Status). LeavesSink faults s a b in
        subst P (sym ends.0) ends.1
    leaves-from_stopped stopped.Memory answer ends =
        let P = λ (s : Status). LeavesSink faults s a b in
        subst P (sym ends.0) ends.1
    leaves-from_stopped (stopped.Refused tape fault) answer ends =
        leaves-from_ends holds faults a b (tape_refused tape fault) answer ends

    pub later_cause-from_stopped : (why : Stopped) (answer : Status) → StopsFor words tells held m reads reads' why → EndsStopped holds faults why a answer b → HasLaterCause (NthTapeRose words tells (AcceptsTapes words held m) reads reads') answer (faults a) (faults b)
    later_cause-from_stopped stopped.ReadFault answer stops ends =
        let P = λ (s : Status). HasLaterCause (NthTapeRose words tells (AcceptsTapes words held m) reads reads') s (faults a) (faults b) in
        subst P (sym ends.0) stops
    later_cause-from_stopped stopped.Memory answer stops ends =
        let P = λ (s : Status). HasLaterCause (NthTapeRose words tells (AcceptsTapes words held m) reads reads') s (faults a) (faults b) in
        subst P (sym ends.0) tt
    later_cause-from_stopped (stopped.Refused tape fault) answer stops ends =
        later_cause-from_ends holds faults a b (NthTapeRose words tells (AcceptsTapes words held m) reads reads') (tape_refused tape fault) answer tt ends

-- ---- outcomes are the same for files that are held alike
module _ (held held' : List ℕ → Option (List ℕ)) (same : (name : List ℕ) → held' name ≡ held name) (words : List (List ℕ)) where
  held-then : (o : Option (List ℕ)) → option_and_then held' o ≡ option_and_then held o
  held-then None = refl
  held-then (Some name) = same name

  judged-alike : (m : Model) (tapes : List TapeValues) (t : ℕ) (answer : Result TapeValues TapeFault) → IsTapeJudged held' words m tapes t answer → IsTapeJudged held words m tapes t answer
  judged-alike m tapes t answer judged = (judged.0, sym (held-then (nth_tape words t)) ∙ judged.1, judged.2)

  first-alike : (m : Model) (tapes : List TapeValues) → AreFirstTapes held' words m tapes → AreFirstTapes held words m tapes
  first-alike m tapes first t h = judged-alike m tapes t (Ok (tape_at tapes t)) (first t h)

  pub accepts-alike : (m : Model) (t : ℕ) → AcceptsTapes words held' m t → AcceptsTapes words held m t
  accepts-alike m t accepts = (accepts.0, accepts.1, first-alike m accepts.0 accepts.2)

  tapes-alike : (m : Model) (o : Outcome) → IsTapesOutcome held' words m o → IsTapesOutcome held words m o
  tapes-alike m o meant = (
    meant.0,
    first-alike m meant.0 meant.1,
    elim meant.2 [
      | inl all ↦ inl all
      | inr next ↦ inr (next.0, judged-alike m meant.0 (length meant.0) (Err next.0) next.1, next.2)
    ],
  )

  tapes_of-alike : (judged : Result Model ModelFault) (o : Outcome) → IsTapesOutcomeOf held' words judged o → IsTapesOutcomeOf held words judged o
  tapes_of-alike (Ok m) o meant = tapes-alike m o meant
  tapes_of-alike (Err fault) o meant = meant

  -- the outcome of the model's file is that of a batch
  pub batch_outcome-is : (file bytes : List ℕ) → bad_place words ≡ None → command_of words ≡ command.Batch → held (model_of words) ≡ Some file → bytes ≡ take model_cap file → (o : Outcome) → IsBatchFileOutcome held' words bytes o → IsOutcome words held o
  batch_outcome-is file bytes good batch kept e o meant =
      let Q = λ (b : List ℕ). told_of meant.0 ≡ judged_bytes b in
      outcome-is words held command.Batch o good batch
      (file, kept, (meant.0, subst Q e meant.1, tapes_of-alike meant.0 o meant.2))
