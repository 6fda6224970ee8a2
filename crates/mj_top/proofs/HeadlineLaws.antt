-- What a command that ended has done, from its outcome and what steps are worth.
use Rattle.std.proofs.Common.{◌≡◌, ◌⊎◌, inl, inr, ℕ, ◌<◌, Bool, List, length, take, Option, Some, None, option_map, Result, Ok, Err, refl, sym, ap, ◌∙◌, subst, arith}
use Rattle.fx_whole.specs.First.{first_to}
use Rattle.fx_whole.proofs.FirstLaws.{first_none, first_some}
use Rattle.mj_io.specs.Growth.{Grew}
use Rattle.mj_types.specs.Control.{Control}
use Rattle.mj_types.specs.declared.model.Model.{Model}
use Rattle.mj_types.specs.declared.wants.Wants.{Wants}
use Rattle.mj_types.specs.declared.range.OutOfRange.{OutOfRange}
use Rattle.mj_types.specs.declared.range.End.{End}
use Rattle.mj_types.specs.declared.range.End.TheVariants as finish
use Rattle.mj_types.specs.declared.state.State.{State}
use Rattle.mj_types.specs.declared.status.ModelFault.{ModelFault}
use Rattle.mj_types.specs.declared.status.Status.{Status}
use Rattle.mj_types.specs.declared.status.Status.TheVariants as status
use Rattle.mj_types.specs.declared.tape.TapeFault.{TapeFault}
use Rattle.mj_gen.specs.Tape.{tape_text}
use Rattle.mj_gen.specs.Chain.{chain_text}
use Rattle.mj_tape.specs.Judging.{TapeValues, tape_verdict}
use Rattle.mj_step.specs.Certified.{IsCertified}
use Rattle.mj_step.specs.Covered.{IsCovered}
use Rattle.mj_step.specs.Enclosed.{IsInBall}
use Rattle.mj_run.specs.Told.{AreBest}
use Rattle.mj_run.specs.Batch.{tape_at, driven_by, batch_end}
use Rattle.mj_run.specs.Controls.{controls_at}
use Rattle.mj_run.specs.Course as courses
use Rattle.mj_run.specs.Run.{state_at, refusal_at, done_of, end_of, course}
use Rattle.mj_run.specs.Course.{done_by}
use Rattle.mj_run.proofs.CourseLaws.{done-whole, done-early}
use Rattle.mj_run.proofs.Steps.{told-none}
use Rattle.mj_valid.specs.Judging.{told, judged_bytes}
use Rattle.mj_words.specs.declared.table.Command.{Command}
use Rattle.mj_words.specs.declared.table.Command.TheVariants as command
use Rattle.mj_types.specs.declared.verdict.Verdict.{Verdict}
use Rattle.mj_types.specs.declared.verdict.Verdict.TheVariants as verdict
use Rattle.mj_check.proofs.VerdictLaws.{verdict-holds}
use Rattle.mj_words.specs.Words.{bad_place, command_of, model_of, step_count, tape_of, seed_of, link_count}
use Rattle.mj_top.specs.Outcome.{wants_of, Outcome, status_of, IsOutcome, IsWordsOutcome, IsCommandOutcome, IsRunOutcome, IsBenchOutcome, IsBatchOutcome, IsCheckOutcome, judged_as, dump_cap, IsTapesOutcomeOf, AreFirstTapes, RunsAll, RefusesNext, generated, model_cap, bench_of, with_summed_tape, summed, batched, ran, with_tape, with_tape_file, with_tape_name, with_model, tape_room, tape_cap}
use Rattle.mj_top.specs.Ends.{Answers, EndsWhole, Completes}
use Rattle.mj_top.proofs.Endings.{outcome-is}
use Rattle.mj_top.proofs.Once.{outcomes-one}
use Rattle.mj_top.specs.Headline.{IsDumpChecked, IsSound, IsEnd, IsModelUnder, IsTapeUnder, IsRunTraced, Achieves, IsHeadline, IsAccepted, EndsWell}

-- ---- options and results
some-same : {A : Type 0} (x y : A) → Some x ≡ Some y → x ≡ y
some-same x y e = cc

none-or-some : {A : Type 0} (o : Option A) → (o ≡ None) ⊎ ((x : A) × (o ≡ Some x))
none-or-some None = inl refl
none-or-some (Some x) = inr (x, refl)

map-some : {A B : Type 0} (f : A → B) (o : Option A) (y : B) → option_map f o ≡ Some y → (x : A) × (o ≡ Some x) × (f x ≡ y)
map-some f None y e = absurd (cc)
map-some f (Some x) y e = (x, refl, some-same (f x) y e)

-- ---- steps that are done
-- none of them is refused
going : (refusal : ℕ → Option OutOfRange) (n k : ℕ) → k < done_by refusal n → refusal k ≡ None
going refusal n k h =
    elim (none-or-some (first_to n refusal)) [
      | inl whole ↦
          let all = done-whole refusal n whole in
          (first_none n refusal).0 whole k (omega (arith, all))
      | inr early ↦
          let first = first_some n refusal early.0 early.1 in
          let done = done-early refusal first.0 n early.0 first.1 ((first_none first.0 refusal).1 first.3) first.2 in
          first.3 k (omega (arith, done))
    ]

module _ (certified : (m : Model) (s : State) (u : List Control) → IsCertified m s u) (covered : (m : Model) (s : State) (u : List Control) → IsCovered m s u)
    (enclosed : (m : Model) (s : State) (u : List Control) → IsInBall m s u) (best : (m : Model) (s : State) (u : List Control) → AreBest m s u) where
  is-sound : (m : Model) (controls : ℕ → List Control) (k : ℕ) → refusal_at m controls k ≡ None → IsSound m controls k
  is-sound m controls k going = record {
    going = going;
    certified = certified m (state_at m controls k) (controls k);
    covered = covered m (state_at m controls k) (controls k);
    enclosed = enclosed m (state_at m controls k) (controls k);
    best = best m (state_at m controls k) (controls k);
  }

  are-sound : (m : Model) (controls : ℕ → List Control) (n k : ℕ) → k < done_of m controls n → IsSound m controls k
  are-sound m controls n k h = is-sound m controls k (going (refusal_at m controls) n k h)

  are-sound-told : (wants : Wants) (m : Model) (controls : ℕ → List Control) (n k : ℕ) → k < courses.done_of (course wants m controls) n → IsSound m controls k
  are-sound-told wants m controls n k h =
      is-sound m controls k (told-none wants m (state_at m controls k) (controls k) (going (course wants m controls).refusal n k h))

  -- ---- what ended is no refusal
  module _ (words : List (List ℕ)) (held : List ℕ → Option (List ℕ)) (answer : Status) (old new : Option (List ℕ)) (o : Outcome) (ends : EndsWhole o old answer new) (is_end : IsEnd o.status) where
    traced : (m : Model) (tape : Option TapeValues) → IsModelUnder held (model_of words) m → IsTapeUnder held (tape_of words) m (step_count words) tape → ran (wants_of words) (step_count words) m tape ≡ o → IsRunTraced words held answer old new
    traced m tape read driven e =
        let P = λ (x : Outcome). Grew old x.text new in (
          m,
          tape,
          (read, driven),
          record {
            gained = subst P (sym e) ends.grew;
            end = ends.same ∙ sym (ap (λ x. x.status) e);
            sound = are-sound-told (wants_of words) m (controls_at (length m.motors) tape) (step_count words);
          },
        )

    tape-accepted : (wants : Wants) (n : ℕ) (m : Model) (verdict : Result TapeValues TapeFault) → with_tape wants n m verdict ≡ o → (values : TapeValues) × (verdict ≡ Ok values) × (ran wants n m (Some values) ≡ o)
    tape-accepted wants n m (Ok values) e = (values, refl, e)
    tape-accepted wants n m (Err fault) e = absurd (let P = λ (x : Outcome). IsEnd x.status in subst P (sym e) is_end)

    named : (wants : Wants) (n : ℕ) (m : Model) (tape : Option (List ℕ)) → with_tape_name held wants n m tape ≡ Some o → (values : Option TapeValues) × IsTapeUnder held tape m n values × (ran wants n m values ≡ o)
    named wants n m None e = (None, refl, some-same (ran wants n m None) o e)
    named wants n m (Some name) e =
        let file = map-some (with_tape_file wants n m) (held name) o e in
        let taken = tape-accepted wants n m (tape_verdict (length m.motors) n tape_room (take tape_cap file.0)) file.2 in
        (Some taken.0, (file.0, taken.0, file.1, taken.1, refl), taken.2)

    of_run : IsRunOutcome held words o → IsRunTraced words held answer old new
    of_run meant = split meant.2.0 meant.2.1 meant.2.2
      where
        split : (judged : Result Model ModelFault) → told judged ≡ judged_bytes (take model_cap meant.0) → with_model held (wants_of words) (step_count words) (tape_of words) judged ≡ Some o → IsRunTraced words held answer old new
        split (Ok m) judged e =
            let tape = named (wants_of words) (step_count words) m (tape_of words) e in
            traced m tape.0 (meant.0, meant.1, sym judged) tape.1 tape.2
        split (Err fault) judged e = absurd (let P = λ (x : Outcome). IsEnd x.status in subst P (sym (some-same _ o e)) is_end)

    -- ---- a bench
    summed-accepted : (n : ℕ) (m : Model) (verdict : Result TapeValues TapeFault) → o ≡ with_summed_tape n m verdict → (values : TapeValues) × (verdict ≡ Ok values) × (o ≡ summed n m (Some values))
    summed-accepted n m (Ok values) e = (values, refl, e)
    summed-accepted n m (Err fault) e = absurd (let P = λ (x : Outcome). IsEnd x.status in subst P e is_end)

    of_bench : IsBenchOutcome (seed_of words) (link_count words) (step_count words) o → Achieves command.Bench words held answer old new
    of_bench meant = split meant.0 meant.1 meant.2
      where
        split : (judged : Result Model ModelFault) → told judged ≡ judged_bytes (chain_text (seed_of words) (link_count words)) → o ≡ bench_of (seed_of words) (link_count words) (step_count words) judged → Achieves command.Bench words held answer old new
        split (Ok m) judged e =
            let tape = summed-accepted (step_count words) m (tape_verdict (length m.motors) (step_count words) tape_room (tape_text (seed_of words) (step_count words) (link_count words))) e in
            let P = λ (x : Outcome). Grew old x.text new in (
              m,
              tape.0,
              (sym judged, tape.1),
              record {
                gained = subst P tape.2 ends.grew;
                end = ends.same ∙ ap (λ x. x.status) tape.2;
                sound = are-sound m (driven_by m tape.0) (step_count words);
              },
            )
        split (Err fault) judged e = absurd (let P = λ (x : Outcome). IsEnd x.status in subst P e is_end)

    -- ---- a batch
    of_batch : IsBatchOutcome held words o → Achieves command.Batch words held answer old new
    of_batch meant = split meant.2.0 meant.2.1 meant.2.2
      where
        ran_all : (m : Model) (tapes : List TapeValues) → IsModelUnder held (model_of words) m → AreFirstTapes held words m tapes → RunsAll held words m tapes o ⊎ RefusesNext held words m tapes o → Achieves command.Batch words held answer old new
        ran_all m tapes read first (inl all) =
            let P = λ (x : Outcome). Grew old x.text new in (
              m,
              tapes,
              (read, all.0, first),
              record {
                gained = subst P all.1 ends.grew;
                end = ends.same ∙ ap (λ x. x.status) all.1;
                sound = λ t k h. are-sound m (driven_by m (tape_at tapes t)) (step_count words) k;
              },
            )
        ran_all m tapes read first (inr refused) = absurd (let P = λ (x : Outcome). IsEnd x.status in subst P refused.2 is_end)

        split : (judged : Result Model ModelFault) → told judged ≡ judged_bytes (take model_cap meant.0) → IsTapesOutcomeOf held words judged o → Achieves command.Batch words held answer old new
        split (Ok m) judged e = ran_all m e.0 (meant.0, meant.1, sym judged) e.1 e.2
        split (Err fault) judged e = absurd (let P = λ (x : Outcome). IsEnd x.status in subst P e is_end)

    of_gen : o ≡ generated (seed_of words) (link_count words) → Grew old (chain_text (seed_of words) (link_count words)) new
    of_gen e = let P = λ (x : Outcome). Grew old x.text new in subst P e ends.grew

    -- ---- a check
    of_check : IsCheckOutcome held words o → IsDumpChecked words held answer old new
    of_check meant =
        let bytes = take dump_cap meant.0 in
        let found = meant.2.0 in
        let P = λ (x : Outcome). Grew old x.text new in (
          meant.0,
          found,
          meant.1,
          record {
            judged = meant.2.1;
            gained = subst P meant.2.2 ends.grew;
            end = ends.same ∙ ap (λ x. x.status) meant.2.2;
            holds = verdict-holds bytes found meant.2.1;
          },
        )

    of_command : (kind : Command) → IsCommandOutcome held kind words o → Achieves kind words held answer old new
    of_command command.Run meant = of_run meant
    of_command command.Gen meant = of_gen meant
    of_command command.Bench meant = of_bench meant
    of_command command.Batch meant = of_batch meant
    of_command command.Inverse meant = of_run meant
    of_command command.Check meant = of_check meant

  -- what ended was written whole
  ended : (Meant : Outcome → Type 0) (answer : Status) (old new : Option (List ℕ)) → IsEnd answer → Answers Meant answer old new → (o : Outcome) × Meant o × EndsWhole o old answer new
  ended Meant status.Done old new end answers = answers
  ended Meant (status.BadWords at) old new end answers = absurd end
  ended Meant (status.OutOfRange step kind index) old new end answers = answers
  ended Meant (status.BadModel fault) old new end answers = absurd end
  ended Meant (status.Rejected line reason) old new end answers = answers
  ended Meant (status.BadTape tape fault) old new end answers = absurd end
  ended Meant status.ReadFault old new end answers = absurd end
  ended Meant status.WriteFault old new end answers = absurd end
  ended Meant status.Memory old new end answers = absurd end

  -- what answers the outcome has the headline
  pub headline : (words : List (List ℕ)) (held : List ℕ → Option (List ℕ)) (answer : Status) (old new : Option (List ℕ)) → Answers (IsOutcome words held) answer old new → IsHeadline words held answer old new
  headline words held answer old new answers good end =
      let told = ended (IsOutcome words held) answer old new end answers in
      let P = λ (p : Option ℕ). IsWordsOutcome held words p told.0 in
      let Q = λ (s : Status). IsEnd s in
      of_command words held answer old new told.0 told.2 (subst Q told.2.same end) (command_of words) (subst P good told.1)

-- ---- accepted input ends
is_end-of : (end : End) → IsEnd (status_of end)
is_end-of finish.Done = tt
is_end-of (finish.OutOfRange step kind index) = tt

module _ (words : List (List ℕ)) (held : List ℕ → Option (List ℕ)) where
  -- it has an outcome that is an end
  abbrev HasEnd : Command → Type 0
  HasEnd kind = (o : Outcome) × IsCommandOutcome held kind words o × IsEnd o.status

  named-ran : (m : Model) (name : Option (List ℕ)) (tape : Option TapeValues) → IsTapeUnder held name m (step_count words) tape → with_tape_name held (wants_of words) (step_count words) m name ≡ Some (ran (wants_of words) (step_count words) m tape)
  named-ran m None tape driven = ap (λ t. Some (ran (wants_of words) (step_count words) m t)) (sym driven)
  named-ran m (Some name) tape driven =
      ap (option_map (with_tape_file (wants_of words) (step_count words) m)) driven.2
      ∙ ap (λ v. Some (with_tape (wants_of words) (step_count words) m v)) driven.3
      ∙ ap (λ t. Some (ran (wants_of words) (step_count words) m t)) (sym driven.4)

  run_end : IsAccepted command.Run words held → (o : Outcome) × IsRunOutcome held words o × IsEnd o.status
  run_end given =
      let m = given.0 in
      let tape = given.1 in
      let read = given.2.0 in (
        ran (wants_of words) (step_count words) m tape,
        (read.0, read.1, (Ok m, sym read.2, named-ran m (tape_of words) tape given.2.1)),
        is_end-of (courses.end_of (course (wants_of words) m (controls_at (length m.motors) tape)) (step_count words)),
      )

  has_end : (kind : Command) → IsAccepted kind words held → HasEnd kind ⊎ (kind ≡ command.Check)
  has_end command.Run given = inl (run_end given)
  has_end command.Gen given = inl (generated (seed_of words) (link_count words), refl, tt)
  has_end command.Bench given =
      let m = given.0 in
      let tape = given.1 in inl (
        summed (step_count words) m (Some tape),
        (Ok m, sym given.2.0, ap (with_summed_tape (step_count words) m) (sym given.2.1)),
        is_end-of (end_of m (driven_by m tape) (step_count words)),
      )
  has_end command.Batch given =
      let m = given.0 in
      let tapes = given.1 in
      let read = given.2.0 in inl (
        batched (step_count words) m tapes,
        (read.0, read.1, (Ok m, sym read.2, (tapes, given.2.2, inl (given.2.1, refl)))),
        is_end-of (batch_end m (step_count words) tapes),
      )
  has_end command.Inverse given = inl (run_end given)
  has_end command.Check given = inr refl

  -- whatever is found of a dump, its check ends
  judged_end : (found : Verdict) → IsEnd (judged_as found).status
  judged_end (verdict.Accepted blocks) = tt
  judged_end (verdict.Rejected line reason) = tt

  outcome-ends : bad_place words ≡ None → HasEnd (command_of words) ⊎ (command_of words ≡ command.Check) → (o : Outcome) → IsOutcome words held o → IsEnd o.status
  outcome-ends good (inl has) o meant =
      let same : has.0 ≡ o = outcomes-one words held has.0 o (outcome-is words held (command_of words) has.0 good refl has.1) meant in
      let R = λ (x : Outcome). IsEnd x.status in subst R same has.2
  outcome-ends good (inr check) o meant =
      let P = λ (p : Option ℕ). IsWordsOutcome held words p o in
      let Q = λ (k : Command). IsCommandOutcome held k words o in
      let R = λ (x : Outcome). IsEnd x.status in
      let found : IsCheckOutcome held words o = subst Q check (subst P good meant) in
      subst R (sym found.2.2) (judged_end found.2.0)

  pub ends-well : (tells : Bool) (answer : Status) (reads reads' : List ℕ → ℕ) (writes writes' : ℕ) → Completes words tells held answer reads reads' writes writes' → EndsWell words tells held answer reads reads' writes writes'
  ends-well tells answer reads reads' writes writes' complete good given quiet silent =
      elim (complete quiet silent) [
        | inl wanted ↦ inl wanted
        | inr is ↦
            let R = λ (s : Status). IsEnd s in
            inr (subst R (sym is.2) (outcome-ends good (has_end (command_of words) given) is.0 is.1))
      ]
