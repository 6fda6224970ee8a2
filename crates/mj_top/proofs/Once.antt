-- What is known of a model is known in one way; so a file's bytes are one model, and a command has one outcome.
use Rattle.std.proofs.Common.{◌≡◌, inl, inr, ◌⊎◌, ℕ, zero, suc, ◌+◌, ◌-◌, ◌<◌, ◌≤◌, Bool, false, ◌&&◌, ◌==◌, cond, List, length, take, Option, Some, None, option_and_then, Result, Ok, Err, refl, sym, ap, ap₂, ◌∙◌, subst, arith}
use Rattle.std.proofs.Props.{props}
use Rattle.std.proofs.lemmas.Bool.{cases_Bool, cases_eq, cases_lt}
use Rattle.std.proofs.lemmas.Bool.Decides.{nat_tests}
use Rattle.std.proofs.lemmas.List.{ext_get_or}
use mathlib.Core.HLevel.{is_prop→PathP}
use Rattle.fx_whole.proofs.SumLaws.{sum_ℕ_to-ext}
use Rattle.fx_whole.proofs.FirstLaws.{first_some}
use Rattle.fx_whole.proofs.CountLaws.{count_to-below}
use Rattle.fx_whole.specs.Counting.{count_to}
use Rattle.mj_types.specs.Lawful.{AreOptions, AreBodies, AreJoints, AreDofs, AreGeoms, AreTendons, AreMotors, AreEqualities, ArePositions, AreVelocities}
use Rattle.mj_types.specs.declared.model.Model.{Model}
use Rattle.mj_types.specs.declared.status.ModelFault.{ModelFault}
use Rattle.mj_types.specs.declared.tape.TapeFault.{TapeFault}
use Rattle.mj_tape.specs.Judging.{TapeValues, tape_verdict}
use Rattle.mj_check.specs.Verdict.{IsVerdict}
use Rattle.mj_run.specs.Batch.{no_tape, tape_at}
use Rattle.mj_valid.specs.Judging.{accepted_of, told, judged_bytes}
use Rattle.mj_words.specs.declared.table.Command.{Command}
use Rattle.mj_words.specs.declared.table.Command.TheVariants as command
use Rattle.mj_check.proofs.VerdictLaws.{verdict-one as dump_verdict-one}
use Rattle.mj_words.specs.Words.{bad_place, command_of, model_of, step_count, tape_of, tape_count, nth_tape, seed_of, link_count, dump_of, value, value_count, is_tape, is_nth}
use Rattle.mj_top.specs.Once.{AskAlike}
use Rattle.mj_top.specs.Outcome.{wants_of, Outcome, IsOutcome, IsWordsOutcome, IsCommandOutcome, IsRunOutcome, IsBenchOutcome, IsBatchOutcome, IsCheckOutcome, judged_as, dump_cap, IsTapesOutcome, IsTapesOutcomeOf, IsTapeJudged, AreFirstTapes, RunsAll, RefusesNext, with_model, bench_of, batched, kept_before, tape_room, tape_cap, model_cap, tape_refused}

-- ---- a model is what it holds
models-told : (a b : Model) → accepted_of a ≡ accepted_of b → a ≡ b
models-told a b e = λ i. record {
  format = (e i).format;
  h = (e i).h;
  gravity = (e i).gravity;
  iterations = (e i).iterations;
  tolerance = (e i).tolerance;
  njmax = (e i).njmax;
  nq = (e i).nq;
  nv = (e i).nv;
  bodies = (e i).bodies;
  joints = (e i).joints;
  dofs = (e i).dofs;
  geoms = (e i).geoms;
  tendons = (e i).tendons;
  motors = (e i).motors;
  equalities = (e i).equalities;
  qpos0 = (e i).qpos0;
  qvel0 = (e i).qvel0;
  of_options = is_prop→PathP (λ j. AreOptions (e j).h (e j).gravity (e j).iterations (e j).tolerance (e j).njmax (e j).format) (λ j. hlevel props) a.of_options b.of_options i;
  of_bodies = is_prop→PathP (λ j. AreBodies (e j).bodies) (λ j. hlevel props) a.of_bodies b.of_bodies i;
  of_joints = is_prop→PathP (λ j. AreJoints (e j).bodies (e j).joints (e j).nq (e j).nv) (λ j. hlevel props) a.of_joints b.of_joints i;
  of_dofs = is_prop→PathP (λ j. AreDofs (e j).joints (e j).dofs (e j).nv) (λ j. hlevel props) a.of_dofs b.of_dofs i;
  of_geoms = is_prop→PathP (λ j. AreGeoms (e j).bodies (e j).geoms) (λ j. hlevel props) a.of_geoms b.of_geoms i;
  of_tendons = is_prop→PathP (λ j. AreTendons (e j).joints (e j).tendons) (λ j. hlevel props) a.of_tendons b.of_tendons i;
  of_motors = is_prop→PathP (λ j. AreMotors (e j).joints (e j).tendons (e j).motors) (λ j. hlevel props) a.of_motors b.of_motors i;
  of_equalities = is_prop→PathP (λ j. AreEqualities (e j).joints (e j).equalities) (λ j. hlevel props) a.of_equalities b.of_equalities i;
  start = is_prop→PathP (λ j. ArePositions (e j).joints (e j).nq (e j).qpos0) (λ j. hlevel props) a.start b.start i;
  start_velocities = is_prop→PathP (λ j. AreVelocities (e j).nv (e j).qvel0) (λ j. hlevel props) a.start_velocities b.start_velocities i;
}

told-one : (a b : Result Model ModelFault) → told a ≡ told b → a ≡ b
told-one (Ok a) (Ok b) e = ap Ok (models-told a b (let same : accepted_of a ≡ accepted_of b = cc in same))
told-one (Ok a) (Err g) e = absurd (let none : ⊥ = cc in none)
told-one (Err f) (Ok b) e = absurd (let none : ⊥ = cc in none)
told-one (Err f) (Err g) e = ap Err (let same : f ≡ g = cc in same)

-- what bytes are judged to be
bytes-one : (x y : List ℕ) (a b : Result Model ModelFault) → x ≡ y → told a ≡ judged_bytes x → told b ≡ judged_bytes y → a ≡ b
bytes-one x y a b e p q = told-one a b (p ∙ ap judged_bytes e ∙ sym q)

some-one : {A : Type 0} (o : Option A) (x y : A) → o ≡ Some x → o ≡ Some y → x ≡ y
some-one o x y p q = cc

-- ---- the tapes of a batch
nth-named : (words : List (List ℕ)) (k : ℕ) (name : List ℕ) → nth_tape words k ≡ Some name → k < tape_count words
nth-named words k name e =
    let found = first_some (value_count words) (λ j. cond (is_nth words k j) (Some (value words j)) None) name e in
    elim (cases_Bool (is_tape words found.0)) [
      | inl sure ↦ elim (cases_eq (count_to found.0 (is_tape words)) k) [
        | inl here ↦ (let below = count_to-below found.0 (value_count words) (is_tape words) found.1 sure in omega (arith, here, below))
        | inr other ↦ absurd (let other_ : (count_to found.0 (is_tape words) == k) ≡ false = grind (arith, nat_tests) in
            let none = ap₂ (λ (s t : Bool). cond (s && t) (Some (value words found.0)) None) sure other_ in
            let wrong : None ≡ Some name = sym none ∙ found.2 in cc)
      ]
      | inr not_so ↦ absurd (let none = ap (λ (s : Bool). cond (s && (count_to found.0 (is_tape words) == k)) (Some (value words found.0)) None) not_so in
          let wrong : None ≡ Some name = sym none ∙ found.2 in cc)
    ]

and-then : (held : List ℕ → Option (List ℕ)) (o : Option (List ℕ)) (file : List ℕ) → option_and_then held o ≡ Some file → (name : List ℕ) × (o ≡ Some name)
and-then held (Some name) file e = (name, refl)
and-then held None file e = absurd cc

module _ (held : List ℕ → Option (List ℕ)) (words : List (List ℕ)) (m : Model) where
  judged-named : (a : List TapeValues) (t : ℕ) (x : Result TapeValues TapeFault) → IsTapeJudged held words m a t x → t < tape_count words
  judged-named a t x j = let n = and-then held (nth_tape words t) j.0 j.1 in nth-named words t n.0 n.1

  -- tapes that agree so far are judged alike
  verdict-one : (a b : List TapeValues) (t : ℕ) (x y : Result TapeValues TapeFault) → ((s : ℕ) → s < t → tape_at a s ≡ tape_at b s) → IsTapeJudged held words m a t x → IsTapeJudged held words m b t y → x ≡ y
  verdict-one a b t x y same p q =
      let file : p.0 ≡ q.0 = some-one (option_and_then held (nth_tape words t)) p.0 q.0 p.1 q.1 in
      let kept : kept_before a t ≡ kept_before b t = sum_ℕ_to-ext t (λ s. length (tape_at a s).values) (λ s. length (tape_at b s).values) (λ s l. ap (λ v. length v.values) (same s l)) in
      sym p.2 ∙ ap₂ (λ (room : ℕ) (bytes : List ℕ). tape_verdict (length m.motors) (step_count words) (tape_room - room) (take tape_cap bytes)) kept file ∙ q.2

  ok-one : (x y : TapeValues) (a b : Result TapeValues TapeFault) → a ≡ Ok x → b ≡ Ok y → a ≡ b → x ≡ y
  ok-one x y a b p q e = cc

  module _ (a b : List TapeValues) (p : AreFirstTapes held words m a) (q : AreFirstTapes held words m b) where
    agree : (n : ℕ) → n ≤ length a → n ≤ length b → (t : ℕ) → t < n → tape_at a t ≡ tape_at b t
    agree zero la lb t l = absurd (omega (arith, l))
    agree (suc n) la lb t l =
        let before = agree n (omega (arith, la)) (omega (arith, lb)) in
        elim (cases_eq t n) [
          | inl here ↦ (let v = verdict-one a b n (Ok (tape_at a n)) (Ok (tape_at b n)) before (p n (omega (arith, la))) (q n (omega (arith, lb))) in
              let P = λ (s : ℕ). tape_at a s ≡ tape_at b s in
              subst P (sym here) (ok-one (tape_at a n) (tape_at b n) (Ok (tape_at a n)) (Ok (tape_at b n)) refl refl v))
          | inr other ↦ before t (omega (arith, l, other))
        ]

    lists-one : length a ≡ length b → a ≡ b
    lists-one e = ext_get_or no_tape a b e (λ i l. agree (length a) (omega arith) (omega (arith, e)) i l)

    -- what is refused in one isn't accepted in the other
    no-more : (fault : TapeFault) → length a < length b → IsTapeJudged held words m a (length a) (Err fault) → ⊥
    no-more fault l j =
        let v = verdict-one a b (length a) (Err fault) (Ok (tape_at b (length a))) (agree (length a) (omega arith) (omega (arith, l))) j (q (length a) l) in
        cc

  ends-one : (a b : List TapeValues) → AreFirstTapes held words m a → AreFirstTapes held words m b → (o o' : Outcome)
      → RunsAll held words m a o ⊎ RefusesNext held words m a o → RunsAll held words m b o' ⊎ RefusesNext held words m b o' → o ≡ o'
  ends-one a b p q o o' (inl all) (inl all') =
      all.1 ∙ ap (λ (tapes : List TapeValues). batched (step_count words) m tapes) (lists-one a b p q (all.0 ∙ sym all'.0)) ∙ sym all'.1
  ends-one a b p q o o' (inl all) (inr stop) =
      absurd (let named = judged-named b (length b) (Err stop.0) stop.1 in let count = all.0 in no-more b a q p stop.0 (omega (arith, named, count)) stop.1)
  ends-one a b p q o o' (inr stop) (inl all) =
      absurd (let named = judged-named a (length a) (Err stop.0) stop.1 in let count = all.0 in no-more a b p q stop.0 (omega (arith, named, count)) stop.1)
  ends-one a b p q o o' (inr stop) (inr stop') =
      elim (cases_lt (length a) (length b)) [
        | inl l ↦ absurd (no-more a b p q stop.0 l stop.1)
        | inr ge ↦ elim (cases_lt (length b) (length a)) [
          | inl l ↦ absurd (no-more b a q p stop'.0 l stop'.1)
          | inr le ↦ (let e : length a ≡ length b = omega (arith, ge, le) in
              let P = λ (t : ℕ). IsTapeJudged held words m b t (Err stop'.0) in
              let v = verdict-one a b (length a) (Err stop.0) (Err stop'.0) (agree a b p q (length a) (omega arith) (omega (arith, e))) stop.1 (subst P (sym e) stop'.1) in
              let fault : stop.0 ≡ stop'.0 = cc in
              stop.2 ∙ ap₂ (λ (n : ℕ) (f : TapeFault). tape_refused (n + 1) f) e fault ∙ sym stop'.2)
        ]
      ]

  tapes-one : (o o' : Outcome) → IsTapesOutcome held words m o → IsTapesOutcome held words m o' → o ≡ o'
  tapes-one o o' p q = ends-one p.0 q.0 p.1 q.1 o o' p.2 q.2

module _ (held : List ℕ → Option (List ℕ)) (words : List (List ℕ)) where
  same-of : (j : Result Model ModelFault) (o o' : Outcome) → IsTapesOutcomeOf held words j o → IsTapesOutcomeOf held words j o' → o ≡ o'
  same-of (Ok m) o o' p q = tapes-one held words m o o' p q
  same-of (Err fault) o o' p q = p ∙ sym q

  batch-one : (o o' : Outcome) → IsBatchOutcome held words o → IsBatchOutcome held words o' → o ≡ o'
  batch-one o o' p q =
      let file : p.0 ≡ q.0 = some-one (held (model_of words)) p.0 q.0 p.1 q.1 in
      let judged = bytes-one (take model_cap p.0) (take model_cap q.0) p.2.0 q.2.0 (ap (take model_cap) file) p.2.1 q.2.1 in
      let P = λ (j : Result Model ModelFault). IsTapesOutcomeOf held words j o' in
      same-of p.2.0 o o' p.2.2 (subst P (sym judged) q.2.2)

  run-one : (o o' : Outcome) → IsRunOutcome held words o → IsRunOutcome held words o' → o ≡ o'
  run-one o o' p q =
      let file : p.0 ≡ q.0 = some-one (held (model_of words)) p.0 q.0 p.1 q.1 in
      let judged = bytes-one (take model_cap p.0) (take model_cap q.0) p.2.0 q.2.0 (ap (take model_cap) file) p.2.1 q.2.1 in
      some-one (with_model held (wants_of words) (step_count words) (tape_of words) q.2.0) o o'
      (ap (with_model held (wants_of words) (step_count words) (tape_of words)) (sym judged) ∙ p.2.2) q.2.2

  bench-one : (o o' : Outcome) → IsBenchOutcome (seed_of words) (link_count words) (step_count words) o → IsBenchOutcome (seed_of words) (link_count words) (step_count words) o' → o ≡ o'
  bench-one o o' p q =
      let judged = told-one p.0 q.0 (p.1 ∙ sym q.1) in
      p.2 ∙ ap (bench_of (seed_of words) (link_count words) (step_count words)) judged ∙ sym q.2

  check-one : (o o' : Outcome) → IsCheckOutcome held words o → IsCheckOutcome held words o' → o ≡ o'
  check-one o o' p q =
      let file : p.0 ≡ q.0 = some-one (held (dump_of words)) p.0 q.0 p.1 q.1 in
      let P = λ (b : List ℕ). IsVerdict (take dump_cap b) q.2.0 in
      p.2.2 ∙ ap judged_as (dump_verdict-one (take dump_cap p.0) p.2.0 q.2.0 p.2.1 (subst P (sym file) q.2.1)) ∙ sym q.2.2

  command-one : (c : Command) (o o' : Outcome) → IsCommandOutcome held c words o → IsCommandOutcome held c words o' → o ≡ o'
  command-one command.Run o o' p q = run-one o o' p q
  command-one command.Gen o o' p q = p ∙ sym q
  command-one command.Bench o o' p q = bench-one o o' p q
  command-one command.Batch o o' p q = batch-one o o' p q
  command-one command.Inverse o o' p q = run-one o o' p q
  command-one command.Check o o' p q = check-one o o' p q

  words-one : (bad : Option ℕ) (o o' : Outcome) → IsWordsOutcome held words bad o → IsWordsOutcome held words bad o' → o ≡ o'
  words-one (Some at) o o' p q = p ∙ sym q
  words-one None o o' p q = command-one (command_of words) o o' p q

pub outcomes-one : (words : List (List ℕ)) (held : List ℕ → Option (List ℕ)) (o o' : Outcome) → IsOutcome words held o → IsOutcome words held o' → o ≡ o'
outcomes-one words held o o' p q = words-one held words (bad_place words) o o' p q

-- ---- the number of workers
module _ (held : List ℕ → Option (List ℕ)) (o : Outcome) where
  to-batch : (w : List (List ℕ)) → bad_place w ≡ None → command_of w ≡ command.Batch → IsOutcome w held o → IsBatchOutcome held w o
  to-batch w good batch p =
      let P = λ (b : Option ℕ). IsWordsOutcome held w b o in
      let Q = λ (c : Command). IsCommandOutcome held c w o in
      subst Q batch (subst P good p)

  from-batch : (w : List (List ℕ)) → bad_place w ≡ None → command_of w ≡ command.Batch → IsBatchOutcome held w o → IsOutcome w held o
  from-batch w good batch p =
      let P = λ (b : Option ℕ). IsWordsOutcome held w b o in
      let Q = λ (c : Command). IsCommandOutcome held c w o in
      subst P (sym good) (subst Q (sym batch) p)

  module _ (w w' : List (List ℕ)) (same : AskAlike w w') where
    judged-alike : (m : Model) (tapes : List TapeValues) (t : ℕ) (x : Result TapeValues TapeFault) → IsTapeJudged held w m tapes t x → IsTapeJudged held w' m tapes t x
    judged-alike m tapes t x j = (
      j.0,
      sym (ap (option_and_then held) (same.tapes t)) ∙ j.1,
      sym (ap (λ (n : ℕ). tape_verdict (length m.motors) n (tape_room - kept_before tapes t) (take tape_cap j.0)) same.steps) ∙ j.2,
    )

    ends-alike : (m : Model) (tapes : List TapeValues) → RunsAll held w m tapes o ⊎ RefusesNext held w m tapes o → RunsAll held w' m tapes o ⊎ RefusesNext held w' m tapes o
    ends-alike m tapes (inl all) = inl (all.0 ∙ same.count, all.1 ∙ ap (λ (n : ℕ). batched n m tapes) same.steps)
    ends-alike m tapes (inr stop) = inr (stop.0, judged-alike m tapes (length tapes) (Err stop.0) stop.1, stop.2)

    of-alike : (j : Result Model ModelFault) → IsTapesOutcomeOf held w j o → IsTapesOutcomeOf held w' j o
    of-alike (Ok m) p = (p.0, (λ t l. judged-alike m p.0 t (Ok (tape_at p.0 t)) (p.1 t l)), ends-alike m p.0 p.2)
    of-alike (Err fault) p = p

    batch-alike : IsBatchOutcome held w o → IsBatchOutcome held w' o
    batch-alike p = (p.0, sym (ap held same.model) ∙ p.1, (p.2.0, p.2.1, of-alike p.2.0 p.2.2))

pub workers-alike : (w w' : List (List ℕ)) (held : List ℕ → Option (List ℕ)) (o : Outcome) → bad_place w ≡ None → command_of w ≡ command.Batch → bad_place w' ≡ None → command_of w' ≡ command.Batch → AskAlike w w' → IsOutcome w held o → IsOutcome w' held o
workers-alike w w' held o good batch good' batch' same p = from-batch held o w' good' batch' (batch-alike held o w w' same (to-batch held o w good batch p))
