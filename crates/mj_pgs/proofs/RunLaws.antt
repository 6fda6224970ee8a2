-- The sweeps of a run, and how it ends.
use Rattle.std.proofs.Common.{◌≡◌, ◌≢◌, ℕ, zero, suc, ◌+◌, ◌*◌, ◌^◌, ◌<◌, ◌≤◌, Bool, true, false, cond, ℤ, pos, ◌-ℤ◌, ◌*ℤ◌, ◌≤ℤ◌, unsigned_abs, Option, Some, None, Result, Ok, Err, IsTrue, IfOk, refl, sym, ap, ap₂, ◌∙◌, subst, arith, add-one, inl, inr}
use Rattle.std.specs.Prelude.{int_le, ◌==◌}
use Rattle.std.proofs.lemmas.Bool.{eq-eqb, ne_eqb}
use lib.IntN.{*ℤ-zero}
use Rattle.fx_whole.specs.First.{first_to, or_first}
use Rattle.fx_whole.specs.Sums.{sum_ℕ_to}
use Rattle.fx_whole.proofs.FirstLaws.{first_here, first_more, or_pass, or_both, or_which}
use Rattle.fx_whole.proofs.SumLaws.{sum_ℕ_to-bounded}
use Rattle.mj_optimum.specs.Problem.{Problem}
use Rattle.mj_optimum.specs.Cost.{cost}
use Rattle.mj_optimum.specs.Feasible.{IsFeasible}
use Rattle.mj_optimum.specs.Limits.{weight_to, pull_to}
use Rattle.mj_optimum.specs.Stop.{stop_after, stop_of, or_limit}
use Rattle.mj_optimum.specs.declared.stop.Stop.{Stop}
use Rattle.mj_optimum.specs.declared.stop.Stop.TheVariants.{NoRows, Tolerance, Limit}
use Rattle.mj_optimum.specs.Sweep.{drop_of, iterate, sweep}
use Rattle.mj_optimum.proofs.SweepLaws.{iterate_more, iterate_next, iterate_costs_at_most_zero}
use Rattle.mj_optimum.proofs.Tests.{int_le_true, int_le_from}
use Rattle.mj_types.specs.declared.dual.Dual.{Dual}
use Rattle.mj_types.specs.declared.dual.Forces.{Forces}
use Rattle.mj_types.specs.declared.range.OutOfRange.{OutOfRange}
use Rattle.mj_types.specs.Problems.{IsSolvable, problem, forces, place}
use Rattle.mj_types.specs.Solved.{IsSolved}
use Rattle.mj_pgs.specs.Answer.{sweep_fault, refused, stopped, ending, or_end, answer}
use Rattle.mj_pgs.specs.Holding.{HaveSamePlaces, IsHeld}
use Rattle.mj_pgs.proofs.SweepLaws.{holds_zero, same-places}

-- after n sweeps, none of which ended the run
pub record RunSoFar (d : Dual) (tolerance : ℤ) (x y : Forces) (n : ℕ) : Type 0 where
  pub places : HaveSamePlaces x y
  pub held : IsHeld d y
  pub solved : IsSolved d y
  pub swept : forces y ≡ iterate (problem d) n
  pub passed : first_to n (ending (problem d) (place d) tolerance) ≡ None

-- ---- at the start
no_weight : (p : Problem) (n : ℕ) → weight_to p (λ _. pos 0) n ≤ 2 ^ 124
no_weight p n =
    let h = sum_ℕ_to-bounded n 0 (λ i. unsigned_abs (p.r i *ℤ (pos 0 *ℤ pos 0))) (λ i l. let e : unsigned_abs (p.r i *ℤ pos 0) ≡ 0 = ap unsigned_abs (*ℤ-zero (p.r i)) in omega arith) in
    omega (arith, h)

no_pull : (p : Problem) (n : ℕ) → pull_to p (λ _. pos 0) n ≤ 2 ^ 124
no_pull p n =
    let h = sum_ℕ_to-bounded n 0 (λ i. unsigned_abs (pos (2 ^ 37) *ℤ (p.b i *ℤ pos 0))) (λ i l. let e : unsigned_abs (pos (2 ^ 37) *ℤ (p.b i *ℤ pos 0)) ≡ 0 = ap (λ a. unsigned_abs (pos (2 ^ 37) *ℤ a)) (*ℤ-zero (p.b i)) in omega arith) in
    omega (arith, h)

zero-iterate : (p : Problem) → iterate p 0 ≡ (λ _. pos 0)
unfolding iterate
zero-iterate p = refl

pub solved-none : (d : Dual) (y : Forces) → IsHeld d y → forces y ≡ (λ _. pos 0) → IsSolved d y
solved-none d y held none =
    record {
      feasible = subst (λ (f : ℕ → ℤ). IsFeasible (problem d) f (pos 1)) (sym none) (holds_zero d held.solvable);
      reached = held.reached;
      small = held.small;
      near = held.near;
      weight = subst (λ (f : ℕ → ℤ). weight_to (problem d) f d.m ≤ 2 ^ 124) (sym none) (no_weight (problem d) d.m);
      pull = subst (λ (f : ℕ → ℤ). pull_to (problem d) f d.m ≤ 2 ^ 124) (sym none) (no_pull (problem d) d.m);
    }

pub forces-none : (d : Dual) (y : Forces) → forces y ≡ (λ _. pos 0) → forces y ≡ iterate (problem d) 0
forces-none d y none = none ∙ sym (zero-iterate (problem d))

pub run-none : (d : Dual) (tolerance : ℤ) (x y : Forces) → HaveSamePlaces x y → IsHeld d y → forces y ≡ (λ _. pos 0) → RunSoFar d tolerance x y 0
run-none d tolerance x y places held none = record { places = places; held = held; solved = solved-none d y held none; swept = forces-none d y none; passed = refl }

-- ---- one sweep
-- sweep n + 1, from the forces y to the forces z
pub record IsRound (d : Dual) (tolerance : ℤ) (x y z : Forces) (n : ℕ) (fall : ℤ) : Type 0 where
  pub so : RunSoFar d tolerance x y n
  pub swept : forces z ≡ sweep (problem d) (forces y)
  pub none : None ≡ sweep_fault (problem d) (place d) (forces y)
  pub falls : fall ≡ cost (problem d) (forces y) (pos 1) -ℤ cost (problem d) (forces z) (pos 1)

pub next-swept : (d : Dual) (tolerance : ℤ) (x y z : Forces) (n : ℕ) → RunSoFar d tolerance x y n → forces z ≡ sweep (problem d) (forces y) → forces z ≡ iterate (problem d) (n + 1)
next-swept d tolerance x y z n so swept = swept ∙ ap (sweep (problem d)) so.swept ∙ sym (iterate_more (problem d) n)

drop-is : (d : Dual) (tolerance : ℤ) (x y z : Forces) (n : ℕ) (fall : ℤ) → IsRound d tolerance x y z n fall → drop_of (problem d) n ≡ fall
drop-is d tolerance x y z n fall r =
    ap₂ (λ (f g : ℕ → ℤ). cost (problem d) f (pos 1) -ℤ cost (problem d) g (pos 1)) (sym r.so.swept) (iterate_next (problem d) n ∙ ap (sweep (problem d)) (sym r.so.swept) ∙ sym r.swept) ∙ sym r.falls

ending-is : (d : Dual) (tolerance : ℤ) (x y z : Forces) (n : ℕ) (fall : ℤ) (b : Bool) → IsRound d tolerance x y z n fall → int_le fall (tolerance *ℤ pos (2 ^ 56)) ≡ b
    → ending (problem d) (place d) tolerance n ≡ stopped (cond b (Some (Tolerance (suc n))) None)
unfolding ending
ending-is d tolerance x y z n fall b r e =
    or_pass (refused (sweep_fault (problem d) (place d) (iterate (problem d) n))) (stopped (stop_after (problem d) tolerance n))
    (ap refused (ap (λ (f : ℕ → ℤ). sweep_fault (problem d) (place d) f) (sym r.so.swept) ∙ sym r.none))
    ∙ ap (λ a. stopped (cond (int_le a (tolerance *ℤ pos (2 ^ 56))) (Some (Tolerance (suc n))) None)) (drop-is d tolerance x y z n fall r)
    ∙ ap (λ a. stopped (cond a (Some (Tolerance (suc n))) None)) e

pub run-more : (d : Dual) (tolerance : ℤ) (x y z : Forces) (n : ℕ) (fall : ℤ) → IsRound d tolerance x y z n fall → HaveSamePlaces y z → IsHeld d z → IsSolved d z → (fall ≤ℤ (tolerance *ℤ pos (2 ^ 56)) → IsTrue false)
    → RunSoFar d tolerance x z (n + 1)
run-more d tolerance x y z n fall r places held solved past =
    record {
      places = same-places x y z r.so.places places;
      held = held;
      solved = solved;
      swept = next-swept d tolerance x y z n r.so r.swept;
      passed = first_more n (ending (problem d) (place d) tolerance) ∙ or_pass (first_to n (ending (problem d) (place d) tolerance)) (ending (problem d) (place d) tolerance n) r.so.passed ∙ ending-is d tolerance x y z n fall false r (not_yet (int_le fall (tolerance *ℤ pos (2 ^ 56))) refl);
    }
  where
    not_yet : (b : Bool) → int_le fall (tolerance *ℤ pos (2 ^ 56)) ≡ b → int_le fall (tolerance *ℤ pos (2 ^ 56)) ≡ false
    not_yet true e = let f : false ≡ true = past (int_le_true fall (tolerance *ℤ pos (2 ^ 56)) e) in cc
    not_yet false e = e

-- ---- the answer
some_rows : (p : Problem) (place : ℕ → ℕ) (tolerance : ℤ) (limit : ℕ) → p.m ≢ 0 → answer p place tolerance limit ≡ or_end (first_to limit (ending p place tolerance)) (Ok (Limit limit))
unfolding answer
some_rows p place tolerance limit h = ap (λ b. cond b (Ok NoRows) (or_end (first_to limit (ending p place tolerance)) (Ok (Limit limit)))) (ne_eqb p.m 0 h)

pub run-without_rows : (d : Dual) (tolerance : ℤ) (limit : ℕ) → d.m ≡ 0 → Ok NoRows ≡ answer (problem d) (place d) tolerance limit
unfolding answer
run-without_rows d tolerance limit e = sym (ap (λ b. cond b (Ok NoRows) (or_end (first_to limit (ending (problem d) (place d) tolerance)) (Ok (Limit limit)))) (eq-eqb d.m 0 e))

pub run-stops : (d : Dual) (tolerance : ℤ) (x y z : Forces) (n limit : ℕ) (fall : ℤ) → d.m ≢ 0 → n < limit → IsRound d tolerance x y z n fall → fall ≤ℤ (tolerance *ℤ pos (2 ^ 56)) → Ok (Tolerance (n + 1)) ≡ answer (problem d) (place d) tolerance limit
run-stops d tolerance x y z n limit fall some h r le =
    ap (λ a. Ok (Tolerance a)) (add-one n)
    ∙ sym (some_rows (problem d) (place d) tolerance limit some
    ∙ ap (λ a. or_end a (Ok (Limit limit))) (first_here n limit (ending (problem d) (place d) tolerance) (Ok (Tolerance (suc n))) h r.so.passed (ending-is d tolerance x y z n fall true r (int_le_from fall (tolerance *ℤ pos (2 ^ 56)) le))))

pub run-refused : (d : Dual) (tolerance : ℤ) (x y : Forces) (n limit : ℕ) (e : OutOfRange) → d.m ≢ 0 → n < limit → RunSoFar d tolerance x y n → Some e ≡ sweep_fault (problem d) (place d) (forces y) → Err e ≡ answer (problem d) (place d) tolerance limit
unfolding ending
run-refused d tolerance x y n limit e some h so fault =
    let here : ending (problem d) (place d) tolerance n ≡ Some (Err e) = ap (λ a. or_first (refused a) (stopped (stop_after (problem d) tolerance n))) (ap (λ (f : ℕ → ℤ). sweep_fault (problem d) (place d) f) (sym so.swept) ∙ sym fault) in
    sym (some_rows (problem d) (place d) tolerance limit some ∙ ap (λ a. or_end a (Ok (Limit limit))) (first_here n limit (ending (problem d) (place d) tolerance) (Err e) h so.passed here))

pub run-limit : (d : Dual) (tolerance : ℤ) (x y : Forces) (n limit : ℕ) → d.m ≢ 0 → n ≡ limit → RunSoFar d tolerance x y n → Ok (Limit limit) ≡ answer (problem d) (place d) tolerance limit
run-limit d tolerance x y n limit some e so =
    sym (some_rows (problem d) (place d) tolerance limit some ∙ ap (λ a. or_end a (Ok (Limit limit))) (ap (λ (k : ℕ). first_to k (ending (problem d) (place d) tolerance)) (sym e) ∙ so.passed))

-- ---- a stop is the stop of the sweeps
stop-here : (p : Problem) (place : ℕ → ℕ) (tolerance : ℤ) (n : ℕ) (stop : Stop) → ending p place tolerance n ≡ Some (Ok stop) → stop_after p tolerance n ≡ Some stop
unfolding ending
stop-here p place tolerance n stop = pick (sweep_fault p place (iterate p n)) (stop_after p tolerance n)
  where
    pick : (a : Option OutOfRange) (b : Option Stop) → or_first (refused a) (stopped b) ≡ Some (Ok stop) → b ≡ Some stop
    pick None None e = cc
    pick None (Some s) e = cc
    pick (Some f) b e = cc

none-here : (p : Problem) (place : ℕ → ℕ) (tolerance : ℤ) (n : ℕ) → ending p place tolerance n ≡ None → stop_after p tolerance n ≡ None
unfolding ending
none-here p place tolerance n = pick (sweep_fault p place (iterate p n)) (stop_after p tolerance n)
  where
    pick : (a : Option OutOfRange) (b : Option Stop) → or_first (refused a) (stopped b) ≡ None → b ≡ None
    pick None None e = refl
    pick None (Some s) e = cc
    pick (Some f) b e = cc

none-before : (p : Problem) (place : ℕ → ℕ) (tolerance : ℤ) (n : ℕ) → first_to n (ending p place tolerance) ≡ None → first_to n (stop_after p tolerance) ≡ None
none-before p place tolerance zero e = refl
none-before p place tolerance (suc n) e =
    let both = or_both (first_to n (ending p place tolerance)) (ending p place tolerance n) e in
    or_pass (first_to n (stop_after p tolerance)) (stop_after p tolerance n) (none-before p place tolerance n both.0) ∙ none-here p place tolerance n both.1

stop-first : (p : Problem) (place : ℕ → ℕ) (tolerance : ℤ) (n : ℕ) (stop : Stop) → first_to n (ending p place tolerance) ≡ Some (Ok stop) → first_to n (stop_after p tolerance) ≡ Some stop
stop-first p place tolerance zero stop e = cc
stop-first p place tolerance (suc n) stop e =
    elim (or_which (first_to n (ending p place tolerance)) (ending p place tolerance n) (Ok stop) e) [
      | inl a ↦ ap (λ x. or_first x (stop_after p tolerance n)) (stop-first p place tolerance n stop a)
      | inr a ↦ or_pass (first_to n (stop_after p tolerance)) (stop_after p tolerance n) (none-before p place tolerance n a.0) ∙ stop-here p place tolerance n stop a.1
    ]

pub stop-is : (p : Problem) (place : ℕ → ℕ) (tolerance : ℤ) (limit : ℕ) (r : Result Stop OutOfRange) → r ≡ answer p place tolerance limit → IfOk r (λ stop. stop ≡ stop_of p tolerance limit)
unfolding answer
stop-is p place tolerance limit (Err e) h = tt
stop-is p place tolerance limit (Ok stop) h = by_rows (p.m == 0) h
  where
    by_end : (a : Option (Result Stop OutOfRange)) → first_to limit (ending p place tolerance) ≡ a → Ok stop ≡ or_end a (Ok (Limit limit)) → stop ≡ or_limit (first_to limit (stop_after p tolerance)) limit
    by_end None e h = let l : stop ≡ Limit limit = cc in l ∙ sym (ap (λ x. or_limit x limit) (none-before p place tolerance limit e))
    by_end (Some (Ok s)) e h = let l : stop ≡ s = cc in l ∙ sym (ap (λ x. or_limit x limit) (stop-first p place tolerance limit s e))
    by_end (Some (Err f)) e h = cc

    by_rows : (b : Bool) → Ok stop ≡ cond b (Ok NoRows) (or_end (first_to limit (ending p place tolerance)) (Ok (Limit limit))) → stop ≡ cond b NoRows (or_limit (first_to limit (stop_after p tolerance)) limit)
    by_rows true h = cc
    by_rows false h = by_end (first_to limit (ending p place tolerance)) refl h

-- ---- what every iterate has
pub if_ok_each : {A E : Type 0} → (r : Result A E) (P : A → Type 0) → ((x : A) → P x) → IfOk r P
if_ok_each (Ok x) P h = h x
if_ok_each (Err e) P h = tt

pub if_ok_map : {A E : Type 0} → (r : Result A E) (P Q : A → Type 0) → ((x : A) → P x → Q x) → IfOk r P → IfOk r Q
if_ok_map (Ok x) P Q h p = h x p
if_ok_map (Err e) P Q h p = tt

pub costs-nothing : (d : Dual) (f : ℕ → ℤ) (n : ℕ) → IsSolvable d → f ≡ iterate (problem d) n → cost (problem d) f (pos 1) ≤ℤ pos 0
costs-nothing d f n solvable e = subst (λ (g : ℕ → ℤ). cost (problem d) g (pos 1) ≤ℤ pos 0) (sym e) (iterate_costs_at_most_zero (problem d) n (holds_zero d solvable))
