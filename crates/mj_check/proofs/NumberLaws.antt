-- What the judgement of a block's numbers means, and how lists of numbers are read.
use Rattle.std.proofs.Common.{◌≡◌, ℕ, ◌<◌, ◌+◌, ◌*◌, ◌^◌, ◌≤◌, zero, suc, ℤ, pos, ◌*ℤ◌, int_le, Bool, true, false, ◌&&◌, is_none, Option, Some, None, unsigned_abs, List, ◌++◌, lit≤, refl, sym, ap, ◌∙◌, subst, arith, add-one, append_assoc, inl, inr}
use Rattle.std.proofs.lemmas.Bool.{cases_eq}
use Rattle.std.proofs.lemmas.Int.{ints}
use Rattle.fx_whole.specs.First.{first_to}
use Rattle.fx_whole.specs.Sums.{sum_to}
use Rattle.fx_whole.proofs.FirstLaws.{or_both, first_none}
use Rattle.fx_whole.proofs.JoinedLaws.{joined-none, joined-more, joined-ext}
use Rattle.fx_whole.proofs.Ring.{pos_one-*ℤ}
use Rattle.fx_num.specs.declared.number.Number.{Number}
use Rattle.fx_num.specs.declared.number.Wide.{Wide}
use Rattle.fx_text.specs.Raw.{IsWide}
use Rattle.mj_optimum.specs.Problem.{Problem, IsRegular}
use Rattle.mj_optimum.specs.Cost.{cost}
use Rattle.mj_optimum.specs.Feasible.{IsFeasible, IsAbove, IsBelow}
use Rattle.mj_optimum.specs.Shortfall.{bound2}
use Rattle.mj_optimum.specs.Box as ends
use Rattle.mj_optimum.specs.Enclosure.{BoundHolds}
use Rattle.mj_optimum.proofs.BoundLaws.{bound_holds}
use Rattle.mj_optimum.proofs.BoxLaws.{box_holds}
use Rattle.mj_types.specs.declared.dual.Dual.{Dual}
use Rattle.mj_types.specs.declared.verdict.Reason.{Reason}
use Rattle.mj_types.specs.declared.verdict.Reason.TheVariants as reason
use Rattle.mj_types.specs.Duals.{entry_at}
use Rattle.mj_types.specs.Parts.{number_at}
use Rattle.mj_cert.proofs.SolvedLaws.{products-fit, Fits}
use Rattle.mj_trace.specs.Lines.{spaced, numbers_text}
use Rattle.mj_reading.specs.Reading.{Ahead, Read, Is, IsRaw, NoNumber}
use Rattle.mj_reading.proofs.ReadingLaws.{read-as, read-same, read-then}
use Rattle.mj_check.specs.Lines.{Agree, AreWide}
use Rattle.mj_check.specs.Numbers.{unless, is_above, is_below, is_feasible, is_same, numbers_out, Printed, Promise, force_fault, box_fault, numbers_fault, row_line}

-- ---- a test that was passed
passed : (b : Bool) (line : ℕ) (why : Reason) → unless b line why ≡ None → b ≡ true
passed true line why e = refl
passed false line why e = cc

both : (a b : Bool) → a && b ≡ true → (a ≡ true) × (b ≡ true)
both true b h = (refl, h)
both false b h = cc

above : (low : Option ℤ) (f : ℤ) → is_above low f ≡ true → IsAbove low f (pos 1)
above None f h = tt
above (Some low) f h = rw pos_one-*ℤ (grind (arith, ints))

below : (high : Option ℤ) (f : ℤ) → is_below high f ≡ true → IsBelow high f (pos 1)
below None f h = tt
below (Some high) f h = rw pos_one-*ℤ (grind (arith, ints))

same : (a b : ℤ) → is_same a b ≡ true → a ≡ b
same a b h = let t = both (int_le a b) (int_le b a) h in grind (arith, ints)

feasible-at : (p : Problem) (f : ℕ → ℤ) → ((i : ℕ) → i < p.m → is_feasible p f i ≡ true) → IsFeasible p f (pos 1)
feasible-at p f h = record {
  above = λ i l. above (p.low i) (f i) (both _ _ (h i l)).0;
  below = λ i l. below (p.high i) (f i) (both (is_above (p.low i) (f i)) _ (h i l)).1;
}

-- no fault of a force
pub feasible-none : (p : Problem) (f : ℕ → ℤ) (line : ℕ → ℕ) → first_to p.m (force_fault p f line) ≡ None → IsFeasible p f (pos 1)
feasible-none p f line e = feasible-at p f (λ i l. passed (is_feasible p f i) (line i) reason.Feasible ((first_none p.m (force_fault p f line)).0 e i l))

-- ---- numbers without a fault keep the promise
pub accepted_numbers_hold : (p : Problem) (place : ℕ → ℕ) (x : Printed) (first cost_line : ℕ) → IsRegular p → numbers_fault p place x first cost_line ≡ None → Promise p x
accepted_numbers_hold p place x first cost_line regular e =
    let line : ℕ → ℕ = row_line first place in
    let a = or_both (first_to p.m (force_fault p x.f line)) _ e in
    let b = or_both (unless (is_none (numbers_out p place x.f)) cost_line reason.Limit) _ a.1 in
    let c = or_both (unless (is_same x.cost (cost p x.f (pos 1))) cost_line reason.Cost) _ b.1 in
    let d = or_both (unless (is_same x.bound (bound2 p x.f)) cost_line reason.Bound) (first_to p.m (box_fault p x line)) c.1 in
    let boxed = (first_none p.m (box_fault p x line)).0 d.1 in
    let bound = same x.bound (bound2 p x.f) (passed _ cost_line reason.Bound d.0) in
    record {
      feasible = feasible-none p x.f line a.0;
      bound = subst (BoundHolds p) (sym bound) (bound_holds p x.f regular);
      box = λ n q pos_q feasible no_more i l.
          let w = box_holds p x.f regular n q pos_q feasible no_more i l in
          let s = both (is_same (x.lo i) (ends.lo p x.f i)) (is_same (x.hi i) (ends.hi p x.f i)) (passed _ (line i) reason.Box (boxed i l)) in
          let lo = same (x.lo i) (ends.lo p x.f i) s.0 in
          let hi = same (x.hi i) (ends.hi p x.f i) s.1 in
          record { above = rw lo w.above; below = rw hi w.below };
    }

-- ---- the sums of u are within their type
pub reach-fits : (d : Dual) (f : List (Number (Unit {0}) 20)) (k i : ℕ) → k < d.nv → i < d.m → ((j : ℕ) → j < d.m → unsigned_abs (number_at f j) ≤ 2 ^ 50)
    → Fits (unsigned_abs (sum_to i (λ j. entry_at d.nv d.g j k *ℤ number_at f j)) + unsigned_abs (entry_at d.nv d.g i k) * unsigned_abs (number_at f i))
reach-fits d f k i h l small =
    products-fit i (2 ^ 44) (2 ^ 50) (λ j. entry_at d.nv d.g j k) (number_at f) (omega (arith, d.rows.few_rows)) (lit≤ tt) (λ j q. d.rows.reduced j k (omega arith) h) (λ j q. small j (omega arith))

-- ---- a list of numbers
pub read-none : (from : Ahead) (f : ℕ → ℤ) → Read (Agree 0) (AreWide 0) (numbers_text 0) NoNumber from f from
read-none from f = record {
  stays = λ s. s;
  found = λ g. ap (λ y. y ++ from.rest) (sym (joined-none (λ i. spaced (f i))));
  good = λ g k l. absurd (omega arith);
  only = λ g w behind h b r. (g, r ∙ ap (λ y. y ++ behind) (joined-none (λ i. spaced (w i))), λ k l. absurd (omega arith));
}

agree-more : (P : ℕ → Type 0) (i : ℕ) → ((k : ℕ) → k < i → P k) → P i → (k : ℕ) → k < i + 1 → P k
agree-more P i h x k l = elim (cases_eq k i) [ inl e ↦ subst P (sym e) x | inr n ↦ h k (omega arith) ]

pub read-more : (i : ℕ) (f x : ℕ → ℤ) (n : Wide 0) {from mid to : Ahead} → Read (Agree i) (AreWide i) (numbers_text i) NoNumber from f mid → Read Is IsRaw (λ y. spaced y.raw) NoNumber mid n to → ((k : ℕ) → k < i → x k ≡ f k) → x i ≡ n.raw → Read (Agree (i + 1)) (AreWide (i + 1)) (numbers_text (i + 1)) NoNumber from x to
read-more i f x n p q same here =
    let p' = read-same x (joined-ext i (λ k. spaced (f k)) (λ k. spaced (x k)) (λ k l. ap spaced (sym (same k l)))) (λ g k l. subst IsWide (sym (same k l)) (g k l)) (λ w s k l. same k l ∙ s k l) p in
    let r = read-then (λ _ y. IsRaw y) p' q (λ w behind b. refl) (λ w y s g. g) in
    read-as (λ (w : ℕ → ℤ). (w, record { raw = w i })) x (λ j. (x, record { raw = here j }))
    (λ w. joined-more i (λ k. spaced (w k)))
    (λ w g. (λ k l. g k (omega arith), g i (omega arith)))
    (λ y. agree-more (λ k. IsWide (x k)) i y.0 y.1)
    (λ w s. agree-more (λ k. x k ≡ w k) i s.0 (ap (λ y. y.raw) s.1)) r

-- a list of numbers begins with a space, or with what is behind it
pub none-before : (n : ℕ) (f : ℕ → ℤ) (behind : List ℕ) → NoNumber behind → NoNumber (numbers_text n f ++ behind)
none-before zero f behind b = subst (λ (y : List ℕ). NoNumber (y ++ behind)) (sym (joined-none (λ i. spaced (f i)))) b
none-before (suc n) f behind b =
    let e : numbers_text (suc n) f ++ behind ≡ numbers_text n f ++ (spaced (f n) ++ behind) =
    ap (λ (k : ℕ). numbers_text k f ++ behind) (sym (add-one n)) ∙ ap (λ y. y ++ behind) (joined-more n (λ i. spaced (f i))) ∙ append_assoc (numbers_text n f) (spaced (f n)) behind in
    subst NoNumber (sym e) (none-before n f (spaced (f n) ++ behind) refl)
