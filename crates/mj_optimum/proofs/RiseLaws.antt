-- The laws of `least_to`, which would stand in fx_whole, and of `rise`.
use Rattle.std.proofs.Common.{◌≡◌, ℕ, zero, suc, ◌+◌, ◌-◌, ◌*◌, ◌≤◌, ◌↔◌, ℤ, pos, ◌+ℤ◌, ◌*ℤ◌, ◌<ℤ◌, ◌≤ℤ◌, unsigned_abs, Bool, true, false, cond, refl, sym, ◌∙◌, subst, arith, inl, inr, le_antisymm}
use Rattle.std.specs.Prelude.{int_le}
use Rattle.std.proofs.lemmas.Int.{ints}
use Rattle.std.proofs.lemmas.Bool.{cases_lt, true≢false, and_parts, and_from}
use Rattle.fx_whole.specs.Least.{IsLeast}
use Rattle.fx_whole.proofs.Ring.{ring, mul_nonneg, mul_mono, square_nonneg, pos_one-*ℤ}
use Rattle.mj_optimum.specs.Box.{HasRisen, has_risen, least_to, rise}
use Rattle.mj_optimum.proofs.Tests.{int_le_true, int_le_from}

-- ---- the search
pub least_to_below : (n : ℕ) (test : ℕ → Bool) → least_to n test ≤ n
least_to_below zero test = omega arith
least_to_below (suc n) test = pick (test (least_to n test)) (least_to_below n test)
  where
    pick : (b : Bool) → least_to n test ≤ n → cond b (least_to n test) (suc n) ≤ suc n
    pick true h = omega arith
    pick false h = omega arith

-- where a number up to n passes the test, the least that does is found
pub least_to_is_least : (n : ℕ) (test : ℕ → Bool) (k : ℕ) → k ≤ n → test k ≡ true → IsLeast (λ j. test j ≡ true) (least_to n test)
least_to_is_least zero test k h e =
    let z : k ≡ 0 = omega arith in
    record { holds = subst (λ (x : ℕ). test x ≡ true) z e; least = λ j q. omega arith }
least_to_is_least (suc n) test k h e = pick (λ j l q. least_to_is_least n test j l q) (test (least_to n test)) refl
  where
    before : ((j : ℕ) → j ≤ n → test j ≡ true → IsLeast (λ j. test j ≡ true) (least_to n test)) → test (least_to n test) ≡ false → (j : ℕ) → test j ≡ true → suc n ≤ j
    before found f j q = elim (cases_lt n j) [ inl l ↦ l | inr l ↦ absurd (true≢false (sym (found j l q).holds ∙ f)) ]

    pick : ((j : ℕ) → j ≤ n → test j ≡ true → IsLeast (λ j. test j ≡ true) (least_to n test)) → (b : Bool) → test (least_to n test) ≡ b
        → IsLeast (λ j. test j ≡ true) (cond b (least_to n test) (suc n))
    pick found true f =
        record {
          holds = f;
          least = λ j q. elim (cases_lt n j) [ inl l ↦ omega (arith, least_to_below n test) | inr l ↦ (found j l q).least j q ];
        }
    pick found false f =
        let same : k ≡ suc n = le_antisymm h (before found f k e) in
        record { holds = subst (λ (x : ℕ). test x ≡ true) same e; least = before found f }

-- ---- the test
pub has_risen_from : (g r t : ℤ) (k : ℕ) → HasRisen g r t k → has_risen g r t k ≡ true
has_risen_from g r t k h =
    and_from (int_le (pos 0) (r *ℤ pos k +ℤ g)) (int_le t (pos k *ℤ (pos 2 *ℤ g +ℤ r *ℤ pos k))) (int_le_from (pos 0) (r *ℤ pos k +ℤ g) h.past) (int_le_from t (pos k *ℤ (pos 2 *ℤ g +ℤ r *ℤ pos k)) h.high)

pub has_risen_is : (g r t : ℤ) (k : ℕ) → has_risen g r t k ≡ true → HasRisen g r t k
has_risen_is g r t k e =
    let parts = and_parts (int_le (pos 0) (r *ℤ pos k +ℤ g)) (int_le t (pos k *ℤ (pos 2 *ℤ g +ℤ r *ℤ pos k))) e in
    record { past = int_le_true (pos 0) (r *ℤ pos k +ℤ g) parts.0; high = int_le_true t (pos k *ℤ (pos 2 *ℤ g +ℤ r *ℤ pos k)) parts.1 }

-- it passes from there on
further_ring : (g r k c : ℤ) → (k +ℤ c) *ℤ (pos 2 *ℤ g +ℤ r *ℤ (k +ℤ c)) ≡ k *ℤ (pos 2 *ℤ g +ℤ r *ℤ k) +ℤ pos 2 *ℤ (c *ℤ (r *ℤ k +ℤ g)) +ℤ r *ℤ (c *ℤ c)
further_ring g r k c = simp ring (omega (arith, ints))

further : (g r t : ℤ) (k c : ℕ) → pos 0 <ℤ r → HasRisen g r t k → HasRisen g r t (k + c)
further g r t k c hr h =
    let more : pos 0 ≤ℤ (r *ℤ pos c) = mul_nonneg r (pos c) (omega (arith, ints)) (omega (arith, ints)) in
    let slope : pos 0 ≤ℤ (pos c *ℤ (r *ℤ pos k +ℤ g)) = mul_nonneg (pos c) (r *ℤ pos k +ℤ g) (omega (arith, ints)) h.past in
    let bend : pos 0 ≤ℤ (r *ℤ (pos c *ℤ pos c)) = mul_nonneg r (pos c *ℤ pos c) (omega (arith, ints)) (square_nonneg (pos c)) in
    record {
      past = steeper (r *ℤ pos k) (r *ℤ pos c) (r *ℤ (pos k +ℤ pos c)) g more (ring_step r (pos k) (pos c)) h.past;
      high = higher t (pos k *ℤ (pos 2 *ℤ g +ℤ r *ℤ pos k)) (pos c *ℤ (r *ℤ pos k +ℤ g)) (r *ℤ (pos c *ℤ pos c)) ((pos k +ℤ pos c) *ℤ (pos 2 *ℤ g +ℤ r *ℤ (pos k +ℤ pos c))) h.high slope bend (further_ring g r (pos k) (pos c));
    }
  where
    ring_step : (r k c : ℤ) → r *ℤ (k +ℤ c) ≡ r *ℤ k +ℤ r *ℤ c
    ring_step r k c = simp ring (omega (arith, ints))

    steeper : (x y z g : ℤ) → pos 0 ≤ℤ y → z ≡ x +ℤ y → pos 0 ≤ℤ (x +ℤ g) → pos 0 ≤ℤ (z +ℤ g)
    steeper x y z g h e l = omega (arith, ints)

    higher : (t x y z w : ℤ) → t ≤ℤ x → pos 0 ≤ℤ y → pos 0 ≤ℤ z → w ≡ x +ℤ pos 2 *ℤ y +ℤ z → t ≤ℤ w
    higher t x y z w h i j e = omega (arith, ints)

pub risen_stays : (g r t : ℤ) (k j : ℕ) → pos 0 <ℤ r → k ≤ j → HasRisen g r t k → HasRisen g r t j
risen_stays g r t k j hr l h =
    let e : k + (j - k) ≡ j = omega arith in
    subst (λ (x : ℕ). HasRisen g r t x) e (further g r t k (j - k) hr h)

-- and at the search's end
risen_at_last : (g r t : ℤ) → pos 0 <ℤ r → HasRisen g r t (2 * unsigned_abs g + unsigned_abs t + 1)
risen_at_last g r t hr =
    let k : ℕ = 2 * unsigned_abs g + unsigned_abs t + 1 in
    let wide : (pos 1 *ℤ pos k) ≤ℤ (r *ℤ pos k) = mul_mono (pos 1) r (pos k) (omega (arith, ints)) (omega (arith, ints)) in
    let w : pos k ≤ℤ (r *ℤ pos k) = rw pos_one-*ℤ at wide in
    let steep : pos (unsigned_abs t) ≤ℤ (pos 2 *ℤ g +ℤ r *ℤ pos k) = lifted g t (r *ℤ pos k) k refl w in
    let up : (pos 1 *ℤ (pos 2 *ℤ g +ℤ r *ℤ pos k)) ≤ℤ (pos k *ℤ (pos 2 *ℤ g +ℤ r *ℤ pos k)) = mul_mono (pos 1) (pos k) (pos 2 *ℤ g +ℤ r *ℤ pos k) (omega (arith, ints)) (omega (arith, ints)) in
    let u : (pos 2 *ℤ g +ℤ r *ℤ pos k) ≤ℤ (pos k *ℤ (pos 2 *ℤ g +ℤ r *ℤ pos k)) = rw pos_one-*ℤ at up in
    record { past = over g t (r *ℤ pos k) k refl w; high = above t (pos 2 *ℤ g +ℤ r *ℤ pos k) (pos k *ℤ (pos 2 *ℤ g +ℤ r *ℤ pos k)) steep u }
  where
    lifted : (g t x : ℤ) (k : ℕ) → k ≡ 2 * unsigned_abs g + unsigned_abs t + 1 → pos k ≤ℤ x → pos (unsigned_abs t) ≤ℤ (pos 2 *ℤ g +ℤ x)
    lifted g t x k e h = omega (arith, ints)

    over : (g t x : ℤ) (k : ℕ) → k ≡ 2 * unsigned_abs g + unsigned_abs t + 1 → pos k ≤ℤ x → pos 0 ≤ℤ (x +ℤ g)
    over g t x k e h = omega (arith, ints)

    above : (t x y : ℤ) → pos (unsigned_abs t) ≤ℤ x → x ≤ℤ y → t ≤ℤ y
    above t x y h l = omega (arith, ints)

-- ---- the rise
pub rise_is_least : (g r t : ℤ) → pos 0 <ℤ r → IsLeast (HasRisen g r t) (rise g r t)
unfolding rise
rise_is_least g r t hr =
    let last : ℕ = 2 * unsigned_abs g + unsigned_abs t + 1 in
    let found = least_to_is_least last (has_risen g r t) last (omega arith) (has_risen_from g r t last (risen_at_last g r t hr)) in
    record { holds = has_risen_is g r t (rise g r t) found.holds; least = λ k h. found.least k (has_risen_from g r t k h) }

pub rise_at_most : (g r t : ℤ) (k : ℕ) → pos 0 <ℤ r → (rise g r t ≤ k) ↔ HasRisen g r t k
rise_at_most g r t k hr = (λ l. risen_stays g r t (rise g r t) k hr l (rise_is_least g r t hr).holds, (rise_is_least g r t hr).least k)

-- ---- at numbers, where the search is too long to run
pub rise_is_zero : (g r t : ℤ) → pos 0 <ℤ r → has_risen g r t 0 ≡ true → rise g r t ≡ 0
rise_is_zero g r t hr e = let l : rise g r t ≤ 0 = (rise_at_most g r t 0 hr).1 (has_risen_is g r t 0 e) in omega arith

pub rise_is : (g r t : ℤ) (k : ℕ) → pos 0 <ℤ r → has_risen g r t k ≡ false → has_risen g r t (suc k) ≡ true → rise g r t ≡ suc k
rise_is g r t k hr n e =
    let le : rise g r t ≤ suc k = (rise_at_most g r t (suc k) hr).1 (has_risen_is g r t (suc k) e) in
    elim (cases_lt k (rise g r t)) [
      | inl l ↦ le_antisymm le l
      | inr l ↦ absurd (true≢false (sym (has_risen_from g r t k ((rise_at_most g r t k hr).0 l)) ∙ n))
    ]
