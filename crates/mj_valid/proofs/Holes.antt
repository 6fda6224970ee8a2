-- Different numbers below n are at most n.
use Rattle.std.proofs.Common.{◌≡◌, ◌≢◌, ℕ, zero, suc, ◌+◌, ◌<◌, ◌≤◌, ◌==◌, ◌||◌, Bool, true, false, cond, refl, sym, ap, ◌∙◌, arith, inl, inr}
use Rattle.std.proofs.lemmas.Bool.{cases_eq, eq-eqb, ne_eqb, cond-true, cond-false}
use Rattle.fx_whole.specs.Counting.{count_to}
use Rattle.fx_whole.proofs.CountLaws.{count_to-ext, count_to-size}

-- some number below m goes to v
abbrev hit : ℕ → (ℕ → ℕ) → ℕ → Bool
hit zero g v = false
hit (suc m) g v = hit m g v || g m == v

not_hit : (m : ℕ) (g : ℕ → ℕ) (v : ℕ) → ((i : ℕ) → i < m → g i ≢ v) → hit m g v ≡ false
not_hit zero g v h = refl
not_hit (suc m) g v h = rw (not_hit m g v (λ i l. h i (omega arith)), ne_eqb (g m) v (h m (omega arith)))

or_false : (a b : Bool) → b ≡ false → (a || b) ≡ a
or_false true b h = refl
or_false false b h = h

or_second : (a b : Bool) → b ≡ true → (a || b) ≡ true
or_second true b h = refl
or_second false b h = h

one_more : (n a : ℕ) (p : ℕ → Bool) → a < n → p a ≡ false → count_to n (λ v. p v || a == v) ≡ count_to n p + 1
one_more zero a p l h = absurd (omega arith)
one_more (suc n) a p l h =
    elim (cases_eq a n) [
      | inl e ↦ (let before : count_to n (λ v. p v || a == v) ≡ count_to n p = count_to-ext n (λ v. p v || a == v) p (λ v m. or_false (p v) (a == v) (ne_eqb a v (λ q. omega (arith, q, e, m)))) in
          let new : cond {A = ℕ} (p n || a == n) 1 0 ≡ 1 = cond-true {A = ℕ} (p n || a == n) 1 0 (or_second (p n) (a == n) (eq-eqb a n e)) in
          let old : cond {A = ℕ} (p n) 1 0 ≡ 0 = cond-false {A = ℕ} (p n) 1 0 (ap p (sym e) ∙ h) in
          omega (arith, before, new, old))
      | inr ne ↦ (let before = one_more n a p (omega arith) h in
          let same : cond {A = ℕ} (p n || a == n) 1 0 ≡ cond {A = ℕ} (p n) 1 0 = ap (λ b. cond {A = ℕ} b 1 0) (or_false (p n) (a == n) (ne_eqb a n ne)) in
          omega (arith, before, same))
    ]

none_hit : (n : ℕ) → count_to n (λ v. false) ≡ 0
none_hit zero = refl
none_hit (suc n) = omega (arith, none_hit n)

hits : (m n : ℕ) (g : ℕ → ℕ) → ((i : ℕ) → i < m → g i < n) → ((i k : ℕ) → i < k → k < m → g i ≢ g k) → count_to n (hit m g) ≡ m
hits zero n g below apart = none_hit n
hits (suc m) n g below apart =
    omega (
      arith,
      one_more n (g m) (hit m g) (below m (omega arith)) (not_hit m g (g m) (λ i l. apart i m l (omega arith))),
      hits m n g (λ i l. below i (omega arith)) (λ i k l q. apart i k l (omega arith)),
    )

pub few_apart : (m n : ℕ) (g : ℕ → ℕ) → ((i : ℕ) → i < m → g i < n) → ((i k : ℕ) → i < k → k < m → g i ≢ g k) → m ≤ n
few_apart m n g below apart = omega (arith, hits m n g below apart, count_to-size n (hit m g))
