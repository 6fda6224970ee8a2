-- Laws of counted names.
use Rattle.std.proofs.Common.{◌≡◌, ℕ, zero, suc, ◌+◌, ◌<◌, ◌≤◌, Bool, true, false, ◌&&◌, ◌==◌, cond, List, Option, Some, None, is_some, inl, inr, refl, arith, subst}
use Rattle.std.specs.Str.{bytes_eq}
use Rattle.std.proofs.lemmas.Bool.{cases_Bool, cases_eq, cond-true, cond-false}
use Rattle.std.proofs.lemmas.Bool.Decides.{nat_tests}
use Rattle.std.proofs.lemmas.Slice.Eq.{bytes_eq-Decides}
use Rattle.fx_whole.specs.Counting.{count_to}
use Rattle.fx_whole.specs.First.{or_first, first_to}

-- what is found stays, and what comes last is found at last
pub first-some : (o later : Option (List ℕ)) → is_some o ≡ true → is_some (or_first o later) ≡ true
first-some (Some x) later h = refl
first-some None later h = absurd cc

pub last-some : (o : Option (List ℕ)) (x : List ℕ) → is_some (or_first o (Some x)) ≡ true
last-some (Some y) x = refl
last-some None x = refl

-- one more is counted only where it may be
counted : (c most : ℕ) (b : Bool) → (b ≡ true → c < most) → c ≤ most → c + cond {A = ℕ} b 1 0 ≤ most
counted c most true h low = let here = h refl in omega (arith, here)
counted c most false h low = omega (arith, low)

-- where each stood before less often than it may, all together stand as often as they may
pub stand_within : (names : ℕ → List ℕ) (most : List ℕ → ℕ) (text : List ℕ) (n : ℕ)
    → ((j : ℕ) → j < n → count_to j (λ i. bytes_eq (names i) (names j)) < most (names j))
    → count_to n (λ j. bytes_eq (names j) text) ≤ most text
stand_within names most text zero h = omega arith
stand_within names most text (suc n) h =
    let P = λ (x : List ℕ). count_to n (λ i. bytes_eq (names i) x) < most x in
    counted (count_to n (λ j. bytes_eq (names j) text)) (most text) (bytes_eq (names n) text)
    (λ t. subst P ((bytes_eq-Decides (names n) text).0 t) (h n (omega arith)))
    (stand_within names most text n (λ j l. h j (omega (arith, l))))

-- of more than k places that pass, one passes after k others
pub nth-found : (p : ℕ → Bool) (values : ℕ → List ℕ) (k n : ℕ) → k < count_to n p
    → is_some (first_to n (λ j. cond (p j && (count_to j p == k)) (Some (values j)) None)) ≡ true
nth-found p values k zero h = absurd (omega (arith, h))
nth-found p values k (suc n) h =
    let find = λ (m : ℕ). first_to m (λ j. cond (p j && (count_to j p == k)) (Some (values j)) None) in
    elim (cases_Bool (p n)) [
      | inl e ↦ elim (cases_eq (count_to n p) k) [
        | inl here ↦ (let t : (count_to n p == k) ≡ true = grind (arith, nat_tests) in
            rw (e, t) (last-some (find n) (values n)))
        | inr other ↦ first-some (find n) _ (nth-found p values k n (omega (arith, h, other, cond-true {A = ℕ} (p n) 1 0 e)))
      ]
      | inr e ↦ first-some (find n) _ (nth-found p values k n (omega (arith, h, cond-false {A = ℕ} (p n) 1 0 e)))
    ]
