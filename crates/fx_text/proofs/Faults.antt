-- What is read, by the fault that is found.
use Rattle.std.proofs.Common.{◌≡◌, ℕ, zero, suc, ◌-◌, leb, ltb, ◌<◌, ◌≤◌, ◌^◌, min, List, [], ◌∷◌, Bool, true, false, cond, Some, None, Result, Err, length, ℤ, ◌==◌, refl, sym, ◌∙◌, ⊎_elim, arith}
use Rattle.std.proofs.lemmas.Bool.{cases_lt}
use Rattle.std.proofs.lemmas.Bool.Decides.{nat_tests}
use Rattle.fx_text.specs.Numeral.{is_numeral, prefix_length}
use Rattle.fx_text.specs.Decimal.{decimal, value, in_range, apply_sign}
use Rattle.fx_text.specs.declared.decimal.DecimalFault.{DecimalFault}
use Rattle.fx_text.specs.declared.decimal.DecimalFault.TheVariants.{Empty, BadByte, TooLong, Range}

not_empty : (n : ℕ) → (suc n == 0) ≡ true → ⊥
not_empty n h = grind (arith, nat_tests)

pub decimal-none : (F : ℕ) (text : List ℕ) → (length text == 0) ≡ true → decimal F text ≡ Err Empty
unfolding decimal
decimal-none F [] h = refl
decimal-none F (b ∷ bs) h = absurd (not_empty (length bs) h)

-- a text that isn't empty is refused where it is no numeral
bad-cases : (t : Bool) (v : Result ℤ DecimalFault) (n at : ℕ) → Some at ≡ cond t None (Some n) → cond t v (Err (BadByte n)) ≡ Err (BadByte at)
bad-cases true v n at h = absurd cc
bad-cases false v n at h = cc

value-cases : (t : Bool) (v : Result ℤ DecimalFault) (n : ℕ) → None ≡ cond t None (Some n) → cond t v (Err (BadByte n)) ≡ v
value-cases true v n h = refl
value-cases false v n h = absurd cc

pub decimal-bad : (F : ℕ) (text : List ℕ) (at : ℕ) → (length text == 0) ≡ false → Some at ≡ cond (is_numeral text) None (Some (prefix_length text)) → decimal F text ≡ Err (BadByte at)
unfolding decimal
decimal-bad F [] at h k = absurd cc
decimal-bad F (b ∷ bs) at h k = bad-cases (is_numeral (b ∷ bs)) (value F (b ∷ bs)) (prefix_length (b ∷ bs)) at k

pub decimal-value : (F : ℕ) (text : List ℕ) → (length text == 0) ≡ false → None ≡ cond (is_numeral text) None (Some (prefix_length text)) → decimal F text ≡ value F text
unfolding decimal
decimal-value F [] h k = absurd cc
decimal-value F (b ∷ bs) h k = value-cases (is_numeral (b ∷ bs)) (value F (b ∷ bs)) (prefix_length (b ∷ bs)) k

above-test : (m n : ℕ) → n < m → leb m n ≡ false
above-test m n h = grind (arith, nat_tests)

above : (negative : Bool) (size : ℕ) → 2 ^ 64 ≤ size → in_range (apply_sign negative size) ≡ Err Range
above true zero h = absurd (omega arith)
above true (suc m) h = let e : leb m (2 ^ 63 - 1) ≡ false = above-test m (2 ^ 63 - 1) (omega arith) in rw e refl
above false size h = let e : leb size (2 ^ 63 - 1) ≡ false = above-test size (2 ^ 63 - 1) (omega arith) in rw e refl

-- a size that is cut beyond the range is out of range all the same
pub in_range-cut : (negative : Bool) (size cut : ℕ) → cut ≡ min size (2 ^ 64) → in_range (apply_sign negative cut) ≡ in_range (apply_sign negative size)
in_range-cut negative size cut h =
    ⊎_elim
    (λ k. let e : cut ≡ size = omega arith in rw e refl)
    (λ k. let c : 2 ^ 64 ≤ cut = omega arith in above negative cut c ∙ sym (above negative size k))
    (cases_lt size (2 ^ 64))

pub few_digits : (count : ℕ) (v : Result ℤ DecimalFault) → count ≤ 26 → cond (ltb 26 count) (Err TooLong) v ≡ v
few_digits count v h = let e : ltb 26 count ≡ false = grind (arith, nat_tests) in rw e refl
