-- A numeral is read as its parts say.
use Rattle.std.proofs.Common.{◌≡◌, ◌⊎◌, ℕ, suc, ◌+◌, ◌<◌, ◌≤◌, List, [], ◌∷◌, ◌++◌, Bool, true, false, not, ◌&&◌, cond, eqb, ltb, Option, Some, None, IfSome, Result, Err, length, ℤ, pos, ◌-ℤ◌, refl, sym, ◌∙◌, ap, inl, inr, arith, append_assoc}
use Rattle.std.specs.List.{list_all}
use Rattle.std.proofs.lemmas.List.{append-nil}
use Rattle.std.proofs.lemmas.List.Sums.{fold-append, sum_by-append, sum_by-cons}
use Rattle.std.proofs.lemmas.Bool.Decides.{nat_tests}
use Rattle.fx_text.specs.Numeral.{kind_of, completes, is_numeral, next, where_next, may_end}
use Rattle.fx_text.specs.Decimal.{is_digit, is_point, is_mark, before, after, with_byte, number, digit_count, is_negative, apply_sign, mantissa, fraction, exponent, scale_decimal, in_range}
use Rattle.fx_text.specs.Parts.{Sign, unsigned, plus, minus, Exponent, sign_text, fraction_text, exponent_text, text_of, behind_point, AreDigits, IsExponent, is_minus, power_of, NumeralsAreRead}
use Rattle.fx_text.specs.declared.numeral.Kind.{Kind}
use Rattle.fx_text.specs.declared.numeral.Kind.TheVariants as kind
use Rattle.fx_text.specs.declared.numeral.Place.{Place}
use Rattle.fx_text.specs.declared.numeral.Place.TheVariants as place
use Rattle.fx_text.specs.declared.decimal.DecimalFault.{DecimalFault}
use Rattle.fx_text.specs.declared.decimal.DecimalFault.TheVariants.{TooLong}
use Rattle.fx_text.proofs.Sizes.{number_from, ones}
use Rattle.fx_text.proofs.Faults.{decimal-value}

both : (a b : Bool) → a && b ≡ true → (a ≡ true) × (b ≡ true)
both true b h = (refl, h)
both false b h = absurd cc

-- ---- bytes of which none is of a kind

abbrev Free : (Kind → Bool) → List ℕ → Type 0
Free test bytes = list_all (λ b. not (test (kind_of b))) bytes ≡ true

not-true : (b : Bool) → not b ≡ true → b ≡ false
not-true true h = absurd cc
not-true false h = refl

free-append : (test : Kind → Bool) (xs ys : List ℕ) → Free test xs → Free test ys → Free test (xs ++ ys)
free-append test [] ys h k = k
free-append test (b ∷ xs) ys h k =
    let p = both (not (test (kind_of b))) (list_all (λ c. not (test (kind_of c))) xs) h in rw p.0 (free-append test xs ys p.1 k)

before-free : (test : Kind → Bool) (xs ys : List ℕ) → Free test xs → before test (xs ++ ys) ≡ xs ++ before test ys
before-free test [] ys h = refl
before-free test (b ∷ xs) ys h =
    let p = both _ _ h in
    let e : test (kind_of b) ≡ false = not-true _ p.0 in
    rw e (ap (λ (zs : List ℕ). b ∷ zs) (before-free test xs ys p.1))

after-free : (test : Kind → Bool) (xs ys : List ℕ) → Free test xs → after test (xs ++ ys) ≡ after test ys
after-free test [] ys h = refl
after-free test (b ∷ xs) ys h =
    let p = both _ _ h in
    let e : test (kind_of b) ≡ false = not-true _ p.0 in
    rw e (after-free test xs ys p.1)

digit-mark : (k : Kind) → is_digit k ≡ true → not (is_mark k) ≡ true
digit-mark (kind.Digit d) h = refl
digit-mark kind.Sign h = refl
digit-mark kind.Point h = refl
digit-mark kind.Mark h = absurd cc
digit-mark kind.Other h = refl

digit-point : (k : Kind) → is_digit k ≡ true → not (is_point k) ≡ true
digit-point (kind.Digit d) h = refl
digit-point kind.Sign h = refl
digit-point kind.Point h = absurd cc
digit-point kind.Mark h = refl
digit-point kind.Other h = refl

digits-free : (test : Kind → Bool) → ((k : Kind) → is_digit k ≡ true → not (test k) ≡ true) → (xs : List ℕ) → AreDigits xs → Free test xs
digits-free test f [] h = refl
digits-free test f (b ∷ xs) h =
    let p = both _ _ h in rw (f (kind_of b) p.0) (digits-free test f xs p.1)

sign-free_of_marks : (s : Sign) → Free is_mark (sign_text s)
sign-free_of_marks unsigned = refl
sign-free_of_marks plus = refl
sign-free_of_marks minus = refl

sign-free_of_points : (s : Sign) → Free is_point (sign_text s)
sign-free_of_points unsigned = refl
sign-free_of_points plus = refl
sign-free_of_points minus = refl

fraction-free : (f : Option (List ℕ)) → AreDigits (behind_point f) → Free is_mark (fraction_text f)
fraction-free None h = refl
fraction-free (Some digits) h = digits-free is_mark digit-mark digits h

-- ---- counts and numbers

digits-count : (xs : List ℕ) → AreDigits xs → digit_count xs ≡ length xs
digits-count [] h = refl
digits-count (b ∷ xs) h =
    let p = both (is_digit (kind_of b)) (list_all (λ c. is_digit (kind_of c)) xs) h in
    let e : ones b ≡ 1 = rw p.0 refl in
    rw sum_by-cons (omega (arith, e, digits-count xs p.1))

sign-count : (s : Sign) → digit_count (sign_text s) ≡ 0
sign-count unsigned = refl
sign-count plus = refl
sign-count minus = refl

fraction-count : (f : Option (List ℕ)) → AreDigits (behind_point f) → digit_count (fraction_text f) ≡ length (behind_point f)
fraction-count None h = refl
fraction-count (Some digits) h = rw sum_by-cons (omega (arith, digits-count digits h))

sign-number : (s : Sign) (n : ℕ) → number_from n (sign_text s) ≡ n
sign-number unsigned n = refl
sign-number plus n = refl
sign-number minus n = refl

fraction-number : (f : Option (List ℕ)) (n : ℕ) → number_from n (fraction_text f) ≡ number_from n (behind_point f)
fraction-number None n = refl
fraction-number (Some digits) n = refl

abbrev step : ℕ → ℕ → ℕ
step m b = with_byte m (kind_of b)

number-append : (n : ℕ) (xs ys : List ℕ) → number_from n (xs ++ ys) ≡ number_from (number_from n xs) ys
number-append n xs ys = fold-append step n xs ys

counted : (whole f : List ℕ) (n : ℕ) → AreDigits whole → digit_count f ≡ n → 0 + digit_count (whole ++ f) ≡ length whole + n
counted whole f n h e = omega (arith, sum_by-append ones whole f, digits-count whole h, e)

-- ---- the exponent

exponent-before : (e : Option Exponent) → IfSome e IsExponent → before is_mark (exponent_text e) ≡ []
exponent-before None h = refl
exponent-before (Some e) h = elim h.mark as (λ _. before is_mark (exponent_text (Some e)) ≡ []) [ inl m ↦ rw m refl | inr m ↦ rw m refl ]

digit-not_minus : (b : ℕ) → is_digit (kind_of b) ≡ true → eqb b 45 ≡ false
digit-not_minus b h = grind (arith, nat_tests)

sign-negative : (s : Sign) (digits : List ℕ) → AreDigits digits → is_negative (sign_text s ++ digits) ≡ is_minus s
sign-negative unsigned [] h = refl
sign-negative unsigned (b ∷ bs) h = digit-not_minus b (both _ _ h).0
sign-negative plus digits h = refl
sign-negative minus digits h = refl

exponent-part : (e : Exponent) → IsExponent e → after is_mark (exponent_text (Some e)) ≡ sign_text e.sign ++ e.digits
exponent-part e h = elim h.mark as (λ _. after is_mark (exponent_text (Some e)) ≡ sign_text e.sign ++ e.digits) [ inl m ↦ rw m refl | inr m ↦ rw m refl ]

abbrev power_in : List ℕ → ℤ
power_in part = apply_sign (is_negative part) (number part)

exponent-after : (e : Option Exponent) → IfSome e IsExponent → power_in (after is_mark (exponent_text e)) ≡ power_of e
exponent-after None h = refl
exponent-after (Some e) h =
    let n : number (sign_text e.sign ++ e.digits) ≡ number e.digits = number-append 0 (sign_text e.sign) e.digits ∙ ap (λ m. number_from m e.digits) (sign-number e.sign 0) in
    ap power_in (exponent-part e h) ∙ ap (λ b. apply_sign b (number (sign_text e.sign ++ e.digits))) (sign-negative e.sign e.digits h.digits) ∙ ap (apply_sign (is_minus e.sign)) n

-- ---- the grammar

digit-is : (k : Kind) → is_digit k ≡ true → (d : ℕ) × (k ≡ kind.Digit d)
digit-is (kind.Digit d) h = (d, refl)
digit-is kind.Sign h = absurd cc
digit-is kind.Point h = absurd cc
digit-is kind.Mark h = absurd cc
digit-is kind.Other h = absurd cc

-- a digit leads to a place, and the rest from there on
run-digit : (p q : Place) (b : ℕ) (rest : List ℕ) → ((d : ℕ) → next p (kind.Digit d) ≡ Some q) → is_digit (kind_of b) ≡ true → completes p (b ∷ rest) ≡ completes q rest
run-digit p q b rest f h =
    let d = digit-is (kind_of b) h in
    ap (λ k. where_next (next p k) false (λ x. completes x rest)) d.1 ∙ ap (λ o. where_next o false (λ x. completes x rest)) (f d.0)

run-digits : (p : Place) → ((d : ℕ) → next p (kind.Digit d) ≡ Some p) → (xs ys : List ℕ) → AreDigits xs → completes p (xs ++ ys) ≡ completes p ys
run-digits p f [] ys h = refl
run-digits p f (b ∷ xs) ys h = let e = both _ _ h in run-digit p p b (xs ++ ys) f e.0 ∙ run-digits p f xs ys e.1

one_or_two : (p : Place) → ((d : ℕ) → next p (kind.Digit d) ≡ Some place.OneDigit) → (xs : List ℕ) → AreDigits xs → 0 < length xs → length xs ≤ 2 → completes p xs ≡ true
one_or_two p f [] h l m = absurd (omega arith)
one_or_two p f (b ∷ []) h l m = run-digit p place.OneDigit b [] f (both _ _ h).0
one_or_two p f (b ∷ c ∷ []) h l m =
    let e = both _ _ h in
    run-digit p place.OneDigit b (c ∷ []) f e.0 ∙ run-digit place.OneDigit place.TwoDigits c [] (λ _. refl) (both _ _ e.1).0
one_or_two p f (b ∷ c ∷ d ∷ xs) h l m = absurd (omega arith)

marked-run : (s : Sign) (digits : List ℕ) → AreDigits digits → 0 < length digits → length digits ≤ 2 → completes place.Marked (sign_text s ++ digits) ≡ true
marked-run unsigned digits h l m = one_or_two place.Marked (λ _. refl) digits h l m
marked-run plus digits h l m = one_or_two place.MarkSigned (λ _. refl) digits h l m
marked-run minus digits h l m = one_or_two place.MarkSigned (λ _. refl) digits h l m

mark-run : (p : Place) (b : ℕ) (rest : List ℕ) → next p kind.Mark ≡ Some place.Marked → (b ≡ 69) ⊎ (b ≡ 101) → completes p (b ∷ rest) ≡ completes place.Marked rest
mark-run p b rest f (inl m) = rw m (ap (λ o. where_next o false (λ x. completes x rest)) f)
mark-run p b rest f (inr m) = rw m (ap (λ o. where_next o false (λ x. completes x rest)) f)

exponent-run : (p : Place) → may_end p ≡ true → next p kind.Mark ≡ Some place.Marked → (e : Option Exponent) → IfSome e IsExponent → completes p (exponent_text e) ≡ true
exponent-run p l f None h = l
exponent-run p l f (Some e) h = mark-run p e.mark (sign_text e.sign ++ e.digits) f h.mark ∙ marked-run e.sign e.digits h.digits h.some h.few

fraction-run : (f : Option (List ℕ)) (e : Option Exponent) → AreDigits (behind_point f) → IfSome e IsExponent → completes place.Whole (fraction_text f ++ exponent_text e) ≡ true
fraction-run None e h k = exponent-run place.Whole refl refl e k
fraction-run (Some digits) e h k = run-digits place.Fraction (λ _. refl) digits (exponent_text e) h ∙ exponent-run place.Fraction refl refl e k

body-run : (p : Place) → ((d : ℕ) → next p (kind.Digit d) ≡ Some place.Whole) → next p kind.Point ≡ Some place.BarePoint
    → (whole : List ℕ) (f : Option (List ℕ)) (e : Option Exponent) → AreDigits whole → AreDigits (behind_point f) → 0 < length whole + length (behind_point f) → IfSome e IsExponent
    → completes p (whole ++ (fraction_text f ++ exponent_text e)) ≡ true
body-run p d o (b ∷ whole) f e hw hf l k =
    let h = both _ _ hw in
    run-digit p place.Whole b _ d h.0 ∙ run-digits place.Whole (λ _. refl) whole _ h.1 ∙ fraction-run f e hf k
body-run p d o [] None e hw hf l k = absurd (omega arith)
body-run p d o [] (Some []) e hw hf l k = absurd (omega arith)
body-run p d o [] (Some (c ∷ cs)) e hw hf l k =
    let h = both _ _ hf in
    ap (λ x. where_next x false (λ q. completes q (c ∷ (cs ++ exponent_text e)))) o
    ∙ run-digit place.BarePoint place.Fraction c _ (λ _. refl) h.0 ∙ run-digits place.Fraction (λ _. refl) cs _ h.1 ∙ exponent-run place.Fraction refl refl e k

sign-run : (s : Sign) (whole : List ℕ) (f : Option (List ℕ)) (e : Option Exponent) → AreDigits whole → AreDigits (behind_point f) → 0 < length whole + length (behind_point f) → IfSome e IsExponent
    → is_numeral (sign_text s ++ (whole ++ (fraction_text f ++ exponent_text e))) ≡ true
sign-run unsigned whole f e hw hf l k = body-run place.Start (λ _. refl) refl whole f e hw hf l k
sign-run plus whole f e hw hf l k = body-run place.Signed (λ _. refl) refl whole f e hw hf l k
sign-run minus whole f e hw hf l k = body-run place.Signed (λ _. refl) refl whole f e hw hf l k

-- ---- the whole

body-negative : (whole : List ℕ) (f : Option (List ℕ)) (rest : List ℕ) → AreDigits whole → 0 < length whole + length (behind_point f) → is_negative (whole ++ (fraction_text f ++ rest)) ≡ false
body-negative (b ∷ whole) f rest h l = digit-not_minus b (both _ _ h).0
body-negative [] None rest h l = absurd (omega arith)
body-negative [] (Some digits) rest h l = refl

text-negative : (s : Sign) (whole : List ℕ) (f : Option (List ℕ)) (rest : List ℕ) → AreDigits whole → 0 < length whole + length (behind_point f) → is_negative (sign_text s ++ (whole ++ (fraction_text f ++ rest))) ≡ is_minus s
text-negative unsigned whole f rest h l = body-negative whole f rest h l
text-negative plus whole f rest h l = refl
text-negative minus whole f rest h l = refl

fraction-after : (f : Option (List ℕ)) → after is_point (fraction_text f) ≡ behind_point f
fraction-after None = refl
fraction-after (Some digits) = refl

not_empty : (n : ℕ) → eqb (suc n) 0 ≡ false
not_empty n = grind (arith, nat_tests)

numeral-some : (text : List ℕ) → is_numeral text ≡ true → eqb (length text) 0 ≡ false
numeral-some [] h = absurd cc
numeral-some (b ∷ bs) h = not_empty (length bs)

-- what is answered from the readings
abbrev verdict : ℕ → ℕ → ℕ → ℕ → ℤ → Bool → Result ℤ DecimalFault
verdict F count n places power negative = cond (ltb 26 count) (Err TooLong) (in_range (apply_sign negative (scale_decimal F n (pos places -ℤ power))))

same : (F c c' n n' k k' : ℕ) (e e' : ℤ) (b b' : Bool) → c ≡ c' → n ≡ n' → k ≡ k' → e ≡ e' → b ≡ b' → verdict F c n k e b ≡ verdict F c' n' k' e' b'
same F c c' n n' k k' e e' b b' hc hn hk he hb = rw (hc, hn, hk, he, hb) refl

pub numerals_are_read : NumeralsAreRead
numerals_are_read F p h =
    let text : List ℕ = text_of p in
    let s : List ℕ = sign_text p.sign in
    let f : List ℕ = fraction_text p.fraction in
    let x : List ℕ = exponent_text p.exponent in
    let behind : List ℕ = behind_point p.fraction in
    let prefix : List ℕ = s ++ (p.whole ++ f) in
    let numeral : is_numeral text ≡ true = sign-run p.sign p.whole p.fraction p.exponent h.whole h.fraction h.some h.exponent in
    let regrouped : text ≡ prefix ++ x = ap (λ (ys : List ℕ). s ++ ys) (sym (append_assoc p.whole f x)) ∙ sym (append_assoc s (p.whole ++ f) x) in
    let marks : Free is_mark prefix = free-append is_mark s (p.whole ++ f) (sign-free_of_marks p.sign) (free-append is_mark p.whole f (digits-free is_mark digit-mark p.whole h.whole) (fraction-free p.fraction h.fraction)) in
    let m : mantissa text ≡ prefix = ap (before is_mark) regrouped ∙ before-free is_mark prefix x marks ∙ ap (λ (ys : List ℕ). prefix ++ ys) (exponent-before p.exponent h.exponent) ∙ append-nil prefix in
    let count : digit_count (mantissa text) ≡ length p.whole + length behind =
    ap digit_count m ∙ sum_by-append ones s (p.whole ++ f) ∙ ap (λ k. k + digit_count (p.whole ++ f)) (sign-count p.sign) ∙ counted p.whole f (length behind) h.whole (fraction-count p.fraction h.fraction)
    in
    let n : number (mantissa text) ≡ number (p.whole ++ behind) =
    ap number m ∙ number-append 0 s (p.whole ++ f) ∙ ap (λ k. number_from k (p.whole ++ f)) (sign-number p.sign 0)
    ∙ number-append 0 p.whole f ∙ fraction-number p.fraction (number p.whole) ∙ sym (number-append 0 p.whole behind)
    in
    let fr : fraction text ≡ behind = ap (after is_point) m ∙ after-free is_point s (p.whole ++ f) (sign-free_of_points p.sign) ∙ after-free is_point p.whole f (digits-free is_point digit-point p.whole h.whole) ∙ fraction-after p.fraction in
    let places : digit_count (fraction text) ≡ length behind = ap digit_count fr ∙ digits-count behind h.fraction in
    let power : exponent text ≡ power_of p.exponent = ap (λ (ys : List ℕ). power_in (after is_mark ys)) regrouped ∙ ap power_in (after-free is_mark prefix x marks) ∙ exponent-after p.exponent h.exponent in
    let negative : is_negative text ≡ is_minus p.sign = text-negative p.sign p.whole p.fraction x h.whole h.some in
    decimal-value F text (numeral-some text numeral) (rw numeral refl) ∙ same F _ _ _ _ _ _ _ _ _ _ count n places power negative
