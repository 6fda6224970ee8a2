-- Digits without a zero before them are the decimal text of the number that they write.
use Rattle.std.proofs.Common.{◌≡◌, ◌≢◌, ℕ, zero, suc, ◌+◌, ◌-◌, ◌*◌, ◌/◌, ◌%◌, ◌^◌, ◌<◌, ◌≤◌, Option, Some, None, ℤ, pos, negsuc, List, [], ◌∷◌, ◌++◌, length, get_or, take, drop, min, refl, sym, subst, ap, ◌∙◌, arith, decimal, append_assoc, length-append, rules}
use Rattle.std.proofs.lemmas.List.{append-nil, take_all}
use Rattle.std.specs.Fmt.{signed_decimal}
use Rattle.std.proofs.Math.ListN.{get_or-append}
use Rattle.std.specs.Str.Parse.{AllDigits, digits_value_after, digits_value}
use Rattle.std.specs.Char.{digit_value}
use Rattle.std.specs.Int.{IsInRange}
use Rattle.std.proofs.lemmas.Str.{digit_value_digit}
use Rattle.std.proofs.lemmas.Str.Parse.{IsNumeralModel, numerals_by_value, tells_by_index, digit_from_value, digit_at, digits_value_short}
use Rattle.std.proofs.lemmas.Bool.Decides.{nat_tests}
use Rattle.fx_text.specs.Raw.{IsNaturalRead, IsRead, IsWide}
use Rattle.std.proofs.lemmas.Int.Digits.{digits_value_more}
use Rattle.std.proofs.lemmas.Fmt.{decimal_is_IsNumeral_wide, decimal_digit, decimal_step_wide, decimal_by_steps_wide}

-- each byte is a digit
abbrev pub AreDigits : List ℕ → Type 0
AreDigits ds = (i : ℕ) → i < length ds → IsInRange 48 57 (get_or ds i 0)

pub own : IsNumeralModel AreDigits (digits_value 10)
own = numerals_by_value _ tells_by_index

le_value_after : (n : ℕ) (ds : List ℕ) → n ≤ digits_value_after 10 n ds
le_value_after n [] = omega arith
le_value_after n (c ∷ cs) = omega (arith, le_value_after (n * 10 + digit_value c) cs)

decimal_after : (n : ℕ) (ds : List ℕ) → 0 < n → AllDigits 10 ds → digits_value_after 10 n ds < 10 ^ 64 → decimal (digits_value_after 10 n ds) ≡ decimal n ++ ds
decimal_after n [] some d small = sym (append-nil (decimal n))
decimal_after n (c ∷ cs) some d small =
    let m : ℕ = n * 10 + digit_value c in
    let k = digit_value_digit c (digit_from_value c d.0) in
    let front : m / 10 ≡ n = omega (arith, d.0) in
    let end : 48 + m % 10 ≡ c = omega (arith, d.0) in
    decimal_after m cs (omega arith) d.1 small
    ∙ ap (λ x. x ++ cs) (decimal_step_wide m (omega arith) (omega (arith, le_value_after m cs)) ∙ (λ i. decimal (front i) ++ (end i ∷ [])))
    ∙ append_assoc (decimal n) (c ∷ []) cs

decimal_all : (ds : List ℕ) → AllDigits 10 ds → 0 < length ds → (get_or ds 0 0 ≡ 48 → length ds ≡ 1) → digits_value 10 ds < 10 ^ 64 → decimal (digits_value 10 ds) ≡ ds
decimal_all [] d some lead small = absurd (omega arith)
decimal_all (c ∷ []) d some lead small =
    let k = digit_value_digit c (digit_from_value c d.0) in
    decimal_digit (0 * 10 + digit_value c) (omega (arith, d.0)) ∙ ap (λ x. x ∷ []) (omega arith)
decimal_all (c ∷ e ∷ cs) d some lead small =
    let k = digit_value_digit c (digit_from_value c d.0) in
    let no : c ≡ 48 → ⊥ = λ z. omega (arith, lead z) in
    let is : 48 + (0 * 10 + digit_value c) ≡ c = omega arith in
    decimal_after (0 * 10 + digit_value c) (e ∷ cs) (omega arith) d.1 small
    ∙ ap (λ x. x ++ (e ∷ cs)) (decimal_digit (0 * 10 + digit_value c) (omega (arith, d.0)) ∙ ap (λ x. x ∷ []) is)

-- digits, of which a zero leads nothing
pub decimal-value : (ds : List ℕ) → AreDigits ds → 0 < length ds → (get_or ds 0 0 ≡ 48 → length ds ≡ 1) → digits_value 10 ds < 10 ^ 64 → decimal (digits_value 10 ds) ≡ ds
decimal-value ds d some lead small = decimal_all ds (own.to ds d) some lead small

-- the text of a number: digits, of which a zero leads nothing, that write the number
pub decimal-digits : (n : ℕ) → n < 10 ^ 64 → AreDigits (decimal n)
decimal-digits n h = own.from (decimal n) (decimal_is_IsNumeral_wide n h).0.1

pub decimal-some : (n : ℕ) → n < 10 ^ 64 → 0 < length (decimal n)
decimal-some n h = (decimal_is_IsNumeral_wide n h).0.0

pub value-decimal : (n : ℕ) → n < 10 ^ 64 → digits_value 10 (decimal n) ≡ n
value-decimal n h = (decimal_is_IsNumeral_wide n h).1

-- what is told of the text of m: it has a byte, and begins with a zero only where m is below ten
pub record BeginsWell (m : ℕ) (ds : List ℕ) : Type 0 where
  some : 0 < length ds
  lead : 0 < m → 48 < get_or ds 0 0

begins-one : (m : ℕ) → m < 10 → BeginsWell m ((48 + m) ∷ [])
begins-one m l = record { some = omega arith; lead = λ a. omega arith }

begins-more : (m : ℕ) (ds : List ℕ) → 10 ≤ m → BeginsWell (m / 10) ds → BeginsWell m (ds ++ ((48 + m % 10) ∷ []))
begins-more m ds l h = record {
  some = omega (arith, length-append ds ((48 + m % 10) ∷ []));
  lead = λ a. omega (arith, get_or-append ds ((48 + m % 10) ∷ []) 0 0 h.some, h.lead (omega arith));
}

pub decimal-lead : (n : ℕ) → n < 10 ^ 64 → get_or (decimal n) 0 0 ≡ 48 → length (decimal n) ≡ 1
decimal-lead zero small e = ap length (decimal_digit 0 (omega arith))
decimal-lead (suc n) small e = absurd (omega (arith, (decimal_by_steps_wide BeginsWell begins-one begins-more (suc n) small).lead (omega arith)))

-- ---- reading
-- nothing is a number's text where a fact of all such texts fails
pub none-reads : (most : ℕ) (text : List ℕ) → most < 2 ^ 128 → ((n : ℕ) → n < 10 ^ 64 → text ≡ decimal n → ⊥) → IsNaturalRead most text None
none-reads most text m never = record { told = tt; few = tt; only = λ n l e. absurd (never n (omega arith) e) }

pub none-begins : (text : List ℕ) → (0 < length text → (get_or text 0 0 ≡ 48 → length text ≡ 1) → ⊥) → (n : ℕ) → n < 10 ^ 64 → text ≡ decimal n → ⊥
none-begins text never n l e =
    let s : 0 < length text = subst (λ (t : List ℕ). 0 < length t) (sym e) (decimal-some n l) in
    let z : get_or text 0 0 ≡ 48 → length text ≡ 1 = subst (λ (t : List ℕ). get_or t 0 0 ≡ 48 → length t ≡ 1) (sym e) (decimal-lead n l) in
    never s z

pub none-digits : (text : List ℕ) (i : ℕ) → i < length text → (IsInRange 48 57 (get_or text i 0) → ⊥) → (n : ℕ) → n < 10 ^ 64 → text ≡ decimal n → ⊥
none-digits text i l never n m e = never (subst AreDigits (sym e) (decimal-digits n m) i l)

-- digits were read whole
value-read : (text : List ℕ) (n : ℕ) → n < 10 ^ 64 → text ≡ decimal n → digits_value 10 text ≡ n
value-read text n l e = ap (digits_value 10) e ∙ value-decimal n l

pub natural-read : (most n : ℕ) (text : List ℕ) → most < 2 ^ 128 - 1 → AreDigits text → 0 < length text → (get_or text 0 0 ≡ 48 → length text ≡ 1) → n ≡ min (digits_value 10 text) (2 ^ 128 - 1) → n ≤ most → IsNaturalRead most text (Some n)
natural-read most n text m d some lead e l =
    let same : digits_value 10 text ≡ n = omega arith in
    record {
      told = sym (subst (λ k. decimal k ≡ text) same (decimal-value text d some lead (omega arith)));
      few = l;
      only = λ k b t. let v = value-read text k (omega arith) t in ap Some (sym same ∙ v);
    }

pub none-large : (most n : ℕ) (text : List ℕ) → most < 2 ^ 128 - 1 → n ≡ min (digits_value 10 text) (2 ^ 128 - 1) → most < n → IsNaturalRead most text None
none-large most n text m e l = record {
  told = tt;
  few = tt;
  only = λ k b t. let v = value-read text k (omega arith) t in absurd (omega arith);
}

-- a digit more
pub value-more : (text : List ℕ) (i n m c : ℕ) → i < length text → c ≡ get_or text i 0 → IsInRange 48 57 c → n ≡ min (digits_value 10 (take i text)) (2 ^ 128 - 1) → m ≡ min (min (10 * n) (2 ^ 128 - 1) + (c - 48)) (2 ^ 128 - 1) → m ≡ min (digits_value 10 (take (i + 1) text)) (2 ^ 128 - 1)
value-more text i n m c l b d e f =
    let k = digit_value_digit c d in
    let v = digits_value_more 10 text i l in
    let w : digits_value 10 (take (i + 1) text) ≡ digits_value 10 (take i text) * 10 + digit_value c = v ∙ ap (λ x. digits_value 10 (take i text) * 10 + digit_value x) (sym b) in
    omega arith

pub digits-more : (text : List ℕ) (i j : ℕ) → ((k : ℕ) → k < i → IsInRange 48 57 (get_or text k 0)) → IsInRange 48 57 (get_or text i 0) → j < i + 1 → IsInRange 48 57 (get_or text j 0)
digits-more text i j h d l = grind (arith, nat_tests)

pub all-value : (text : List ℕ) (i n : ℕ) → length text ≤ i → n ≡ min (digits_value 10 (take i text)) (2 ^ 128 - 1) → n ≡ min (digits_value 10 text) (2 ^ 128 - 1)
all-value text i n l e = e ∙ ap (λ (t : List ℕ). min (digits_value 10 t) (2 ^ 128 - 1)) (take_all i text l)

-- ---- behind a minus
decimal-plain : (n : ℕ) (ds : List ℕ) → n < 10 ^ 64 → 45 ∷ ds ≡ decimal n → ⊥
decimal-plain n ds h e = omega (arith, (subst AreDigits (sym e) (decimal-digits n h)) 0 (omega arith))

below-text : (digits : List ℕ) (n : ℤ) → IsWide n → 45 ∷ digits ≡ signed_decimal n → (k : ℕ) × (n ≡ negsuc k) × (digits ≡ decimal (suc k)) × (suc k ≤ 2 ^ 127)
below-text digits (pos n) w e = absurd (decimal-plain n digits (omega arith) e)
below-text digits (negsuc k) w e = (k, refl, ap (drop 1) e, omega arith)

pub below-none : (digits : List ℕ) → IsNaturalRead (2 ^ 127) digits None → IsRead (45 ∷ digits) None
below-none digits h = record {
  told = tt;
  wide = tt;
  only = λ n w e. let t = below-text digits n w e in let f = h.only (suc t.0) t.3 t.2 in absurd cc;
}

pub below-read : (digits : List ℕ) (n : ℕ) (r : Option ℤ) → IsNaturalRead (2 ^ 127) digits (Some n) → (n ≡ 0 → r ≡ None) → (0 < n → r ≡ Some (negsuc (n - 1))) → IsRead (45 ∷ digits) r
below-read digits zero r h z p = rw (z refl) (record {
  told = tt;
  wide = tt;
  only = λ n w e. let t = below-text digits n w e in let f = h.only (suc t.0) t.3 t.2 in absurd cc;
})
below-read digits (suc k) r h z p =
    let m : suc k - 1 ≡ k = omega arith in
    let e : r ≡ Some (negsuc k) = p (omega arith) ∙ ap (λ j. Some (negsuc j)) m in
    rw e (record {
      told = ap (λ (t : List ℕ). 45 ∷ t) h.told;
      wide = let f = h.few in omega arith;
      only = λ n w e. let t = below-text digits n w e in let f = h.only (suc t.0) t.3 t.2 in let g : k ≡ t.0 = cc in let u = t.1 in cc;
    })
