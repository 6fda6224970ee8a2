-- Every numeral has parts.
use Rattle.std.proofs.Common.{◌≡◌, ◌⊎◌, ℕ, ◌+◌, ◌<◌, ◌≤◌, List, [], ◌∷◌, ◌++◌, true, false, Option, Some, None, IfSome, length, refl, ap, inl, inr, arith}
use Rattle.std.proofs.lemmas.Bool.Decides.{nat_tests}
use Rattle.fx_text.specs.Numeral.{kind_of, completes, next, where_next}
use Rattle.fx_text.specs.Decimal.{is_digit}
use Rattle.fx_text.specs.Parts.{Sign, unsigned, plus, minus, Exponent, Parts, sign_text, fraction_text, exponent_text, text_of, behind_point, AreDigits, IsExponent, ArePartsOfNumeral, NumeralsHaveParts}
use Rattle.fx_text.specs.declared.numeral.Kind.{Kind}
use Rattle.fx_text.specs.declared.numeral.Kind.TheVariants.{Digit, Sign as SignByte, Point, Mark}
use Rattle.fx_text.specs.declared.numeral.Place.{Place}
use Rattle.fx_text.specs.declared.numeral.Place.TheVariants.{Start, Signed, Whole, BarePoint, Fraction, Marked, MarkSigned, OneDigit, TwoDigits}

sign-byte : (b : ℕ) → kind_of b ≡ SignByte → (b ≡ 43) ⊎ (b ≡ 45)
sign-byte b h = grind (arith, nat_tests)

point-byte : (b : ℕ) → kind_of b ≡ Point → b ≡ 46
point-byte b h = grind (arith, nat_tests)

mark-byte : (b : ℕ) → kind_of b ≡ Mark → (b ≡ 69) ⊎ (b ≡ 101)
mark-byte b h = grind (arith, nat_tests)

digit-byte : (b d : ℕ) → kind_of b ≡ Digit d → is_digit (kind_of b) ≡ true
digit-byte b d h = ap is_digit h

digit-cons : (b : ℕ) (bs : List ℕ) → is_digit (kind_of b) ≡ true → AreDigits bs → AreDigits (b ∷ bs)
digit-cons b bs h k = rw h k

-- what stands behind the sign: at least so many digits, and an exponent
record Body (least : ℕ) (bytes : List ℕ) : Type 0 where
  whole : List ℕ
  fraction : Option (List ℕ)
  exponent : Option Exponent
  whole_digits : AreDigits whole
  fraction_digits : AreDigits (behind_point fraction)
  some : least ≤ length whole + length (behind_point fraction)
  is_exponent : IfSome exponent IsExponent
  parts : bytes ≡ whole ++ (fraction_text fraction ++ exponent_text exponent)

-- what stands behind the point: at least so many digits, and an exponent
record Behind (least : ℕ) (bytes : List ℕ) : Type 0 where
  digits : List ℕ
  exponent : Option Exponent
  are_digits : AreDigits digits
  some : least ≤ length digits
  is_exponent : IfSome exponent IsExponent
  parts : bytes ≡ digits ++ exponent_text exponent

-- what stands behind the exponent's mark
record Power (bytes : List ℕ) : Type 0 where
  sign : Sign
  digits : List ℕ
  are_digits : AreDigits digits
  some : 0 < length digits
  few : length digits ≤ 2
  parts : bytes ≡ sign_text sign ++ digits

-- bytes that complete a numeral from a place on, by their parts
abbrev Tail : Place → List ℕ → Type 0
Tail Start bytes = (p : Parts) × ArePartsOfNumeral p × (bytes ≡ text_of p)
Tail Signed bytes = Body 1 bytes
Tail Whole bytes = Body 0 bytes
Tail BarePoint bytes = Behind 1 bytes
Tail Fraction bytes = Behind 0 bytes
Tail Marked bytes = Power bytes
Tail MarkSigned bytes = AreDigits bytes × (0 < length bytes) × (length bytes ≤ 2)
Tail OneDigit bytes = AreDigits bytes × (length bytes ≤ 1)
Tail TwoDigits bytes = bytes ≡ []

power-exponent : (b : ℕ) (bytes : List ℕ) → kind_of b ≡ Mark → Power bytes → (e : Exponent) × IsExponent e × (b ∷ bytes ≡ exponent_text (Some e))
power-exponent b bytes h t = (
  record { mark = b; sign = t.sign; digits = t.digits },
  record { mark = mark-byte b h; digits = t.are_digits; some = t.some; few = t.few },
  ap (λ (ys : List ℕ). b ∷ ys) t.parts,
)

behind-digit : (least b : ℕ) (bytes : List ℕ) → least ≤ 1 → is_digit (kind_of b) ≡ true → Behind 0 bytes → Behind least (b ∷ bytes)
behind-digit least b bytes l h t = record {
  digits = b ∷ t.digits;
  exponent = t.exponent;
  are_digits = digit-cons b t.digits h t.are_digits;
  some = omega arith;
  is_exponent = t.is_exponent;
  parts = ap (λ (ys : List ℕ). b ∷ ys) t.parts;
}

body-digit : (least b : ℕ) (bytes : List ℕ) → least ≤ 1 → is_digit (kind_of b) ≡ true → Body 0 bytes → Body least (b ∷ bytes)
body-digit least b bytes l h t = record {
  whole = b ∷ t.whole;
  fraction = t.fraction;
  exponent = t.exponent;
  whole_digits = digit-cons b t.whole h t.whole_digits;
  fraction_digits = t.fraction_digits;
  some = omega arith;
  is_exponent = t.is_exponent;
  parts = ap (λ (ys : List ℕ). b ∷ ys) t.parts;
}

body-point : (least b : ℕ) (bytes : List ℕ) → kind_of b ≡ Point → Behind least bytes → Body least (b ∷ bytes)
body-point least b bytes h t = record {
  whole = [];
  fraction = Some t.digits;
  exponent = t.exponent;
  whole_digits = refl;
  fraction_digits = t.are_digits;
  some = omega (arith, t.some);
  is_exponent = t.is_exponent;
  parts = rw (point-byte b h) (ap (λ (ys : List ℕ). 46 ∷ ys) t.parts);
}

body-mark : (b : ℕ) (bytes : List ℕ) → kind_of b ≡ Mark → Power bytes → Body 0 (b ∷ bytes)
body-mark b bytes h t =
    let e = power-exponent b bytes h t in
    record {
      whole = [];
      fraction = None;
      exponent = Some e.0;
      whole_digits = refl;
      fraction_digits = refl;
      some = omega arith;
      is_exponent = e.1;
      parts = e.2;
    }

behind-mark : (b : ℕ) (bytes : List ℕ) → kind_of b ≡ Mark → Power bytes → Behind 0 (b ∷ bytes)
behind-mark b bytes h t =
    let e = power-exponent b bytes h t in
    record { digits = []; exponent = Some e.0; are_digits = refl; some = omega arith; is_exponent = e.1; parts = e.2 }

whole-parts : (s : Sign) (bytes : List ℕ) → Body 1 bytes → Tail Start (sign_text s ++ bytes)
whole-parts s bytes t = (
  record { sign = s; whole = t.whole; fraction = t.fraction; exponent = t.exponent },
  record { whole = t.whole_digits; fraction = t.fraction_digits; some = t.some; exponent = t.is_exponent },
  ap (λ (ys : List ℕ). sign_text s ++ ys) t.parts,
)

signed-parts : (b : ℕ) (bytes : List ℕ) → (b ≡ 43) ⊎ (b ≡ 45) → Body 1 bytes → Tail Start (b ∷ bytes)
signed-parts b bytes (inl e) t = rw e (whole-parts plus bytes t)
signed-parts b bytes (inr e) t = rw e (whole-parts minus bytes t)

signed-power : (b : ℕ) (bytes : List ℕ) → (b ≡ 43) ⊎ (b ≡ 45) → Tail MarkSigned bytes → Power (b ∷ bytes)
signed-power b bytes (inl e) t = record { sign = plus; digits = bytes; are_digits = t.0; some = t.1; few = t.2; parts = rw e refl }
signed-power b bytes (inr e) t = record { sign = minus; digits = bytes; are_digits = t.0; some = t.1; few = t.2; parts = rw e refl }

last-digit : (b : ℕ) (bytes : List ℕ) → is_digit (kind_of b) ≡ true → bytes ≡ [] → Tail OneDigit (b ∷ bytes)
last-digit b bytes h e = (digit-cons b bytes h (rw e refl), omega (arith, ap length e))

tail-step : (p : Place) (k : Kind) (b : ℕ) (bs : List ℕ) → kind_of b ≡ k → ((q : Place) → completes q bs ≡ true → Tail q bs) → where_next (next p k) false (λ q. completes q bs) ≡ true → Tail p (b ∷ bs)
tail-step Start SignByte b bs e f h = signed-parts b bs (sign-byte b e) (f Signed h)
tail-step Start (Digit d) b bs e f h = whole-parts unsigned (b ∷ bs) (body-digit 1 b bs (omega arith) (digit-byte b d e) (f Whole h))
tail-step Start Point b bs e f h = whole-parts unsigned (b ∷ bs) (body-point 1 b bs e (f BarePoint h))
tail-step Signed (Digit d) b bs e f h = body-digit 1 b bs (omega arith) (digit-byte b d e) (f Whole h)
tail-step Signed Point b bs e f h = body-point 1 b bs e (f BarePoint h)
tail-step Whole (Digit d) b bs e f h = body-digit 0 b bs (omega arith) (digit-byte b d e) (f Whole h)
tail-step Whole Point b bs e f h = body-point 0 b bs e (f Fraction h)
tail-step Whole Mark b bs e f h = body-mark b bs e (f Marked h)
tail-step BarePoint (Digit d) b bs e f h = behind-digit 1 b bs (omega arith) (digit-byte b d e) (f Fraction h)
tail-step Fraction (Digit d) b bs e f h = behind-digit 0 b bs (omega arith) (digit-byte b d e) (f Fraction h)
tail-step Fraction Mark b bs e f h = behind-mark b bs e (f Marked h)
tail-step Marked SignByte b bs e f h = signed-power b bs (sign-byte b e) (f MarkSigned h)
tail-step Marked (Digit d) b bs e f h =
    let t = f OneDigit h in
    record { sign = unsigned; digits = b ∷ bs; are_digits = digit-cons b bs (digit-byte b d e) t.0; some = omega arith; few = omega (arith, t.1); parts = refl }
tail-step MarkSigned (Digit d) b bs e f h =
    let t = f OneDigit h in (digit-cons b bs (digit-byte b d e) t.0, omega arith, omega (arith, t.1))
tail-step OneDigit (Digit d) b bs e f h = last-digit b bs (digit-byte b d e) (f TwoDigits h)
tail-step _ _ b bs e f h = absurd cc

tail : (bs : List ℕ) (p : Place) → completes p bs ≡ true → Tail p bs
tail [] Whole h = record { whole = []; fraction = None; exponent = None; whole_digits = refl; fraction_digits = refl; some = omega arith; is_exponent = tt; parts = refl }
tail [] Fraction h = record { digits = []; exponent = None; are_digits = refl; some = omega arith; is_exponent = tt; parts = refl }
tail [] OneDigit h = (refl, omega arith)
tail [] TwoDigits h = refl
tail [] _ h = absurd cc
tail (b ∷ bs) p h = tail-step p (kind_of b) b bs refl (tail bs) h

pub numerals_have_parts : NumeralsHaveParts
numerals_have_parts text h = tail text Start h
