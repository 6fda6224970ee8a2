-- The exponent of a numeral has at most two digits.
use Rattle.std.proofs.Common.{◌≡◌, ℕ, suc, ◌+◌, ◌≤◌, List, [], ◌∷◌, Bool, true, false, cond, drop, refl, arith}
use Rattle.std.proofs.lemmas.List.Sums.{sum_by-cons}
use Rattle.fx_text.specs.Numeral.{kind_of, completes, is_numeral, next, where_next}
use Rattle.fx_text.specs.Decimal.{is_digit, is_mark, after, first_of, digit_count}
use Rattle.fx_text.specs.declared.numeral.Kind.{Kind}
use Rattle.fx_text.specs.declared.numeral.Kind.TheVariants.{Digit, Sign, Point, Mark}
use Rattle.fx_text.specs.declared.numeral.Place.{Place}
use Rattle.fx_text.specs.declared.numeral.Place.TheVariants.{Start, Signed, Whole, BarePoint, Fraction, Marked, MarkSigned, OneDigit, TwoDigits}

-- at most this many digits follow behind a place in the exponent
abbrev room : Place → ℕ
room Marked = 2
room MarkSigned = 2
room OneDigit = 1
room TwoDigits = 0
room _ = 0

abbrev in_exponent : Place → Bool
in_exponent Marked = true
in_exponent MarkSigned = true
in_exponent OneDigit = true
in_exponent TwoDigits = true
in_exponent _ = false

-- one byte in the exponent leaves room for the others
room-next : (p : Place) (k : Kind) (rest : Place → Bool) (c : ℕ) → in_exponent p ≡ true → ((q : Place) → in_exponent q ≡ true → rest q ≡ true → c ≤ room q) → where_next (next p k) false rest ≡ true → cond (is_digit k) 1 0 + c ≤ room p
room-next Marked Sign rest c e f h = omega (arith, f MarkSigned refl h)
room-next Marked (Digit d) rest c e f h = omega (arith, f OneDigit refl h)
room-next MarkSigned (Digit d) rest c e f h = omega (arith, f OneDigit refl h)
room-next OneDigit (Digit d) rest c e f h = omega (arith, f TwoDigits refl h)
room-next _ _ rest c e f h = absurd cc

digits-le_room : (bs : List ℕ) (p : Place) → in_exponent p ≡ true → completes p bs ≡ true → digit_count bs ≤ room p
digits-le_room [] p e h = omega arith
digits-le_room (b ∷ bs) p e h =
    rw sum_by-cons (room-next p (kind_of b) (λ q. completes q bs) (digit_count bs) e (λ q. digits-le_room bs q) h)

-- one byte before the exponent's mark, or the mark
before-next : (p : Place) (k : Kind) (rest : Place → Bool) (here there : ℕ) → in_exponent p ≡ false → (rest Marked ≡ true → here ≤ 2) → ((q : Place) → in_exponent q ≡ false → rest q ≡ true → there ≤ 2) → where_next (next p k) false rest ≡ true → cond (is_mark k) here there ≤ 2
before-next Start Sign rest here there e m f h = f Signed refl h
before-next Start (Digit d) rest here there e m f h = f Whole refl h
before-next Start Point rest here there e m f h = f BarePoint refl h
before-next Signed (Digit d) rest here there e m f h = f Whole refl h
before-next Signed Point rest here there e m f h = f BarePoint refl h
before-next Whole (Digit d) rest here there e m f h = f Whole refl h
before-next Whole Point rest here there e m f h = f Fraction refl h
before-next Whole Mark rest here there e m f h = m h
before-next BarePoint (Digit d) rest here there e m f h = f Fraction refl h
before-next Fraction (Digit d) rest here there e m f h = f Fraction refl h
before-next Fraction Mark rest here there e m f h = m h
before-next _ _ rest here there e m f h = absurd cc

-- the digits behind the first mark, by whether the first byte is one
after-cons : (k : Bool) (b : ℕ) (bs : List ℕ) (n : ℕ) → digit_count (drop (suc (cond k 0 (suc n))) (b ∷ bs)) ≡ cond k (digit_count bs) (digit_count (drop (suc n) bs))
after-cons true b bs n = refl
after-cons false b bs n = refl

exponent_digits-le : (bs : List ℕ) (p : Place) → in_exponent p ≡ false → completes p bs ≡ true → digit_count (after is_mark bs) ≤ 2
exponent_digits-le [] p e h = omega arith
exponent_digits-le (b ∷ bs) p e h =
    rw after-cons (before-next p (kind_of b) (λ q. completes q bs) (digit_count bs) (digit_count (after is_mark bs)) e (digits-le_room bs Marked refl) (λ q. exponent_digits-le bs q) h)

pub numeral-exponent_digits : (text : List ℕ) → is_numeral text ≡ true → digit_count (after is_mark text) ≤ 2
numeral-exponent_digits text h = exponent_digits-le text Start refl h

-- as the code has the exponent's part
pub part_digits : (text part : List ℕ) (place : ℕ) → is_numeral text ≡ true → place ≡ first_of is_mark text → part ≡ drop (suc place) text → digit_count part ≤ 2
part_digits text part place h e p = rw p (rw e (numeral-exponent_digits text h))
