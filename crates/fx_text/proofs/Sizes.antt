-- How large the numbers of a numeral are.
use Rattle.std.proofs.Common.{◌≡◌, ℕ, suc, ◌+◌, ◌*◌, ◌^◌, ◌%◌, ◌<◌, ◌≤◌, min, List, [], ◌∷◌, Bool, true, false, cond, take, drop, refl, sym, ap, ◌∙◌, lit<, lit≤, ℤ, unsigned_abs, arith}
use Rattle.std.specs.List.{fold}
use Rattle.std.proofs.lemmas.List.Sums.{sum_by-cons, sum_by-take-le, sum_by-take-drop}
use Rattle.std.proofs.lemmas.Int.{ints}
use Rattle.std.proofs.lemmas.Bool.Decides.{nat_tests}
use Rattle.std.proofs.lemmas.Nat.{pow-add, one_shl}
use Rattle.std.proofs.Math.Nat.{pow-le-pow_right, one-le-pow, mul-le-mul_left, mul-le-mul_right}
use Rattle.fx_text.specs.Numeral.{kind_of}
use Rattle.fx_text.specs.Decimal.{is_digit, with_byte, number, digit_count, apply_sign}

-- how many digits a byte is
abbrev pub ones : ℕ → ℕ
ones b = cond (is_digit (kind_of b)) 1 0

pub with_byte-lt : (n b : ℕ) → with_byte n (kind_of b) < (n + 1) * 10 ^ ones b
with_byte-lt n b = grind (arith, nat_tests)

-- n with the digits of the bytes behind it
abbrev pub number_from : ℕ → List ℕ → ℕ
number_from n bytes = fold (λ m b. with_byte m (kind_of b)) n bytes

-- a product of bounds, over plain numbers
product_lt : (n m p q x : ℕ) → suc m ≤ (n + 1) * p → x < suc m * q → x < (n + 1) * (p * q)
product_lt n m p q x h k =
    let l : suc m * q ≤ ((n + 1) * p) * q = mul-le-mul_right q h in
    omega arith

step : (n m t c x : ℕ) → m < (n + 1) * 10 ^ t → x < (m + 1) * 10 ^ c → x < (n + 1) * 10 ^ (t + c)
step n m t c x h k = rw pow-add (product_lt n m (10 ^ t) (10 ^ c) x h (omega (arith, k)))

pub number_from-lt : (n : ℕ) (bs : List ℕ) → number_from n bs < (n + 1) * 10 ^ digit_count bs
number_from-lt n [] = omega arith
number_from-lt n (b ∷ bs) =
    rw sum_by-cons (step n (with_byte n (kind_of b)) (ones b) (digit_count bs) _ (with_byte-lt n b) (number_from-lt (with_byte n (kind_of b)) bs))

pub number-lt : (bs : List ℕ) → number bs < 10 ^ digit_count bs
number-lt bs = omega (arith, number_from-lt 0 bs)

pub number-le_digits : (bs : List ℕ) (k : ℕ) → digit_count bs ≤ k → number bs < 10 ^ k
number-le_digits bs k h =
    let p : 10 ^ digit_count bs ≤ 10 ^ k = pow-le-pow_right (lit< tt) h in omega (arith, number-lt bs)

-- the next digit of a number that is being read has room
pub number_room : (bs : List ℕ) (i : ℕ) → digit_count bs ≤ 26 → 10 * number (take i bs) + 9 < 2 ^ 128
number_room bs i h =
    let p : digit_count (take i bs) ≤ 26 = omega (arith, sum_by-take-le (λ b. ones b) bs i) in
    let q : 10 ^ 26 ≤ 2 ^ 90 = lit≤ tt in
    omega (arith, number-le_digits (take i bs) 26 p)

cut_more : (size p grown limit : ℕ) → grown ≡ min (size * p) limit → min (grown * 10) limit ≡ min (size * (p * 10)) limit
cut_more size p grown limit h = omega arith

pub tens_more : (size turn grown next : ℕ) → grown ≡ min (size * 10 ^ turn) (2 ^ 64) → next ≡ min (grown * 10) (2 ^ 64) → next ≡ min (size * 10 ^ (turn + 1)) (2 ^ 64)
tens_more size turn grown next h k =
    let e : 10 ^ (turn + 1) ≡ 10 ^ turn * 10 = pow-add 10 turn 1 in
    k ∙ cut_more size (10 ^ turn) grown (2 ^ 64) h ∙ ap (λ x. min (size * x) (2 ^ 64)) (sym e)

pub pow_ten-lt : (k : ℕ) → k ≤ 38 → 10 ^ k < 2 ^ 127
pow_ten-lt k h =
    let p : 10 ^ k ≤ 10 ^ 38 = pow-le-pow_right (lit< tt) h in
    let q : 10 ^ 38 < 2 ^ 127 = lit< tt in
    omega arith

pub pow_ten-pos : (k : ℕ) → 0 < 10 ^ k
pow_ten-pos k = one-le-pow k 10 (lit< tt)

-- a number of 26 digits at a scale of at most 40 fits
pub raised-lt : (n scale : ℕ) → n < 10 ^ 26 → scale ≤ 40 → n * 2 ^ scale < 2 ^ 127
raised-lt n scale h k =
    let p : 2 ^ scale ≤ 2 ^ 40 = pow-le-pow_right (lit< tt) k in
    let q : n * 2 ^ scale ≤ 10 ^ 26 * 2 ^ scale = mul-le-mul_right (2 ^ scale) (omega arith) in
    let r : 10 ^ 26 * 2 ^ scale ≤ 10 ^ 26 * 2 ^ 40 = mul-le-mul_left (10 ^ 26) p in
    let s : 10 ^ 26 * 2 ^ 40 < 2 ^ 127 = lit< tt in
    omega arith

-- the same as the code shifts it
pub raised_of_shift : (n scale : ℕ) → n < 10 ^ 26 → scale ≤ 40 → n * (1 * 2 ^ scale % 2 ^ 128) < 2 ^ 127
raised_of_shift n scale h k = let l : scale < 128 = omega arith in rw one_shl (raised-lt n scale h k)

pub signed-size : (negative : Bool) (z : ℤ) (size : ℕ) → z ≡ apply_sign negative size → unsigned_abs z ≡ size
signed-size true z size h = rw h (omega (arith, ints))
signed-size false z size h = rw h refl

-- no more digits stand behind a place than in all
pub behind_digits : (bs part : List ℕ) (place : ℕ) → digit_count bs ≤ 26 → part ≡ drop place bs → digit_count part ≤ 26
behind_digits bs part place h e = rw e (omega (arith, sum_by-take-drop (λ b. ones b) bs place))
