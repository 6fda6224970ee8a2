-- The place of a bad byte is the length of the longest prefix that begins a numeral.
use Rattle.std.proofs.Common.{◌≡◌, ℕ, suc, ◌<◌, ◌≤◌, List, [], ◌∷◌, ◌++◌, Bool, true, false, cond, ltb, Option, Some, None, Result, Ok, Err, length, take, ℤ, refl, arith}
use Rattle.fx_text.specs.Numeral.{kind_of, completes, is_numeral, next, where_next, reach, prefix_length}
use Rattle.fx_text.specs.Decimal.{decimal, value, apply_sign, size_at, is_negative, digit_count, mantissa}
use Rattle.fx_text.specs.Prefixes.{RefusedBytesStop}
use Rattle.fx_text.specs.declared.numeral.Place.{Place}
use Rattle.fx_text.specs.declared.numeral.Place.TheVariants.{Start, Signed, Whole, BarePoint, Fraction, Marked, MarkSigned, OneDigit, TwoDigits}
use Rattle.fx_text.specs.declared.decimal.DecimalFault.{DecimalFault}
use Rattle.fx_text.specs.declared.decimal.DecimalFault.TheVariants.{BadByte, TooLong, Range}

-- bytes that complete a numeral from a place on
abbrev ending : Place → List ℕ
ending Whole = []
ending Fraction = []
ending OneDigit = []
ending TwoDigits = []
ending _ = 48 ∷ []

ending-completes : (p : Place) → completes p (ending p) ≡ true
ending-completes Start = refl
ending-completes Signed = refl
ending-completes Whole = refl
ending-completes BarePoint = refl
ending-completes Fraction = refl
ending-completes Marked = refl
ending-completes MarkSigned = refl
ending-completes OneDigit = refl
ending-completes TwoDigits = refl

abbrev Begins : Place → List ℕ → Type 0
Begins p prefix = (rest : List ℕ) × (completes p (prefix ++ rest) ≡ true)

reach-le_at : (n : Option Place) (bs : List ℕ) → ((q : Place) → reach q bs ≤ length bs) → where_next n 0 (λ q. suc (reach q bs)) ≤ suc (length bs)
reach-le_at None bs h = omega arith
reach-le_at (Some q) bs h = omega (arith, h q)

reach-le : (bs : List ℕ) (p : Place) → reach p bs ≤ length bs
reach-le [] p = omega arith
reach-le (b ∷ bs) p = reach-le_at (next p (kind_of b)) bs (reach-le bs)

begins_at : (b : ℕ) (bs : List ℕ) (p : Place) (n : Option Place) → next p (kind_of b) ≡ n → ((q : Place) → Begins q (take (reach q bs) bs)) → Begins p (take (where_next n 0 (λ q. suc (reach q bs))) (b ∷ bs))
begins_at b bs p None e h = (ending p, ending-completes p)
begins_at b bs p (Some q) e h = ((h q).0, rw e (h q).1)

begins : (bs : List ℕ) (p : Place) → Begins p (take (reach p bs) bs)
begins [] p = (ending p, ending-completes p)
begins (b ∷ bs) p = begins_at b bs p (next p (kind_of b)) refl (begins bs)

stops_at : (b : ℕ) (bs : List ℕ) (p : Place) (n : Option Place) → next p (kind_of b) ≡ n → ((q : Place) → reach q bs < length bs → Begins q (take (suc (reach q bs)) bs) → ⊥) → where_next n 0 (λ q. suc (reach q bs)) < suc (length bs) → Begins p (take (suc (where_next n 0 (λ q. suc (reach q bs)))) (b ∷ bs)) → ⊥
stops_at b bs p None e h l w = let f = rw e at w.1 in absurd cc
stops_at b bs p (Some q) e h l w = h q (omega arith) (w.0, rw e at w.1)

stops : (bs : List ℕ) (p : Place) → reach p bs < length bs → Begins p (take (suc (reach p bs)) bs) → ⊥
stops [] p l w = absurd (omega arith)
stops (b ∷ bs) p l w = stops_at b bs p (next p (kind_of b)) refl (stops bs) l w

-- a numeral is never refused at a byte
range-no_bad : (t : Bool) (v : ℤ) (at : ℕ) → cond t (Ok v) (Err Range) ≡ Err (BadByte at) → ⊥
range-no_bad true v at h = absurd cc
range-no_bad false v at h = absurd cc

value-no_bad : (t u : Bool) (v : ℤ) (at : ℕ) → cond t (Err TooLong) (cond u (Ok v) (Err Range)) ≡ Err (BadByte at) → ⊥
value-no_bad true u v at h = absurd cc
value-no_bad false u v at h = range-no_bad u v at h

stops-cases : (t : Bool) (v : Result ℤ DecimalFault) (n at : ℕ) → (v ≡ Err (BadByte at) → ⊥) → cond t v (Err (BadByte n)) ≡ Err (BadByte at) → (t ≡ false) × (n ≡ at)
stops-cases true v n at f h = absurd (f h)
stops-cases false v n at f h = (refl, cc)

pub refused_bytes_stop : RefusedBytesStop
unfolding decimal
refused_bytes_stop F [] at h = absurd cc
refused_bytes_stop F (b ∷ bs) at h =
    let text : List ℕ = b ∷ bs in
    let w = stops-cases (is_numeral text) (value F text) (prefix_length text) at (value-no_bad (ltb 26 (digit_count (mantissa text))) _ (apply_sign (is_negative text) (size_at F text)) at) h in
    rw (← w.1) (record { no_numeral = w.0; within = reach-le text Start; begins = begins text Start; stops = stops text Start })
