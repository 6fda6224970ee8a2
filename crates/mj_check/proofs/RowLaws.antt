-- Laws of the texts of rows.
use Rattle.std.proofs.Common.{◌≡◌, ℕ, ◌++◌, List, Bool, codes, Option, Some, None, IfSome, refl, sym, ◌∙◌, append_assoc}
use Rattle.mj_trace.specs.Lines.{spaced}
use Rattle.mj_reading.specs.Reading.{NoNumber, Any}
use Rattle.mj_reading.proofs.ReadingLaws.{number-letter}
use Rattle.mj_check.specs.declared.rows.Told.{Told}
use Rattle.mj_check.specs.declared.rows.RowTold.{RowTold}
use Rattle.mj_check.specs.Rows.{IsTold, told_line, rest_line, bounds_line}

pub four-apart : (a b c d e : List ℕ) → (((a ++ b) ++ c) ++ d) ++ e ≡ a ++ (b ++ (c ++ (d ++ e)))
four-apart a b c d e = append_assoc ((a ++ b) ++ c) d e ∙ append_assoc (a ++ b) c (d ++ e) ∙ append_assoc a b (c ++ (d ++ e))

pub same-told : {x w : Told} → x.f ≡ w.f → x.lo ≡ w.lo → x.hi ≡ w.hi → x.bounds ≡ w.bounds → x ≡ w
same-told a b c d = λ i. record { f = a i; lo = b i; hi = c i; bounds = d i }

pub same-row : {x w : RowTold} → x.source ≡ w.source → x.told ≡ w.told → x ≡ w
same-row a b = λ i. record { source = a i; told = b i }

-- what is told of a row begins with a space, and no number goes on with it
pub rest-before : (tells : Bool) (x : Option Told) (behind : List ℕ) → NoNumber (rest_line tells x ++ behind)
rest-before tells None behind = refl
rest-before tells (Some x) behind = refl

-- what is told of a row doesn't begin as an idle row does
told-idle : (tells : Bool) (x : Told) (behind rest r : List ℕ) → IsTold tells x → rest ≡ told_line tells x ++ behind → rest ≡ codes " idle" ++ r → ⊥
told-idle tells x behind rest r h e f =
    number-letter x.f.raw 105 (spaced x.lo.raw ++ (spaced x.hi.raw ++ (bounds_line tells x.bounds ++ behind))) (codes "dle" ++ r) h.force refl
    (sym (four-apart (spaced x.f.raw) (spaced x.lo.raw) (spaced x.hi.raw) (bounds_line tells x.bounds) behind) ∙ sym e ∙ f)

pub idle-only : (tells : Bool) (rest r : List ℕ) → rest ≡ codes " idle" ++ r → (w : Option Told) (behind : List ℕ) → IfSome w (IsTold tells) → rest ≡ rest_line tells w ++ behind → (a : Unit {0}) × Any a × (w ≡ None)
idle-only tells rest r f None behind h e = (tt, tt, refl)
idle-only tells rest r f (Some x) behind h e = absurd (told-idle tells x behind rest r h e f)

pub told-only : (tells : Bool) (rest : List ℕ) → ((r : List ℕ) → rest ≡ codes " idle" ++ r → ⊥) → (w : Option Told) (behind : List ℕ) → IfSome w (IsTold tells) → rest ≡ rest_line tells w ++ behind → (a : Told) × IsTold tells a × (w ≡ Some a)
told-only tells rest never None behind h e = absurd (never behind e)
told-only tells rest never (Some x) behind h e = (x, h, refl)
