-- Laws of the text of a ball.
use Rattle.std.proofs.Common.{◌≡◌, ℕ, ◌++◌, List, codes, drop, Option, Some, None, refl, sym, ap, ◌∙◌, append_assoc}
use Rattle.mj_trace.specs.Lines.{spaced}
use Rattle.mj_reading.specs.Reading.{Any, raw_text}
use Rattle.mj_reading.proofs.ReadingLaws.{number-letter}
use Rattle.mj_check.specs.declared.ball.BallTold.{BallTold}
use Rattle.mj_check.specs.Lines.{IsBall, IsBallTold, ball_line}
use Rattle.mj_check.proofs.RowLaws.{four-apart}

pub same-ball : {x w : BallTold} → x.shift ≡ w.shift → x.low ≡ w.low → x.radius ≡ w.radius → x ≡ w
same-ball a b c = λ i. record { shift = a i; low = b i; radius = c i }

-- a ball that was found doesn't begin as the line where none was
ball-none : (x : BallTold) (behind rest r : List ℕ) → IsBallTold x → rest ≡ ball_line (Some x) ++ behind → rest ≡ codes "ball none\n" ++ r → ⊥
ball-none x behind rest r h e f =
    let d = sym (append_assoc (codes "ball ") (raw_text x.shift) (spaced x.low.raw ++ (spaced x.radius.raw ++ (codes "\n" ++ behind)))) ∙ sym (four-apart (codes "ball " ++ raw_text x.shift) (spaced x.low.raw) (spaced x.radius.raw) (codes "\n") behind) ∙ sym e ∙ f in
    number-letter x.shift.raw 110 (spaced x.low.raw ++ (spaced x.radius.raw ++ (codes "\n" ++ behind))) (codes "one\n" ++ r) h.shift refl (ap (drop 4) d)

pub none-only : (rest r : List ℕ) → rest ≡ codes "ball none\n" ++ r → (w : Option BallTold) (behind : List ℕ) → IsBall w → rest ≡ ball_line w ++ behind → (a : Unit {0}) × Any a × (w ≡ None)
none-only rest r f None behind h e = (tt, tt, refl)
none-only rest r f (Some x) behind h e = absurd (ball-none x behind rest r h e f)

pub found-only : (rest : List ℕ) → ((r : List ℕ) → rest ≡ codes "ball none\n" ++ r → ⊥) → (w : Option BallTold) (behind : List ℕ) → IsBall w → rest ≡ ball_line w ++ behind → (a : BallTold) × IsBallTold a × (w ≡ Some a)
found-only rest never None behind h e = absurd (never behind e)
found-only rest never (Some x) behind h e = (x, h, refl)
