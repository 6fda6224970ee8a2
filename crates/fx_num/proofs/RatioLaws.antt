-- Quotients of numbers at scale 32 by numbers that are no smaller: their sizes, and the test of a guess.
use Rattle.std.proofs.Common.{◌≡◌, ℕ, ◌*◌, ◌^◌, ◌<◌, ◌≤◌, ℤ, pos, ◌-ℤ◌, ◌*ℤ◌, ◌<ℤ◌, unsigned_abs, arith, subst}
use Rattle.std.proofs.lemmas.Int.{unsigned_abs-mul}
use Rattle.fx_whole.proofs.NearestLaws.{nearest-unique, nearest-within}
use Rattle.fx_num.specs.Scalars.{one, over}

pub over-le : (n d : ℤ) → unsigned_abs n ≤ unsigned_abs d → unsigned_abs (over n d) ≤ 2 ^ 32
over-le n d h = nearest-within (n *ℤ one) d (2 ^ 32) (omega (arith, unsigned_abs-mul n one))

-- m is the quotient, where what is left is less than half of the divisor
near_over : (n d m : ℤ) (half : ℕ) → pos 0 <ℤ d → unsigned_abs (n *ℤ one -ℤ m *ℤ d) ≤ half → 2 * half < unsigned_abs d → m ≡ over n d
near_over n d m half p a b =
    nearest-unique (n *ℤ one) d m p (record { close = omega arith; tie = λ t. absurd (omega arith) })

pub near_rest : (n d m rest : ℤ) (half : ℕ) → pos 0 <ℤ d → rest ≡ n *ℤ one -ℤ m *ℤ d → unsigned_abs rest ≤ half → 2 * half < unsigned_abs d → m ≡ over n d
near_rest n d m rest half p e a b = near_over n d m half p (subst (λ x. unsigned_abs x ≤ half) e a) b
