-- Sums with one term more.
use Rattle.std.proofs.Common.{◌≡◌, ℕ, ◌+◌, ℤ, ◌+ℤ◌, arith}
use Rattle.std.proofs.lemmas.Int.{ints}
use Rattle.fx_whole.specs.Sums.{sum_to}
use Rattle.fx_whole.proofs.SumLaws.{sum_to-more}

-- one term more
pub more : (new old now : ℤ) (n : ℕ) (f : ℕ → ℤ) → new ≡ now +ℤ f n → now ≡ old +ℤ sum_to n f → new ≡ old +ℤ sum_to (n + 1) f
more new old now n f e g = whole new now old (f n) (sum_to n f) (sum_to (n + 1) f) e g (sum_to-more n f)
  where
    whole : (new now old x s t : ℤ) → new ≡ now +ℤ x → now ≡ old +ℤ s → t ≡ s +ℤ x → new ≡ old +ℤ t
    whole new now old x s t e g h = omega (arith, ints)
