-- Sums of products: how their steps come together.
use Rattle.std.proofs.Common.{◌≡◌, ℤ, ◌+ℤ◌, ◌-ℤ◌, ap, ◌∙◌, arith}
use Rattle.std.proofs.lemmas.Int.{ints}
use Rattle.fx_vec.specs.Vectors.{Triple, plus, minus}
use Rattle.fx_vec.proofs.Same.{same3}

pub two_more : (s t u p q : ℤ) → t ≡ s +ℤ p → u ≡ t +ℤ q → u ≡ s +ℤ (p +ℤ q)
two_more s t u p q e f = omega (arith, ints)

pub three_more : (s t u v p q r : ℤ) → t ≡ s +ℤ p → u ≡ t +ℤ q → v ≡ u +ℤ r → v ≡ s +ℤ (p +ℤ q +ℤ r)
three_more s t u v p q r e f h = omega (arith, ints)

less_more : (s p q : ℤ) → s +ℤ p -ℤ q ≡ s +ℤ (p -ℤ q)
less_more s p q = omega (arith, ints)

both_more : (s p q : ℤ) → s +ℤ p +ℤ q ≡ s +ℤ (p +ℤ q)
both_more s p q = omega (arith, ints)

pub plus_both : (s p q : Triple ℤ) → plus (plus s p) q ≡ plus s (plus p q)
plus_both s p q = same3 _ _ (both_more s.x p.x q.x) (both_more s.y p.y q.y) (both_more s.z p.z q.z)

pub plus_less : (s p q : Triple ℤ) → minus (plus s p) q ≡ plus s (minus p q)
plus_less s p q = same3 _ _ (less_more s.x p.x q.x) (less_more s.y p.y q.y) (less_more s.z p.z q.z)

pub added_both : (s t u p q : Triple ℤ) → t ≡ plus s p → u ≡ plus t q → u ≡ plus s (plus p q)
added_both s t u p q a b = b ∙ ap (λ x. plus x q) a ∙ plus_both s p q

pub added_less : (s t u p q : Triple ℤ) → t ≡ plus s p → u ≡ minus t q → u ≡ plus s (minus p q)
added_less s t u p q a b = b ∙ ap (λ x. minus x q) a ∙ plus_less s p q

pub less_turned : (s t p q : ℤ) → t ≡ s +ℤ (q -ℤ p) → t ≡ s -ℤ (p -ℤ q)
less_turned s t p q e = omega (arith, ints)
