-- The two sums of the cost, row by row.
use Rattle.std.proofs.Common.{◌≡◌, ℕ, ◌+◌, ◌-◌, ◌*◌, ◌^◌, ◌≤◌, min, Bool, true, false, ℤ, pos, ◌*ℤ◌, unsigned_abs, None, refl, sym, ap, ap₂, ◌∙◌, arith}
use Rattle.std.specs.Prelude.{nat_le}
use Rattle.std.proofs.lemmas.Bool.Decides.{nat_tests}
use Rattle.std.proofs.lemmas.Int.{unsigned_abs-mul}
use Rattle.fx_whole.specs.First.{first_to}
use Rattle.fx_whole.proofs.SumLaws.{sum_ℕ_to-more}
use Rattle.mj_optimum.specs.Problem.{Problem}
use Rattle.mj_optimum.specs.Limits.{weight_to, pull_to}
use Rattle.mj_types.specs.declared.dual.Dual.{Dual}
use Rattle.mj_types.specs.declared.dual.Forces.{Forces}
use Rattle.mj_types.specs.declared.range.Quantity.{Quantity}
use Rattle.mj_types.specs.Problems.{problem, forces, place}
use Rattle.mj_types.specs.Ranges.{unless}
use Rattle.mj_cost.specs.Costs.{cost_fault}
use Rattle.mj_cost.specs.Costs.{AreSums}

pub record JudgedSoFar (d : Dual) (x : Forces) (n w t : ℕ) : Type 0 where
  pub sums : AreSums (problem d) (forces x) n w t
  pub passed : first_to n (cost_fault (problem d) (place d) (forces x)) ≡ None

pub weight-more : (p : Problem) (f : ℕ → ℤ) (n : ℕ) → weight_to p f (n + 1) ≡ weight_to p f n + unsigned_abs (p.r n) * (unsigned_abs (f n) * unsigned_abs (f n))
weight-more p f n =
    sum_ℕ_to-more n (λ i. unsigned_abs (p.r i *ℤ (f i *ℤ f i)))
    ∙ ap (λ a. weight_to p f n + a) (unsigned_abs-mul (p.r n) (f n *ℤ f n) ∙ ap (λ a. unsigned_abs (p.r n) * a) (unsigned_abs-mul (f n) (f n)))

pub pull-more : (p : Problem) (f : ℕ → ℤ) (n : ℕ) → pull_to p f (n + 1) ≡ pull_to p f n + 2 ^ 37 * (unsigned_abs (p.b n) * unsigned_abs (f n))
pull-more p f n =
    sum_ℕ_to-more n (λ i. unsigned_abs (pos (2 ^ 37) *ℤ (p.b i *ℤ f i)))
    ∙ ap (λ a. pull_to p f n + a) (unsigned_abs-mul (pos (2 ^ 37)) (p.b n *ℤ f n) ∙ ap (λ a. 2 ^ 37 * a) (unsigned_abs-mul (p.b n) (f n)))

-- what is found within a limit, with a sum that stops at the end of its type
pub saturated-test : (w a s : ℕ) → w ≤ 2 ^ 124 → s ≡ min (w + min a (2 ^ 128 - 1)) (2 ^ 128 - 1) → nat_le s (2 ^ 124) ≡ nat_le (w + a) (2 ^ 124)
saturated-test w a s h e = grind (arith, nat_tests)

pub saturated-exact : (w a s : ℕ) → s ≡ min (w + min a (2 ^ 128 - 1)) (2 ^ 128 - 1) → s ≤ 2 ^ 124 → s ≡ w + a
saturated-exact w a s e h = omega arith

-- a test that was passed
pub unless-passed : (b : Bool) (what : Quantity) (index : ℕ) → None ≡ unless b what index → b ≡ true
unless-passed true what index e = refl
unless-passed false what index e = cc

pub within-limit : (n : ℕ) → nat_le n (2 ^ 124) ≡ true → n ≤ 2 ^ 124
within-limit n e = grind (arith, nat_tests)

-- the sum of the weights with row n, as the code forms it
pub weight-exact : (p : Problem) (f : ℕ → ℤ) (n w t s : ℕ) (r v : ℤ) → AreSums p f n w t → p.r n ≡ r → f n ≡ v → s ≡ min (w + min (unsigned_abs r * (unsigned_abs v * unsigned_abs v)) (2 ^ 128 - 1)) (2 ^ 128 - 1)
    → s ≤ 2 ^ 124 → s ≡ weight_to p f (n + 1)
weight-exact p f n w t s r v sums hr hv e h =
    saturated-exact w (unsigned_abs r * (unsigned_abs v * unsigned_abs v)) s e h
    ∙ ap₂ (λ a b. a + b) sums.weight (ap₂ (λ a b. unsigned_abs a * (unsigned_abs b * unsigned_abs b)) (sym hr) (sym hv))
    ∙ sym (weight-more p f n)

pub weight-test : (p : Problem) (f : ℕ → ℤ) (n w t s : ℕ) (r v : ℤ) → AreSums p f n w t → p.r n ≡ r → f n ≡ v → s ≡ min (w + min (unsigned_abs r * (unsigned_abs v * unsigned_abs v)) (2 ^ 128 - 1)) (2 ^ 128 - 1)
    → nat_le s (2 ^ 124) ≡ nat_le (weight_to p f (n + 1)) (2 ^ 124)
weight-test p f n w t s r v sums hr hv e =
    saturated-test w (unsigned_abs r * (unsigned_abs v * unsigned_abs v)) s sums.weight_small e
    ∙ ap (λ a. nat_le a (2 ^ 124)) (ap₂ (λ a b. a + b) sums.weight (ap₂ (λ a b. unsigned_abs a * (unsigned_abs b * unsigned_abs b)) (sym hr) (sym hv)) ∙ sym (weight-more p f n))

pub pull-exact : (p : Problem) (f : ℕ → ℤ) (n w t s : ℕ) (b v : ℤ) → AreSums p f n w t → p.b n ≡ b → f n ≡ v → s ≡ t + unsigned_abs b * unsigned_abs v → 2 ^ 37 * s ≡ pull_to p f (n + 1)
pull-exact p f n w t s b v sums hb hv e =
    scaled-sum (pull_to p f n) t (unsigned_abs b * unsigned_abs v) s sums.pull e
    ∙ ap (λ x. pull_to p f n + x) (ap₂ (λ x y. 2 ^ 37 * (unsigned_abs x * unsigned_abs y)) (sym hb) (sym hv)) ∙ sym (pull-more p f n)
  where
    scaled-sum : (k t x s : ℕ) → 2 ^ 37 * t ≡ k → s ≡ t + x → 2 ^ 37 * s ≡ k + 2 ^ 37 * x
    scaled-sum k t x s e h = omega arith

pub pull-test : (s k : ℕ) → 2 ^ 37 * s ≡ k → nat_le s (2 ^ 87) ≡ nat_le k (2 ^ 124)
pull-test s k e = grind (arith, nat_tests)

pub within-pull : (n : ℕ) → nat_le n (2 ^ 87) ≡ true → n ≤ 2 ^ 87
within-pull n e = grind (arith, nat_tests)
