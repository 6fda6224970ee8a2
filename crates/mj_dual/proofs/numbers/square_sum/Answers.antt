use Rattle.std.proofs.Common.{◌≡◌, ℕ, ℤ, pos, ◌*ℤ◌, ◌≤ℤ◌, length, ap, sym, ◌∙◌, subst, arith}
use Rattle.fx_whole.specs.Sums.{sum_to}
use Rattle.fx_whole.proofs.Ring.{square_nonneg}
use Rattle.fx_whole.proofs.SumLaws.{sum_to-nonneg}
use Rattle.mj_types.specs.Parts.{number_at}
use Rattle.mj_dual.specs.Products.{square_sum}
use Rattle.mj_dual.proofs.numbers.square_sum.Goals as goal

pub returns-clause-value : goal.returns-clause-value
unfolding square_sum
returns-clause-value c =
    let last : c.loop-k.k ≡ length c.args.g.now = omega arith in
    c.loop-k.invariant.so_far ∙ ap (λ (n : ℕ). sum_to n (λ k. number_at c.args.g.now k *ℤ number_at c.args.g.now k)) last

pub returns-clause-low : goal.returns-clause-low
returns-clause-low c =
    subst (λ (x : ℤ). pos 0 ≤ℤ x) (sym c.loop-k.invariant.so_far)
    (sum_to-nonneg c.loop-k.k (λ k. number_at c.args.g.now k *ℤ number_at c.args.g.now k) (λ k h. square_nonneg (number_at c.args.g.now k)))
