use Rattle.std.proofs.Common.{◌≡◌, ◌*◌, ◌^◌, ◌≤◌, ℕ, ℤ, unsigned_abs, sym, subst}
use Rattle.fx_vec.specs.Sizes.{Within}
use Rattle.fx_vec.specs.Settling.{stretched}
use Rattle.fx_vec.specs.Vectors.{Triple}
use Rattle.fx_vec.specs.Views.{mids}
use Rattle.fx_vec.proofs.Bounds.{stretched-within}
use Rattle.fx_vec.proofs.Same.{same3}
use Rattle.fx_vec.proofs.plain.stretch.Goals as goal

by_value : (v n : Triple ℤ) (k : ℤ) (h t : ℕ) → v.x ≡ (stretched n k).x → v.y ≡ (stretched n k).y → v.z ≡ (stretched n k).z → Within n (t * 2 ^ 32) → unsigned_abs k ≤ h → Within v (t * h)
by_value v n k h t x y z i j = subst (λ u. Within u (t * h)) (sym (same3 v (stretched n k) x y z)) (stretched-within n k h t i j)

pub returns-clause-size : goal.returns-clause-size
returns-clause-size c =
    by_value (record { x = c.rounded_product.result.mid; y = c.rounded_product-2.result.mid; z = c.rounded_product-3.result.mid }) (mids c.args.n.now) c.args.k.now.mid (2 ^ 59) 4
    c.rounded_product.ensures.value c.rounded_product-2.ensures.value c.rounded_product-3.ensures.value c.requires.n c.requires.k

pub returns-clause-linear : goal.returns-clause-linear
returns-clause-linear c h i j =
    by_value (record { x = c.rounded_product.result.mid; y = c.rounded_product-2.result.mid; z = c.rounded_product-3.result.mid }) (mids c.args.n.now) c.args.k.now.mid h 2
    c.rounded_product.ensures.value c.rounded_product-2.ensures.value c.rounded_product-3.ensures.value i j
