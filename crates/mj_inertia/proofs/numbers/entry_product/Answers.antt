use Rattle.std.proofs.Common.{◌≡◌, ◌^◌, ℕ, ℤ, ap, ap₂, ◌∙◌}
use Rattle.fx_num.specs.Settled.{settled_mid, rounding_loss}
use Rattle.fx_near.specs.Widths.{settled_radius}
use Rattle.fx_vec.specs.Spatial.{pair}
use Rattle.fx_vec.specs.Sizes.{no_size6}
use Rattle.fx_vec.specs.Views.{spatial, spatial_radii}
use Rattle.fx_vec.specs.Widths.{pair_width}
use Rattle.mj_inertia.specs.MassEntries.{rounded_product, rounded_radius}
use Rattle.mj_inertia.proofs.NumberLaws.{product_first}
use Rattle.mj_inertia.proofs.numbers.entry_product.Goals as goal

same_radius : (x y : ℤ) (w v : ℕ) → x ≡ y → w ≡ v → settled_radius w (rounding_loss x 32) 32 ≡ settled_radius v (rounding_loss y 32) 32
same_radius x y w v e f = ap₂ (λ (a : ℤ) (b : ℕ). settled_radius b (rounding_loss a 32) 32) e f

pub returns-in-Ok-clause-mid : goal.returns-in-Ok-clause-mid
unfolding rounded_product
returns-in-Ok-clause-mid c = c.in-Ok.ensures.mid ∙ ap (λ (x : ℤ). settled_mid x 32) c.product_sum.ensures.mid

pub returns-in-Ok-clause-rad : goal.returns-in-Ok-clause-rad
unfolding rounded_radius
returns-in-Ok-clause-rad c =
    c.in-Ok.ensures.rad
    ∙ same_radius c.product_sum.result.mid (pair (spatial c.args.column.now) (spatial c.args.momentum.now)) c.product_sum.result.rad
    (pair_width (spatial c.args.column.now) no_size6 (spatial c.args.momentum.now) (spatial_radii (λ r. r) c.args.momentum.now)) c.product_sum.ensures.mid c.product_sum.ensures.width

pub returns-in-Ok-clause-first : goal.returns-in-Ok-clause-first
returns-in-Ok-clause-first c =
    c.in-Ok.ensures.first
    ∙ product_first (2 ^ 60) c.product_sum.result.mid c.product_sum.result.rad (spatial c.args.column.now) (spatial c.args.momentum.now) (spatial_radii (λ r. r) c.args.momentum.now)
    c.product_sum.ensures.mid c.product_sum.ensures.width c.product_sum.ensures.narrow

pub returns-in-Err-clause-first : goal.returns-in-Err-clause-first
returns-in-Err-clause-first c =
    c.in-Err.ensures.first
    ∙ product_first (2 ^ 60) c.product_sum.result.mid c.product_sum.result.rad (spatial c.args.column.now) (spatial c.args.momentum.now) (spatial_radii (λ r. r) c.args.momentum.now)
    c.product_sum.ensures.mid c.product_sum.ensures.width c.product_sum.ensures.narrow
