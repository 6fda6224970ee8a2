-- The laws of vectors with their widths: empty sums, and what each step makes of what it reads.
use Rattle.std.proofs.Common.{◌≡◌, ℕ, ◌^◌, ℤ, sym, ap, ap₂, ◌∙◌, subst, arith}
use Rattle.fx_whole.proofs.AddingLaws.{empty_plus}
use Rattle.fx_num.specs.Settled.{settled_mid, rounding_loss, over}
use Rattle.fx_vec.specs.Spatial.{Spatial, Inertia, pair}
use Rattle.fx_vec.specs.Sizes.{Within6, Below6, sizes6_of}
use Rattle.fx_vec.specs.Sums.{vectors, sizes}
use Rattle.fx_vec.specs.Widths.{pair_width}
use Rattle.fx_vec.proofs.SumLaws.{vectors-is_adding, sizes-is_adding}
use Rattle.mj_types.specs.declared.range.Quantity.{Quantity}
use Rattle.mj_types.specs.Ranges.{named}
use Rattle.mj_bias.specs.Measures.{Measured, no_measure, sum_of, force_rate, momentum_of, IsWithin}
use Rattle.mj_bias.specs.Radii.{Rule}
use Rattle.mj_bias.specs.Steps.{wrench_there, force_there, force_radius_there}
use Rattle.mj_bias.proofs.SeenLaws.{same_measured}

-- ---- empty sums
pub none_within : (s : Measured) → s ≡ no_measure → IsWithin s 0 0
none_within s e = subst (λ (x : Measured). IsWithin x 0 0) (sym e) none
  where
    none : IsWithin no_measure 0 0
    none = record {
      value_ = record { ang = record { x = omega arith; y = omega arith; z = omega arith }; lin = record { x = omega arith; y = omega arith; z = omega arith } };
      width_ = record { ang = record { x = omega arith; y = omega arith; z = omega arith }; lin = record { x = omega arith; y = omega arith; z = omega arith } };
    }

none_sum : (s : Measured) → sum_of no_measure s ≡ s
none_sum s = same_measured (sum_of no_measure s) s (empty_plus vectors vectors-is_adding s.value) (empty_plus sizes sizes-is_adding s.width)

-- the sizes of what is within a limit
pub sizes_below : (s : Spatial ℤ) (limit : ℕ) → Within6 s limit → Below6 (sizes6_of s) limit
sizes_below s limit h = record { ang = record { x = h.ang.x; y = h.ang.y; z = h.ang.z }; lin = record { x = h.lin.x; y = h.lin.y; z = h.lin.z } }

-- a sum that began empty
pub sum_is : (x y s : Measured) → x ≡ no_measure → y ≡ sum_of x s → y ≡ s
sum_is x y s e f = f ∙ ap (λ (z : Measured). sum_of z s) e ∙ none_sum s

pub wrench_is : (i : Inertia) (a v p x y z : Measured) → x ≡ no_measure → y ≡ sum_of x (momentum_of i a) → z ≡ sum_of y (force_rate v p) → z ≡ wrench_there i a v p
unfolding wrench_there
wrench_is i a v p x y z e f h = h ∙ ap (λ (t : Measured). sum_of t (force_rate v p)) (sum_is x y (momentum_of i a) e f)

-- ---- a dof's force, from the exact power s of width w of its load on its column
pub force_is : (column x load : Measured) (s : ℤ) → s ≡ pair column.value x.value → x ≡ load → settled_mid s 40 ≡ force_there column load
unfolding force_there
force_is column x load s e f = ap (λ (t : ℤ). settled_mid t 40) e ∙ ap (λ (y : Measured). settled_mid (pair column.value y.value) 40) f

pub force_radius_is : (rule : Rule) (column x load : Measured) (s : ℤ) (w : ℕ) → s ≡ pair column.value x.value → w ≡ pair_width column.value column.width x.value x.width → x ≡ load
    → rule w (rounding_loss s 40) 40 ≡ force_radius_there rule column load
unfolding force_radius_there
force_radius_is rule column x load s w e h f =
    ap₂ (λ (t : ℤ) (r : ℕ). rule r (rounding_loss t 40) 40) e h
    ∙ ap (λ (y : Measured). rule (pair_width column.value column.width y.value y.width) (rounding_loss (pair column.value y.value) 40) 40) f

pub force_fault_is : (what : Quantity) (index : ℕ) (rule : Rule) (column x load : Measured) (s : ℤ) (w : ℕ) → s ≡ pair column.value x.value
    → w ≡ pair_width column.value column.width x.value x.width → x ≡ load
    → named what index (over (2 ^ 52) (settled_mid s 40) (rule w (rounding_loss s 40) 40))
    ≡ named what index (over (2 ^ 52) (force_there column load) (force_radius_there rule column load))
force_fault_is what index rule column x load s w e h f =
    ap₂ (λ (m : ℤ) (r : ℕ). named what index (over (2 ^ 52) m r)) (force_is column x load s e f) (force_radius_is rule column x load s w e h f)
