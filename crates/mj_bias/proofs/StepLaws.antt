-- The laws of what carries a dof, and of numbers within their limits.
use Rattle.std.proofs.Common.{◌≡◌, ℕ, ◌+◌, ◌<◌, ◌≤◌, ℤ, unsigned_abs, nat_lt, None, slice_index_or, ap, ◌∙◌, arith}
use Rattle.std.proofs.lemmas.Bool.{cond-true, cond-false, lt-ltb, le-ltb}
use Rattle.fx_whole.proofs.FirstLaws.{or_pass}
use Rattle.fx_num.specs.Radii.{radius_limit}
use Rattle.fx_num.specs.Refusals.{past}
use Rattle.fx_num.specs.Settled.{over}
use Rattle.fx_num.specs.declared.carry.Over.{Over}
use Rattle.fx_num.specs.declared.carry.Over.TheVariants.{Value, Radius}
use Rattle.fx_vec.specs.Vectors.{Triple}
use Rattle.fx_vec.specs.Spatial.{Spatial}
use Rattle.fx_vec.specs.Settling.{over3}
use Rattle.fx_vec.specs.Sizes.{Within, Below, Within6}
use Rattle.mj_types.specs.declared.bias.Bias.{Bias}
use Rattle.mj_types.specs.declared.model.Model.{Model}
use Rattle.mj_types.specs.declared.parts.Dof.{Dof}
use Rattle.mj_types.specs.declared.range.Quantity.{Quantity}
use Rattle.mj_types.specs.Parts.{dof, no_dof}
use Rattle.mj_types.specs.Ranges.{named}
use Rattle.mj_bias.specs.Measures.{Measured, exact, numbers_at, totals_at, settled_by, measure_fault, IsWithin}
use Rattle.mj_bias.specs.Radii.{Rule}
use Rattle.mj_bias.specs.Steps.{carrier_there}
use Rattle.mj_bias.proofs.SizeLaws.{within6-le, below6-le}

-- ---- numbers within their limits have no fault
past-none : (limit n : ℕ) (fault : Over) → n ≤ limit → past limit n fault ≡ None
past-none limit n fault h = cond-false (nat_lt limit n) _ _ (le-ltb limit n h)

over-none : (limit : ℕ) (v : ℤ) (r : ℕ) → unsigned_abs v ≤ limit → r ≤ radius_limit → over limit v r ≡ None
over-none limit v r h k = or_pass (past limit (unsigned_abs v) Value) (past radius_limit r Radius) (past-none limit (unsigned_abs v) Value h) ∙ past-none radius_limit r Radius k

over3-none : (limit : ℕ) (v : Triple ℤ) (r : Triple ℕ) → Within v limit → Below r radius_limit → over3 limit v r ≡ None
over3-none limit v r h k =
    or_pass (over limit v.x r.x) _ (over-none limit v.x r.x h.x k.x)
    ∙ or_pass (over limit v.y r.y) _ (over-none limit v.y r.y h.y k.y) ∙ over-none limit v.z r.z h.z k.z

pub within_passes : (what : Quantity) (index limit : ℕ) (s : Measured) → IsWithin s limit radius_limit → measure_fault what index limit s ≡ None
within_passes what index limit s h =
    ap (named what index)
    (or_pass (over3 limit s.value.ang s.width.ang) _ (over3-none limit s.value.ang s.width.ang h.value_.ang h.width_.ang)
    ∙ over3-none limit s.value.lin s.width.lin h.value_.lin h.width_.lin)

pub exact_within : (s : Spatial ℤ) (limit : ℕ) → Within6 s limit → IsWithin (exact s) limit 0
exact_within s limit h = record {
  value_ = h;
  width_ = record { ang = record { x = omega arith; y = omega arith; z = omega arith }; lin = record { x = omega arith; y = omega arith; z = omega arith } };
}

pub within-le : (s : Measured) (l w m n : ℕ) → IsWithin s l w → l ≤ m → w ≤ n → IsWithin s m n
within-le s l w m n h i j = record { value_ = within6-le s.value l m h.value_ i; width_ = below6-le s.width w n h.width_ j }

-- ---- what carries a dof
pub base_there : (m : Model) (j : ℕ) (x : Dof) → ((d : Dof) → slice_index_or m.dofs j d ≡ x) → (dof m.dofs j).base ≡ x.base
base_there m j x h = ap (λ (y : Dof). y.base) (h no_dof)

pub carrier_shared : {K R W : Type 0} (rule : Rule) (width : R → ℕ) (wide : W → ℕ) (m : Model) (x : Bias K R W) (b j : ℕ) → (dof m.dofs j).base < j
    → carrier_there rule width wide m x b j ≡ numbers_at width x.turn (dof m.dofs j).base
carrier_shared rule width wide m x b j h = cond-true (nat_lt (dof m.dofs j).base j) _ _ (lt-ltb (dof m.dofs j).base j h)

pub carrier_own : {K R W : Type 0} (rule : Rule) (width : R → ℕ) (wide : W → ℕ) (m : Model) (x : Bias K R W) (b j : ℕ) → j ≤ (dof m.dofs j).base
    → carrier_there rule width wide m x b j ≡ settled_by rule 32 (totals_at wide x.motion (b + 1))
carrier_own rule width wide m x b j h = cond-false (nat_lt (dof m.dofs j).base j) _ _ (le-ltb (dof m.dofs j).base j h)
