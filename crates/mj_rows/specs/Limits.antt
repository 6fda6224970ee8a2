-- Limits of joints and of tendons: a position or a length is held within its range. MuJoCo documentation, Computation, constraints: limit.
use Rattle.std.specs.Prelude.{ℕ, ◌+◌, ◌-◌, ◌&&◌, Bool, cond, ℤ, pos, ◌-ℤ◌, neg_ℤ, int_lt, is_some, List, [], ◌∷◌, ◌++◌, length, Option, None, Some}
use Rattle.fx_whole.specs.Sums.{sum_to}
use Rattle.mj_types.specs.declared.model.Model.{Model}
use Rattle.mj_types.specs.declared.parts.Range.{Range}
use Rattle.mj_types.specs.declared.parts.Term.{Term}
use Rattle.mj_types.specs.declared.state.State.{State}
use Rattle.mj_types.specs.declared.rows.Source.{Source}
use Rattle.mj_types.specs.declared.rows.Source.TheVariants as source
use Rattle.mj_types.specs.Parts.{plain, joint, tendon, term}
use Rattle.mj_rows.specs.declared.limits.Extent.{Extent}
use Rattle.mj_rows.specs.Constraint.{Constraint, no_lever, pushing}
use Rattle.mj_rows.specs.Joints.{one, position, at_joint}

-- ---- what is held within a range
-- the ends of a range; 0 where there is none
abbrev pub least_of : Option Range → ℤ
least_of None = pos 0
least_of (Some r) = r.least.mid

abbrev pub greatest_of : Option Range → ℤ
greatest_of None = pos 0
greatest_of (Some r) = r.greatest.mid

-- how far it is from its ends
abbrev pub above_least : Extent → ℤ
above_least x = x.value.mid -ℤ least_of x.range

abbrev pub below_greatest : Extent → ℤ
below_greatest x = greatest_of x.range -ℤ x.value.mid

-- a limit stands where there is a range, and its end is nearer than the margin
abbrev pub is_low : Extent → Bool
is_low x = is_some x.range && int_lt (above_least x) x.margin.mid

abbrev pub is_high : Extent → Bool
is_high x = is_some x.range && int_lt (below_greatest x) x.margin.mid

abbrev pub limit : Source → Extent → ℤ → (ℕ → ℤ) → Constraint
limit from x distance slope = pushing from (distance -ℤ x.margin.mid) x.soft no_lever slope

-- ---- the joint at a place
abbrev pub joint_extent : Model → State → ℕ → Extent
joint_extent m s j = record {
  range = (joint m.joints j).range;
  margin = (joint m.joints j).margin;
  soft = (joint m.joints j).soft;
  value = plain (position m s j);
}

unfoldable pub low_limit : Model → State → ℕ → Constraint
low_limit m s j = limit (source.Low (j + 1)) (joint_extent m s j) (above_least (joint_extent m s j)) (at_joint m j one)

unfoldable pub high_limit : Model → State → ℕ → Constraint
high_limit m s j = limit (source.High (j + 1)) (joint_extent m s j) (below_greatest (joint_extent m s j)) (at_joint m j (neg_ℤ one))

abbrev pub low_limits : Model → State → ℕ → List Constraint
low_limits m s j = cond (is_low (joint_extent m s j)) (low_limit m s j ∷ []) []

abbrev pub high_limits : Model → State → ℕ → List Constraint
high_limits m s j = cond (is_high (joint_extent m s j)) (high_limit m s j ∷ []) []

abbrev pub joint_limits : Model → State → ℕ → List Constraint
joint_limits m s j = low_limits m s j ++ high_limits m s j

-- ---- the tendon at a place, from the lengths of all
abbrev pub tendon_extent : Model → (ℕ → ℤ) → ℕ → Extent
tendon_extent m lengths t = record {
  range = (tendon m.tendons t).range;
  margin = (tendon m.tendons t).margin;
  soft = (tendon m.tendons t).soft;
  value = plain (lengths t);
}

-- how a dof changes its length: by the coefficient of the joint's term
abbrev pub tendon_slope : Model → List Term → ℕ → ℤ
tendon_slope m terms d = sum_to (length terms) (λ i. at_joint m ((term terms i).joint - 1) (term terms i).coef.mid d)

unfoldable pub tendon_low_limit : Model → (ℕ → ℤ) → ℕ → Constraint
tendon_low_limit m lengths t =
    limit (source.TendonLow (t + 1)) (tendon_extent m lengths t) (above_least (tendon_extent m lengths t)) (tendon_slope m (tendon m.tendons t).terms)

unfoldable pub tendon_high_limit : Model → (ℕ → ℤ) → ℕ → Constraint
tendon_high_limit m lengths t =
    limit (source.TendonHigh (t + 1)) (tendon_extent m lengths t) (below_greatest (tendon_extent m lengths t)) (λ d. neg_ℤ (tendon_slope m (tendon m.tendons t).terms d))

abbrev pub tendon_low_limits : Model → (ℕ → ℤ) → ℕ → List Constraint
tendon_low_limits m lengths t = cond (is_low (tendon_extent m lengths t)) (tendon_low_limit m lengths t ∷ []) []

abbrev pub tendon_high_limits : Model → (ℕ → ℤ) → ℕ → List Constraint
tendon_high_limits m lengths t = cond (is_high (tendon_extent m lengths t)) (tendon_high_limit m lengths t ∷ []) []

abbrev pub tendon_limits : Model → (ℕ → ℤ) → ℕ → List Constraint
tendon_limits m lengths t = tendon_low_limits m lengths t ++ tendon_high_limits m lengths t
