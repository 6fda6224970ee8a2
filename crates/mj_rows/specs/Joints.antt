-- Equalities of joints and the friction of joints. MuJoCo documentation, Computation, constraints: equality and friction loss; that an
-- equality is linear, and the rounding, are this project's own.
use Rattle.std.specs.Prelude.{ℕ, ◌+◌, ◌-◌, ◌^◌, ◌==◌, Bool, cond, ℤ, pos, ◌-ℤ◌, ◌*ℤ◌, neg_ℤ, int_lt, List, [], ◌∷◌, Option, None, Some}
use Rattle.fx_whole.specs.Sums.{when}
use Rattle.fx_num.specs.Settled.{settled_mid}
use Rattle.mj_types.specs.declared.model.Model.{Model}
use Rattle.mj_types.specs.declared.parts.Equality.{Equality}
use Rattle.mj_types.specs.declared.parts.Soft.{Soft}
use Rattle.mj_types.specs.declared.state.State.{State}
use Rattle.mj_types.specs.declared.rows.Source.{Source}
use Rattle.mj_types.specs.declared.rows.Source.TheVariants as source
use Rattle.mj_types.specs.Parts.{joint, equality, number_at}
use Rattle.mj_rows.specs.Constraint.{Constraint, no_lever}

-- 1 at scale 32
abbrev pub one : ℤ
one = pos (2 ^ 32)

-- the first position of the joint at a place
abbrev pub position : Model → State → ℕ → ℤ
position m s j = number_at s.q (joint m.joints j).qadr

-- n at the first dof of the joint at a place, and 0 at all others
abbrev pub at_joint : Model → ℕ → ℤ → ℕ → ℤ
at_joint m j n d = when (d == (joint m.joints j).dadr) n

-- ---- the equality at a place: joint 1's position is c0, and c1 times joint 2's more where there is one
abbrev pub following : Model → State → ℤ → Option ℕ → ℤ
following m s c1 None = pos 0
following m s c1 (Some number) = settled_mid (c1 *ℤ position m s (number - 1)) 32

abbrev pub violation : Model → State → Equality → ℤ
violation m s e = position m s (e.joint1 - 1) -ℤ e.c0.mid -ℤ following m s e.c1.mid e.joint2

abbrev pub following_slope : Model → ℤ → Option ℕ → ℕ → ℤ
following_slope m c1 None d = pos 0
following_slope m c1 (Some number) d = at_joint m (number - 1) c1 d

abbrev pub equality_slope : Model → Equality → ℕ → ℤ
equality_slope m e d = at_joint m (e.joint1 - 1) one d -ℤ following_slope m e.c1.mid e.joint2 d

unfoldable pub equality_of : Model → State → ℕ → Constraint
equality_of m s e = record {
  source = source.Equality (e + 1);
  r = violation m s (equality m.equalities e);
  soft = (equality m.equalities e).soft;
  low = None;
  high = None;
  lever = no_lever;
  jacobian = equality_slope m (equality m.equalities e);
}

-- ---- the friction of the joint at a place, which stands where it isn't 0
abbrev pub has_friction : Model → ℕ → Bool
has_friction m j = int_lt (pos 0) (joint m.joints j).frictionloss.mid

-- the greatest friction, at scale 20
abbrev pub most_friction : Model → ℕ → ℤ
most_friction m j = settled_mid (joint m.joints j).frictionloss.mid 12

abbrev pub friction_with : Source → Soft → ℤ → (ℕ → ℤ) → Constraint
friction_with from soft_ most slope = record {
  source = from;
  r = pos 0;
  soft = soft_;
  low = Some (neg_ℤ most);
  high = Some most;
  lever = no_lever;
  jacobian = slope;
}

unfoldable pub friction_of : Model → ℕ → Constraint
friction_of m j = friction_with (source.Friction (j + 1)) (joint m.joints j).soft_friction (most_friction m j) (at_joint m j one)

abbrev pub frictions : Model → ℕ → List Constraint
frictions m j = cond (has_friction m j) (friction_of m j ∷ []) []
