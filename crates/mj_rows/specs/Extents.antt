-- The ranges of what is held within a range, and the terms of a tendon.
use Rattle.std.specs.Prelude.{ℕ, ◌^◌, ◌<◌, ◌≤◌, unsigned_abs, List, length}
use Rattle.mj_types.specs.declared.model.Model.{Model}
use Rattle.mj_types.specs.declared.parts.Term.{Term}
use Rattle.mj_types.specs.Lawful.{IsScalar, IsSoft, IsUpTo, HasRange}
use Rattle.mj_types.specs.Parts.{term}
use Rattle.mj_rows.specs.declared.limits.Extent.{Extent}

pub record IsExtent (x : Extent) : Type 0 where
  pub range : HasRange (2 ^ 52) x.range
  pub margin : IsUpTo x.margin (2 ^ 42)
  pub soft : IsSoft x.soft
  pub value : unsigned_abs x.value.mid ≤ 2 ^ 52

-- at most 64, each of a hinge or a slide
pub record AreTerms (m : Model) (terms : List Term) : Type 0 where
  pub few : length terms ≤ 64
  pub scalar : (i : ℕ) → i < length terms → IsScalar m.joints (term terms i).joint
  pub coef : (i : ℕ) → i < length terms → unsigned_abs (term terms i).coef.mid ≤ 2 ^ 42
