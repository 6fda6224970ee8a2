-- What is written while tendons are taken one after another.
use Rattle.std.specs.Prelude.{◌≡◌, ◌≢◌, ℕ, ◌^◌, ◌<◌, ◌≤◌, unsigned_abs, List, length}
use Rattle.mj_types.specs.declared.carriers.Applied.{Applied}
use Rattle.mj_types.specs.declared.model.Model.{Model}
use Rattle.mj_types.specs.declared.state.State.{State}
use Rattle.mj_types.specs.declared.parts.Term.{Term}
use Rattle.mj_types.specs.Lawful.{IsScalar}
use Rattle.mj_types.specs.Parts.{term, number_at}
use Rattle.mj_passive.specs.Forces.{tendon_length, tendon_rate}

-- the terms of a tendon: at most 64, each of a hinge or a slide
pub record AreTerms (m : Model) (terms : List Term) : Type 0 where
  pub few : length terms ≤ 64
  pub scalar : (i : ℕ) → i < length terms → IsScalar m.joints (term terms i).joint
  pub coef : (i : ℕ) → i < length terms → unsigned_abs (term terms i).coef.mid ≤ 2 ^ 42

-- tendon t's length and rate are written, within their range; all else is as before
pub record WritesStretch (m : Model) (s : State) (t : ℕ) (old new : Applied) : Type 0 where
  pub length_ : number_at new.length t ≡ tendon_length m s t
  pub rate : number_at new.rate t ≡ tendon_rate m s t
  pub other_lengths : (k : ℕ) → k ≢ t → number_at new.length k ≡ number_at old.length k
  pub other_rates : (k : ℕ) → k ≢ t → number_at new.rate k ≡ number_at old.rate k

-- the lengths and the rates of the tendons before t are written
pub record HasStretches (m : Model) (s : State) (t : ℕ) (a : Applied) : Type 0 where
  pub lengths : (k : ℕ) → k < t → number_at a.length k ≡ tendon_length m s k
  pub rates : (k : ℕ) → k < t → number_at a.rate k ≡ tendon_rate m s k
