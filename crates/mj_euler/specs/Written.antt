-- What the new state holds while it is written: velocities, then lengths and angles, then quaternions.
use Rattle.std.specs.Prelude.{◌≡◌, ℕ, ◌+◌, ◌^◌, ◌<◌, ◌≤◌, true, ℤ, List, length, unsigned_abs}
use Rattle.fx_num.specs.declared.number.Number.{Number}
use Rattle.fx_vec.specs.Quaternions.{WithinQuaternion}
use Rattle.mj_types.specs.declared.model.Model.{Model}
use Rattle.mj_types.specs.declared.parts.Joint.{Joint}
use Rattle.mj_types.specs.declared.state.State.{State}
use Rattle.mj_types.specs.Lawful.{position_limit}
use Rattle.mj_types.specs.Parts.{joint, number_at}
use Rattle.mj_euler.specs.Advance.{after, place_count, has_quaternion, quaternion_from, turned}

-- a joint's lengths and angles are the new ones, each within its limit
pub record AreMoved (m : Model) (s : State) (v : ℕ → ℤ) (j : Joint) (q : List (Number (Unit {0}) 32)) : Type 0 where
  pub value : (i : ℕ) → i < place_count j.kind → number_at q (j.qadr + i) ≡ after m.h.mid (number_at s.q (j.qadr + i)) (v (j.dadr + i))
  pub small : (i : ℕ) → i < place_count j.kind → unsigned_abs (number_at q (j.qadr + i)) ≤ position_limit j.kind i

-- its quaternion, where it has one, is the new one
pub record IsTurned (m : Model) (s : State) (v : ℕ → ℤ) (j : Joint) (q : List (Number (Unit {0}) 32)) : Type 0 where
  pub value : has_quaternion j.kind ≡ true → quaternion_from q (j.qadr + place_count j.kind) ≡ turned m s v j
  pub small : has_quaternion j.kind ≡ true → WithinQuaternion (quaternion_from q (j.qadr + place_count j.kind)) (2 ^ 32)

-- of the first n joints
pub record AreAllMoved (m : Model) (s : State) (v : ℕ → ℤ) (n : ℕ) (q : List (Number (Unit {0}) 32)) : Type 0 where
  pub each : (j : ℕ) → j < n → AreMoved m s v (joint m.joints j) q

pub record AreAllTurned (m : Model) (s : State) (v : ℕ → ℤ) (n : ℕ) (q : List (Number (Unit {0}) 32)) : Type 0 where
  pub each : (j : ℕ) → j < n → IsTurned m s v (joint m.joints j) q

-- a state with room for the model's positions and velocities
pub record StateRoom (m : Model) (s : State) : Type 0 where
  pub q : length s.q ≡ m.nq
  pub v : length s.v ≡ m.nv
