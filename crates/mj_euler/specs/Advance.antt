-- The state after a step by semi-implicit Euler: the acceleration gives the new velocities, and these give the new positions. MuJoCo
-- documentation, Computation chapter; scales, rounding and ranges are this project's own.
use Rattle.std.specs.Prelude.{ℕ, zero, suc, ◌+◌, ◌-◌, ◌^◌, nat_lt, Bool, true, false, cond, ℤ, pos, ◌+ℤ◌, ◌*ℤ◌, List, [], ◌∷◌, length, Option, None}
use Rattle.fx_whole.specs.Entries.{below}
use Rattle.fx_whole.specs.First.{or_first, first_to}
use Rattle.fx_whole.specs.Joined.{joined}
use Rattle.fx_whole.specs.Nearest.{nearest}
use Rattle.fx_num.specs.declared.number.Number.{Number}
use Rattle.fx_vec.specs.Vectors.{Triple}
use Rattle.fx_vec.specs.Quaternions.{Quaternion}
use Rattle.mj_quat.specs.Rotation.{advance, advance_out}
use Rattle.mj_types.specs.declared.model.Model.{Model}
use Rattle.mj_types.specs.declared.parts.Joint.{Joint}
use Rattle.mj_types.specs.declared.parts.JointKind.{JointKind}
use Rattle.mj_types.specs.declared.parts.JointKind.TheVariants as joint_kind
use Rattle.mj_types.specs.declared.range.OutOfRange.{OutOfRange}
use Rattle.mj_types.specs.declared.range.Quantity.TheVariants as kind
use Rattle.mj_types.specs.declared.state.State.{State}
use Rattle.mj_types.specs.Lawful.{position_limit}
use Rattle.mj_types.specs.Parts.{plain, joint, number_at, position_count}
use Rattle.mj_types.specs.Ranges.{limited, named}

-- x after the time h at the rate y
abbrev pub after : ℤ → ℤ → ℤ → ℤ
after h x y = x +ℤ nearest (h *ℤ y) (pos (2 ^ 32))

-- ---- velocities
abbrev pub velocity : Model → State → (ℕ → ℤ) → ℕ → ℤ
velocity m s a d = after m.h.mid (number_at s.v d) (a d)

-- all of them: none past the last dof
abbrev pub velocities : Model → State → (ℕ → ℤ) → ℕ → ℤ
velocities m s a = below (pos 0) m.nv (velocity m s a)

-- ---- positions, from the new velocities v
-- four numbers of a list, and three of a function, from a place on
abbrev pub quaternion_from : List (Number (Unit {0}) 32) → ℕ → Quaternion
quaternion_from q p = record { w = number_at q p; x = number_at q (p + 1); y = number_at q (p + 2); z = number_at q (p + 3) }

abbrev pub triple_from : (ℕ → ℤ) → ℕ → Triple ℤ
triple_from v d = record { x = v d; y = v (d + 1); z = v (d + 2) }

abbrev pub part_of : Quaternion → ℕ → ℤ
part_of q zero = q.w
part_of q (suc zero) = q.x
part_of q (suc (suc zero)) = q.y
part_of q (suc (suc (suc i))) = q.z

-- how many positions of a joint are lengths and angles; those after them are a quaternion
abbrev pub place_count : JointKind → ℕ
place_count joint_kind.Free = 3
place_count joint_kind.Ball = 0
place_count joint_kind.Hinge = 1
place_count joint_kind.Slide = 1

-- a joint's quaternion before the step, and the angular velocity that turns it
abbrev pub orientation : State → Joint → Quaternion
orientation s j = quaternion_from s.q (j.qadr + place_count j.kind)

abbrev pub spin : (ℕ → ℤ) → Joint → Triple ℤ
spin v j = triple_from v (j.dadr + place_count j.kind)

abbrev pub turned : Model → State → (ℕ → ℤ) → Joint → Quaternion
turned m s v j = advance (orientation s j) (spin v j) m.h.mid

-- position i of a joint after the step
abbrev pub position : Model → State → (ℕ → ℤ) → Joint → ℕ → ℤ
position m s v j i =
    cond (nat_lt i (place_count j.kind)) (after m.h.mid (number_at s.q (j.qadr + i)) (v (j.dadr + i))) (part_of (turned m s v j) (i - place_count j.kind))

-- ---- the state after the step
-- f 0, .., f (n - 1) as a list
abbrev pub numbers : {F : ℕ} → ℕ → (ℕ → ℤ) → List (Number (Unit {0}) F)
numbers n f = joined n (λ i. plain (f i) ∷ [])

unfoldable pub next_positions : Model → State → (ℕ → ℤ) → List (Number (Unit {0}) 32)
next_positions m s v = joined (length m.joints) (λ j. numbers (position_count (joint m.joints j).kind) (position m s v (joint m.joints j)))

abbrev pub next_state : Model → State → (ℕ → ℤ) → State
next_state m s a = record { q = next_positions m s (velocities m s a); v = numbers m.nv (velocity m s a) }

-- ---- the first number out of range: all velocities, then all positions that aren't a quaternion's, then the lengths of quaternions
abbrev pub velocity_fault : Model → State → (ℕ → ℤ) → ℕ → Option OutOfRange
velocity_fault m s a d = limited kind.Velocity (d + 1) (2 ^ 44) (velocity m s a d)

abbrev pub place_fault : Model → State → (ℕ → ℤ) → Joint → ℕ → Option OutOfRange
place_fault m s v j i =
    limited kind.Position (j.qadr + i + 1) (position_limit j.kind i) (after m.h.mid (number_at s.q (j.qadr + i)) (v (j.dadr + i)))

abbrev pub position_fault : Model → State → (ℕ → ℤ) → Joint → Option OutOfRange
position_fault m s v j = first_to (place_count j.kind) (place_fault m s v j)

abbrev pub has_quaternion : JointKind → Bool
has_quaternion joint_kind.Free = true
has_quaternion joint_kind.Ball = true
has_quaternion joint_kind.Hinge = false
has_quaternion joint_kind.Slide = false

abbrev pub norm_fault : Model → State → (ℕ → ℤ) → Joint → Option OutOfRange
norm_fault m s v j = cond (has_quaternion j.kind) (named kind.QuatNorm j.body (advance_out (orientation s j) (spin v j) m.h.mid)) None

abbrev pub state_fault : Model → State → (ℕ → ℤ) → Option OutOfRange
state_fault m s a =
    or_first (first_to m.nv (velocity_fault m s a))
    (or_first (first_to (length m.joints) (λ j. position_fault m s (velocities m s a) (joint m.joints j)))
    (first_to (length m.joints) (λ j. norm_fault m s (velocities m s a) (joint m.joints j))))
