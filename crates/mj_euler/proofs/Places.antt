-- Where the positions and the velocities of a joint stand in a state, and how large they are.
use Rattle.std.proofs.Common.{◌≡◌, ℕ, ◌+◌, ◌^◌, ◌<◌, ◌≤◌, nat_lt, true, List, length, refl, subst, arith, unsigned_abs}
use Rattle.std.proofs.lemmas.Bool.{cond-true, cond-false, lt-ltb, le-ltb}
use Rattle.fx_whole.proofs.SumLaws.{sum_ℕ_to-le, sum_ℕ_to-more}
use Rattle.fx_num.specs.declared.number.Number.{Number}
use Rattle.fx_vec.specs.Quaternions.{WithinQuaternion}
use Rattle.mj_types.specs.declared.parts.Body.{Body}
use Rattle.mj_types.specs.declared.parts.Joint.{Joint}
use Rattle.mj_types.specs.declared.parts.JointKind.{JointKind}
use Rattle.mj_types.specs.declared.parts.JointKind.TheVariants as joint_kind
use Rattle.mj_types.specs.Lawful.{AreJoints, ArePositions, position_limit}
use Rattle.mj_types.specs.Parts.{joint, number_at, position_count, velocity_count}
use Rattle.mj_euler.specs.Advance.{quaternion_from, place_count, has_quaternion}

-- they end within the state
pub places_end : (bodies : List Body) (joints : List Joint) (nq nv : ℕ) → AreJoints bodies joints nq nv → (j : ℕ) → j < length joints
    → (joint joints j).qadr + position_count (joint joints j).kind ≤ nq
places_end bodies joints nq nv js j h =
    omega (arith, js.qadr j h, js.positions, sum_ℕ_to-more j (λ i. position_count (joint joints i).kind), sum_ℕ_to-le (j + 1) (length joints) (λ i. position_count (joint joints i).kind) (omega arith))

pub speeds_end : (bodies : List Body) (joints : List Joint) (nq nv : ℕ) → AreJoints bodies joints nq nv → (j : ℕ) → j < length joints
    → (joint joints j).dadr + velocity_count (joint joints j).kind ≤ nv
speeds_end bodies joints nq nv js j h =
    omega (arith, js.dadr j h, js.velocities, sum_ℕ_to-more j (λ i. velocity_count (joint joints i).kind), sum_ℕ_to-le (j + 1) (length joints) (λ i. velocity_count (joint joints i).kind) (omega arith))

-- those of an earlier joint come before those of a later one
pub places_apart : (bodies : List Body) (joints : List Joint) (nq nv : ℕ) → AreJoints bodies joints nq nv → (j k : ℕ) → j < k → k < length joints
    → (joint joints j).qadr + position_count (joint joints j).kind ≤ (joint joints k).qadr
places_apart bodies joints nq nv js j k h l =
    omega (arith, js.qadr j (omega arith), js.qadr k l, sum_ℕ_to-more j (λ i. position_count (joint joints i).kind), sum_ℕ_to-le (j + 1) k (λ i. position_count (joint joints i).kind) (omega arith))

-- the same of a joint that was read
pub end_of : (bodies : List Body) (joints : List Joint) (nq nv : ℕ) → AreJoints bodies joints nq nv → (j : ℕ) → j < length joints → (x : Joint) → joint joints j ≡ x
    → x.qadr + position_count x.kind ≤ nq
end_of bodies joints nq nv js j h x e = subst (λ (y : Joint). y.qadr + position_count y.kind ≤ nq) e (places_end bodies joints nq nv js j h)

pub speed_end_of : (bodies : List Body) (joints : List Joint) (nq nv : ℕ) → AreJoints bodies joints nq nv → (j : ℕ) → j < length joints → (x : Joint) → joint joints j ≡ x
    → x.dadr + velocity_count x.kind ≤ nv
speed_end_of bodies joints nq nv js j h x e = subst (λ (y : Joint). y.dadr + velocity_count y.kind ≤ nv) e (speeds_end bodies joints nq nv js j h)

pub size_of : (joints : List Joint) (nq : ℕ) (q : List (Number (Unit {0}) 32)) → ArePositions joints nq q → (j : ℕ) → j < length joints → (x : Joint) → joint joints j ≡ x
    → (i : ℕ) → i < position_count x.kind → unsigned_abs (number_at q (x.qadr + i)) ≤ position_limit x.kind i
size_of joints nq q qs j h x e =
    subst (λ (y : Joint). (i : ℕ) → i < position_count y.kind → unsigned_abs (number_at q (y.qadr + i)) ≤ position_limit y.kind i) e (λ i. qs.each j i h)

-- lengths and angles come first, and then a quaternion where there is one
pub counts : (k : JointKind) → (place_count k ≤ position_count k) × (place_count k ≤ velocity_count k)
counts joint_kind.Free = (omega arith, omega arith)
counts joint_kind.Ball = (omega arith, omega arith)
counts joint_kind.Hinge = (omega arith, omega arith)
counts joint_kind.Slide = (omega arith, omega arith)

pub limits : (k : JointKind) (i : ℕ) → i < place_count k → position_limit k i ≤ 2 ^ 52
limits joint_kind.Free i h = omega (arith, cond-true (nat_lt i 3) (2 ^ 44) (2 ^ 32) (lt-ltb i 3 h))
limits joint_kind.Ball i h = absurd (omega arith)
limits joint_kind.Hinge i h = omega arith
limits joint_kind.Slide i h = omega arith

pub whole : (k : JointKind) → has_quaternion k ≡ true → (place_count k + 4 ≡ position_count k) × (place_count k + 3 ≡ velocity_count k)
whole joint_kind.Free e = (refl, refl)
whole joint_kind.Ball e = (refl, refl)
whole joint_kind.Hinge e = absurd (cc)
whole joint_kind.Slide e = absurd (cc)

-- what comes after them is a quaternion's
pub has_rest : (k : JointKind) (i : ℕ) → place_count k ≤ i → i < position_count k → has_quaternion k ≡ true
has_rest joint_kind.Free i h l = refl
has_rest joint_kind.Ball i h l = refl
has_rest joint_kind.Hinge i h l = absurd (omega arith)
has_rest joint_kind.Slide i h l = absurd (omega arith)

pub turning_limit : (k : JointKind) → has_quaternion k ≡ true → (t : ℕ) → t < 4 → position_limit k (place_count k + t) ≡ 2 ^ 32
turning_limit joint_kind.Free e t h = cond-false (nat_lt (3 + t) 3) (2 ^ 44) (2 ^ 32) (le-ltb (3 + t) 3 (omega arith))
turning_limit joint_kind.Ball e t h = refl
turning_limit joint_kind.Hinge e t h = absurd (cc)
turning_limit joint_kind.Slide e t h = absurd (cc)

-- a joint's quaternion has numbers of at most 1
pub orientation_small : (joints : List Joint) (nq : ℕ) (q : List (Number (Unit {0}) 32)) → ArePositions joints nq q → (j : ℕ) → j < length joints → (x : Joint) → joint joints j ≡ x
    → has_quaternion x.kind ≡ true → WithinQuaternion (quaternion_from q (x.qadr + place_count x.kind)) (2 ^ 32)
orientation_small joints nq q qs j h x e k = record { w = at 0 (x.qadr + place_count x.kind) (omega arith) (omega arith); x = part 1 (omega arith); y = part 2 (omega arith); z = part 3 (omega arith) }
  where
    at : (t p : ℕ) → t < 4 → x.qadr + (place_count x.kind + t) ≡ p → unsigned_abs (number_at q p) ≤ 2 ^ 32
    at t p l here =
        subst (λ (n : ℕ). unsigned_abs (number_at q n) ≤ 2 ^ 32) here
        (subst (λ (limit : ℕ). unsigned_abs (number_at q (x.qadr + (place_count x.kind + t))) ≤ limit) (turning_limit x.kind k t l)
        (size_of joints nq q qs j h x e (place_count x.kind + t) (omega (arith, (whole x.kind k).0))))

    part : (t : ℕ) → t < 4 → unsigned_abs (number_at q (x.qadr + place_count x.kind + t)) ≤ 2 ^ 32
    part t l = at t (x.qadr + place_count x.kind + t) l (omega arith)
