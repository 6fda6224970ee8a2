-- The first positions and velocities of an accepted model are within their limits.
use Rattle.std.proofs.Common.{◌≡◌, ℕ, zero, suc, ◌+◌, ◌-◌, ◌^◌, ◌<◌, ◌≤◌, ◌==◌, ◌&&◌, Bool, true, List, ◌++◌, length, replicate, codes, Option, Some, None, Ok, Err, pos, unsigned_abs, refl, sym, ap, subst, ◌∙◌, arith, inl, inr}
use Rattle.std.specs.Prelude.{is_ok}
use Rattle.std.proofs.lemmas.Bool.{cases_eq}
use Rattle.std.proofs.lemmas.List.{length-replicate, get_or-replicate}
use Rattle.std.proofs.lemmas.Bool.Decides.{nat_tests}
use Rattle.fx_whole.specs.Joined.{joined}
use Rattle.fx_whole.proofs.JoinedLaws.{joined-length}
use Rattle.fx_whole.proofs.SumLaws.{sum_ℕ_to-ext}
use Rattle.fx_vec.specs.Quaternions.{quaternion, WithinQuaternion}
use Rattle.fx_vec.specs.declared.vector.Q4.{Q4}
use Rattle.mj_types.specs.declared.parts.Body.{Body}
use Rattle.mj_types.specs.declared.parts.Joint.{Joint}
use Rattle.mj_types.specs.declared.parts.JointKind.{JointKind}
use Rattle.mj_types.specs.declared.parts.JointKind.TheVariants as joint_kind
use Rattle.mj_types.specs.declared.status.ModelCode.TheVariants as code
use Rattle.mj_types.specs.Parts.{plain, body, joint, number_at, position_count}
use Rattle.mj_types.specs.Lawful.{IsBody, AreBodies, AreJoints, ArePositions, AreVelocities, position_limit, positions_before}
use Rattle.mj_form.specs.Reading.{at_key}
use Rattle.mj_read.specs.declared.keyframes.RawKeyframe.{RawKeyframe}
use Rattle.mj_judge.specs.Judged.{Judged, unless, limited}
use Rattle.mj_judge.specs.Vectors.{is_small_quaternion, turned}
use Rattle.mj_layout.proofs.PlaceLaws.{before, joined-at}
use Rattle.mj_valid.specs.Start.{Fix, entry, is_small, all_to, rest_positions, quaternion_at, unit_of, value_or, settled, given_positions, is_near, in_limits, is_turned, are_in_limits, are_turned, qpos, qvel, if_given, keyframe, start, given_qpos, given_qvel, positions_at, first_positions, first_velocities}
use Rattle.mj_valid.proofs.Chains.{chain, at_key-ok, under-ok, unless-good}
use Rattle.mj_valid.proofs.KeyLaws.{first-of, second-of, at-most, turned-is}

pub all_to-at : (n : ℕ) (p : ℕ → Bool) → all_to n p ≡ true → (j : ℕ) → j < n → p j ≡ true
all_to-at zero p h j l = absurd (omega arith)
all_to-at (suc n) p h j l =
    elim (cases_eq j n) [
      | inl e ↦ (let P : ℕ → Type 0 = λ k. p k ≡ true in subst P (sym e) (second-of (all_to n p) (p n) h))
      | inr ne ↦ all_to-at n p (first-of (all_to n p) (p n) h) j (omega arith)
    ]

-- ---- at rest
rest_count : (b : Body) (kind : JointKind) → length (rest_positions b kind) ≡ position_count kind
rest_count b joint_kind.Free = refl
rest_count b joint_kind.Ball = refl
rest_count b joint_kind.Hinge = refl
rest_count b joint_kind.Slide = refl

rest_limit : (b : Body) → IsBody b → (kind : JointKind) (i : ℕ) → i < position_count kind → unsigned_abs (number_at (rest_positions b kind) i) ≤ position_limit kind i
rest_limit b h joint_kind.Free zero l = omega (arith, h.pos_.x)
rest_limit b h joint_kind.Free (suc zero) l = omega (arith, h.pos_.y)
rest_limit b h joint_kind.Free (suc (suc zero)) l = omega (arith, h.pos_.z)
rest_limit b h joint_kind.Free (suc (suc (suc zero))) l = h.quat.w
rest_limit b h joint_kind.Free (suc (suc (suc (suc zero)))) l = h.quat.x
rest_limit b h joint_kind.Free (suc (suc (suc (suc (suc zero))))) l = h.quat.y
rest_limit b h joint_kind.Free (suc (suc (suc (suc (suc (suc zero)))))) l = h.quat.z
rest_limit b h joint_kind.Free (suc (suc (suc (suc (suc (suc (suc i))))))) l = absurd (omega arith)
rest_limit b h joint_kind.Ball zero l = omega arith
rest_limit b h joint_kind.Ball (suc zero) l = omega arith
rest_limit b h joint_kind.Ball (suc (suc zero)) l = omega arith
rest_limit b h joint_kind.Ball (suc (suc (suc zero))) l = omega arith
rest_limit b h joint_kind.Ball (suc (suc (suc (suc i)))) l = absurd (omega arith)
rest_limit b h joint_kind.Hinge zero l = omega arith
rest_limit b h joint_kind.Hinge (suc i) l = absurd (omega arith)
rest_limit b h joint_kind.Slide zero l = omega arith
rest_limit b h joint_kind.Slide (suc i) l = absurd (omega arith)

-- ---- as the keyframe says
unit_size : (q r : Q4) → unit_of q ≡ Ok r → WithinQuaternion (quaternion r) (2 ^ 32)
unfolding unit_of
unit_size q r h = chain (limited (is_small_quaternion (2 ^ 42) q) q) turned r h (λ p _ t. turned-is p r t)

value_size : (q : Q4) (u : Judged Q4) → ((r : Q4) → u ≡ Ok r → WithinQuaternion (quaternion r) (2 ^ 32)) → is_ok u ≡ true → WithinQuaternion (quaternion (value_or q u)) (2 ^ 32)
value_size q (Ok r) h good = h r refl
value_size q (Err code) h good = absurd cc

settled_size : (xs : List (Fix 32)) (i : ℕ) → is_ok (unit_of (quaternion_at xs i)) ≡ true → WithinQuaternion (quaternion (settled xs i)) (2 ^ 32)
unfolding settled
settled_size xs i good = value_size (quaternion_at xs i) (unit_of (quaternion_at xs i)) (λ r e. unit_size (quaternion_at xs i) r e) good

given_count : (xs : List (Fix 32)) (i : ℕ) (kind : JointKind) → length (given_positions xs i kind) ≡ position_count kind
given_count xs i joint_kind.Free = refl
given_count xs i joint_kind.Ball = refl
given_count xs i joint_kind.Hinge = refl
given_count xs i joint_kind.Slide = refl

near_at : (xs : List (Fix 32)) (a : ℕ) (rest : Bool) → (is_near xs a && rest) ≡ true → (unsigned_abs (entry xs a).mid ≤ 2 ^ 44) × (unsigned_abs (entry xs (a + 1)).mid ≤ 2 ^ 44) × (unsigned_abs (entry xs (a + 2)).mid ≤ 2 ^ 44)
near_at xs a rest h =
    let p = is_small (2 ^ 44) (entry xs a).mid in
    let q = is_small (2 ^ 44) (entry xs (a + 1)).mid in
    let r = is_small (2 ^ 44) (entry xs (a + 2)).mid in
    let all : (p && (q && r)) ≡ true = first-of (is_near xs a) rest h in
    let later : (q && r) ≡ true = second-of p (q && r) all in
    (at-most _ _ (first-of p (q && r) all), at-most _ _ (first-of q r later), at-most _ _ (second-of q r later))

given_limit : (xs : List (Fix 32)) (a : ℕ) (kind : JointKind) → in_limits xs a kind ≡ true → is_turned xs a kind ≡ true
    → (i : ℕ) → i < position_count kind → unsigned_abs (number_at (given_positions xs a kind) i) ≤ position_limit kind i
given_limit xs a joint_kind.Free h t zero l = (near_at xs a _ h).0
given_limit xs a joint_kind.Free h t (suc zero) l = (near_at xs a _ h).1
given_limit xs a joint_kind.Free h t (suc (suc zero)) l = (near_at xs a _ h).2
given_limit xs a joint_kind.Free h t (suc (suc (suc zero))) l = (settled_size xs (a + 3) t).w
given_limit xs a joint_kind.Free h t (suc (suc (suc (suc zero)))) l = (settled_size xs (a + 3) t).x
given_limit xs a joint_kind.Free h t (suc (suc (suc (suc (suc zero))))) l = (settled_size xs (a + 3) t).y
given_limit xs a joint_kind.Free h t (suc (suc (suc (suc (suc (suc zero)))))) l = (settled_size xs (a + 3) t).z
given_limit xs a joint_kind.Free h t (suc (suc (suc (suc (suc (suc (suc i))))))) l = absurd (omega arith)
given_limit xs a joint_kind.Ball h t zero l = (settled_size xs a t).w
given_limit xs a joint_kind.Ball h t (suc zero) l = (settled_size xs a t).x
given_limit xs a joint_kind.Ball h t (suc (suc zero)) l = (settled_size xs a t).y
given_limit xs a joint_kind.Ball h t (suc (suc (suc zero))) l = (settled_size xs a t).z
given_limit xs a joint_kind.Ball h t (suc (suc (suc (suc i)))) l = absurd (omega arith)
given_limit xs a joint_kind.Hinge h t zero l = at-most _ _ h
given_limit xs a joint_kind.Hinge h t (suc i) l = absurd (omega arith)
given_limit xs a joint_kind.Slide h t zero l = at-most _ _ h
given_limit xs a joint_kind.Slide h t (suc i) l = absurd (omega arith)

-- ---- what an accepted keyframe says
pub record IsGiven (joints : List Joint) (nq : ℕ) (xs : List (Fix 32)) : Type 0 where
  pub limits : are_in_limits joints xs ≡ true
  pub turned_ : are_turned joints xs ≡ true

qpos-is : (joints : List Joint) (nq : ℕ) (xs : List (Fix 32)) (u : Unit {0}) → qpos joints nq xs ≡ Ok u → IsGiven joints nq xs
unfolding qpos
qpos-is joints nq xs u h =
    chain (unless (length xs == nq) code.BadRange) _ u h (λ u1 e1 h1.
    chain (unless (are_in_limits joints xs) code.LimitPassed) _ u h1 (λ u2 e2 h2.
    record { limits = unless-good _ _ u2 e2; turned_ = unless-good _ _ u h2 }))

pub record IsMoving (nv : ℕ) (xs : List (Fix 32)) : Type 0 where
  pub count : (length xs == nv) ≡ true
  pub limits : all_to nv (λ d. is_small (2 ^ 44) (entry xs d).mid) ≡ true

qvel-is : (nv : ℕ) (xs : List (Fix 32)) (u : Unit {0}) → qvel nv xs ≡ Ok u → IsMoving nv xs
unfolding qvel
qvel-is nv xs u h =
    chain (unless (length xs == nv) code.BadRange) _ u h (λ u1 e1 h1.
    record { count = unless-good _ _ u1 e1; limits = unless-good _ _ u h1 })

pub start-qpos : (joints : List Joint) (nq nv : ℕ) (k : Option RawKeyframe) (u : Unit {0}) → start joints nq nv k ≡ Ok u
    → (xs : List (Fix 32)) → given_qpos k ≡ Some xs → IsGiven joints nq xs
unfolding keyframe
start-qpos joints nq nv None u h xs e = absurd cc
start-qpos joints nq nv (Some k) u h xs e =
    chain (at_key (codes "qpos") (if_given (qpos joints nq) k.qpos)) _ u (under-ok (codes "keyframe" ++ codes ".") (keyframe joints nq nv k) u h) (λ u1 e1 h1.
    (let P : Option (List (Fix 32)) → Type 0 = λ o. if_given (qpos joints nq) o ≡ Ok u1 in
    qpos-is joints nq xs u1 (subst P e (at_key-ok (codes "qpos") _ u1 e1))))

pub start-qvel : (joints : List Joint) (nq nv : ℕ) (k : Option RawKeyframe) (u : Unit {0}) → start joints nq nv k ≡ Ok u
    → (xs : List (Fix 32)) → given_qvel k ≡ Some xs → IsMoving nv xs
unfolding keyframe
start-qvel joints nq nv None u h xs e = absurd cc
start-qvel joints nq nv (Some k) u h xs e =
    chain (at_key (codes "qpos") (if_given (qpos joints nq) k.qpos)) _ u (under-ok (codes "keyframe" ++ codes ".") (keyframe joints nq nv k) u h) (λ u1 e1 h1.
    chain (at_key (codes "qvel") (if_given (qvel nv) k.qvel)) _ u h1 (λ u2 e2 h2.
    (let P : Option (List (Fix 32)) → Type 0 = λ o. if_given (qvel nv) o ≡ Ok u2 in
    qvel-is nv xs u2 (subst P e (at_key-ok (codes "qvel") _ u2 e2)))))

-- ---- all joints
module _ (bodies : List Body) (joints : List Joint) (nq nv : ℕ) (b : AreBodies bodies) (h : AreJoints bodies joints nq nv) where
  count_at : (given : Option (List (Fix 32))) (j : ℕ) → length (positions_at bodies joints given j) ≡ position_count (joint joints j).kind
  count_at None j = rest_count (body bodies ((joint joints j).body - 1)) (joint joints j).kind
  count_at (Some xs) j = given_count xs (joint joints j).qadr (joint joints j).kind

  before_at : (given : Option (List (Fix 32))) (j : ℕ) → before (positions_at bodies joints given) j ≡ positions_before joints j
  before_at given j = sum_ℕ_to-ext j (λ k. length (positions_at bodies joints given k)) (λ i. position_count (joint joints i).kind) (λ k p. count_at given k)

  limit_at : (given : Option (List (Fix 32))) → ((xs : List (Fix 32)) → given ≡ Some xs → IsGiven joints nq xs) → (j i : ℕ) → j < length joints
      → i < position_count (joint joints j).kind → unsigned_abs (number_at (positions_at bodies joints given j) i) ≤ position_limit (joint joints j).kind i
  limit_at None g j i l m =
      rest_limit (body bodies ((joint joints j).body - 1)) (b.each ((joint joints j).body - 1) (omega (arith, h.not_world j l, h.on_body j l))) (joint joints j).kind i m
  limit_at (Some xs) g j i l m =
      let k = g xs refl in
      given_limit xs (joint joints j).qadr (joint joints j).kind
      (all_to-at (length joints) (λ j. in_limits xs (joint joints j).qadr (joint joints j).kind) k.limits j l)
      (all_to-at (length joints) (λ j. is_turned xs (joint joints j).qadr (joint joints j).kind) k.turned_ j l) i m

  pub are_positions : (given : Option (List (Fix 32))) → ((xs : List (Fix 32)) → given ≡ Some xs → IsGiven joints nq xs) → ArePositions joints nq (first_positions bodies joints given)
  unfolding first_positions
  are_positions given g = record {
    many = joined-length (length joints) (positions_at bodies joints given) ∙ before_at given (length joints) ∙ sym h.positions;
    each = λ j i l m. (let at : (joint joints j).qadr + i ≡ before (positions_at bodies joints given) j + i = omega (arith, h.qadr j l, before_at given j) in
        let e : number_at (joined (length joints) (positions_at bodies joints given)) ((joint joints j).qadr + i) ≡ number_at (positions_at bodies joints given j) i =
        ap (λ (k : ℕ). number_at (joined (length joints) (positions_at bodies joints given)) k) at
        ∙ ap (λ (x : Fix 32). x.mid) (joined-at (length joints) (positions_at bodies joints given) j i (plain (pos 0)) l (omega (arith, m, count_at given j))) in
        omega (arith, ap unsigned_abs e, limit_at given g j i l m));
  }

same : (a b : ℕ) → (a == b) ≡ true → a ≡ b
same a b h = grind (arith, nat_tests)

pub are_velocities : (nv : ℕ) (given : Option (List (Fix 32))) → ((xs : List (Fix 32)) → given ≡ Some xs → IsMoving nv xs) → AreVelocities nv (first_velocities nv given)
are_velocities nv None g = record { many = length-replicate nv (plain (pos 0)); each = λ d l. (let e : number_at (replicate nv (plain (pos 0))) d ≡ pos 0 = ap (λ (x : Fix 32). x.mid) (get_or-replicate nv d (plain (pos 0)) (plain (pos 0)) l) in omega (arith, ap unsigned_abs e)) }
are_velocities nv (Some xs) g =
    let k = g xs refl in
    record { many = same (length xs) nv k.count; each = λ d l. at-most _ _ (all_to-at nv (λ d. is_small (2 ^ 44) (entry xs d).mid) k.limits d l) }
