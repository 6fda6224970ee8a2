-- What the lists hold while bodies are placed one after another.
use Rattle.std.proofs.Common.{◌≡◌, ◌≢◌, ℕ, ◌+◌, ◌-◌, ◌^◌, ◌<◌, ◌≤◌, ◌==◌, if◌then◌else◌, List, length, ℤ, sym, ap, ◌∙◌, subst, arith, inl, inr}
use Rattle.std.proofs.lemmas.Bool.{cases_eq, eq-eqb, ne_eqb, cond-true, cond-false}
use Rattle.fx_vec.specs.Vectors.{Triple}
use Rattle.fx_vec.specs.Spatial.{Inertia, Spatial}
use Rattle.fx_vec.specs.Sizes.{Within, Within6}
use Rattle.fx_vec.specs.Quaternions.{WithinQuaternion}
use Rattle.fx_vec.proofs.Bounds.{within-le}
use Rattle.fx_vec.specs.declared.vector.Vector3.{Vector3}
use Rattle.fx_vec.specs.declared.vector.Vector6.{Vector6}
use Rattle.fx_vec.specs.declared.vector.Q4.{Q4}
use Rattle.mj_types.specs.declared.model.Model.{Model}
use Rattle.mj_types.specs.declared.state.State.{State}
use Rattle.mj_types.specs.declared.carriers.Frames.{Frames}
use Rattle.mj_types.specs.Parts.{body, dof}
use Rattle.mj_types.specs.Placed.{vector_at, quaternion_at, inertia_at, spatial_at}
use Rattle.mj_kin.specs.Poses.{Pose, world, pose}
use Rattle.mj_kin.specs.Bodies.{center, reference, body_inertia}
use Rattle.mj_kin.specs.Working.{entry_pose, listed_pose, AreNear, ArePosed, AreMassed, AreMarked, ArePlaced, WritesBody, joints_before, AreSet, AreColumns, ArePoints, AreAnchors}
use Rattle.mj_kin.specs.Columns.{column, dof_direction}
use Rattle.mj_quat.specs.Rotation.{IsUnit}
use Rattle.mj_kin.specs.Placings.{geom_pose}
use Rattle.mj_types.proofs.ModelLaws.{root_there}
use Rattle.mj_kin.proofs.PoseLaws.{pose-zero}

-- the pose of a body by its number
pub listed-is : (m : Model) (s : State) (xs : List (Vector3 (Unit {0}) 32)) (qs : List Q4) (n k : ℕ) → ArePosed m s xs qs n → k ≤ n → listed_pose xs qs k ≡ pose m s k
listed-is m s xs qs n k posed h = elim (cases_eq k 0) [
  | inl e ↦ cond-true (k == 0) world (entry_pose xs qs (k - 1)) (eq-eqb k 0 e) ∙ sym (pose-zero m s) ∙ ap (pose m s) (sym e)
  | inr e ↦ cond-false (k == 0) world (entry_pose xs qs (k - 1)) (ne_eqb k 0 e) ∙ posed.poses (k - 1) (omega arith) ∙ ap (pose m s) (omega arith)
]

pub near-less : (xs : List (Vector3 (Unit {0}) 32)) (qs : List Q4) (n k : ℕ) → AreNear xs qs n → k ≤ n → AreNear xs qs k
near-less xs qs n k near h = record { near = λ b l. near.near b (omega arith); small = λ b l. near.small b (omega arith) }

-- ---- the reference point of a body that is about to be written, which may be its own place
abbrev pub point_at : Model → ℕ → Triple ℤ → List (Vector3 (Unit {0}) 32) → Triple ℤ
point_at m b own xs = if (body m.bodies b).root == b + 1 then own else vector_at xs ((body m.bodies b).root - 1)

pub point-is : (m : Model) (s : State) (b : ℕ) (p : Pose) (xs : List (Vector3 (Unit {0}) 32)) (qs : List Q4) → b < length m.bodies → ArePosed m s xs qs b → p ≡ pose m s (b + 1)
    → point_at m b p.position xs ≡ reference m s b
point-is m s b p xs qs h posed e =
    let r = (body m.bodies b).root in
    elim (cases_eq r (b + 1)) [
      | inl q ↦ cond-true (r == b + 1) p.position (vector_at xs (r - 1)) (eq-eqb r (b + 1) q) ∙ ap (λ (x : Pose). x.position) e ∙ ap (λ (n : ℕ). (pose m s n).position) (sym q)
      | inr q ↦ (
          let there = root_there m b h in
          cond-false (r == b + 1) p.position (vector_at xs (r - 1)) (ne_eqb r (b + 1) q)
          ∙ ap (λ (x : Pose). x.position) (posed.poses (r - 1) (omega arith)) ∙ ap (λ (n : ℕ). (pose m s n).position) (omega arith))
    ]

pub point-near : (m : Model) (b : ℕ) (own : Triple ℤ) (xs : List (Vector3 (Unit {0}) 32)) (qs : List Q4) → b < length m.bodies → AreNear xs qs b → Within own (2 ^ 53) → Within (point_at m b own xs) (2 ^ 53)
point-near m b own xs qs h near k =
    let r = (body m.bodies b).root in
    let P = λ (v : Triple ℤ). Within v (2 ^ 53) in
    elim (cases_eq r (b + 1)) [
      | inl q ↦ subst P (sym (cond-true (r == b + 1) own (vector_at xs (r - 1)) (eq-eqb r (b + 1) q))) k
      | inr q ↦ (
          let there = root_there m b h in
          subst P (sym (cond-false (r == b + 1) own (vector_at xs (r - 1)) (ne_eqb r (b + 1) q)))
          (within-le (vector_at xs (r - 1)) (2 ^ 44) (2 ^ 53) (near.near (r - 1) (omega arith)) (omega arith)))
    ]

-- ---- one body more
-- what holds of each entry below b holds below b + 1
more : (P : ℕ → Type 0) (b : ℕ) → P b → ((k : ℕ) → k < b → P k) → (k : ℕ) → k < b + 1 → P k
more P b here before k h = elim (cases_eq k b) [ inl e ↦ subst P (sym e) here | inr e ↦ before k (omega arith) ]

pub placed_more : (m : Model) (s : State) (b : ℕ) (p : Pose) (c : Triple ℤ) (i : Inertia) (old new : Frames) → WritesBody b p c i old new
    → p ≡ pose m s (b + 1) → c ≡ center m s b → i ≡ body_inertia m s b → Within p.position (2 ^ 44) → WithinQuaternion p.orientation (2 ^ 32)
    → ArePosed m s old.pos old.quat b → AreMassed m s old.com old.inertia b → AreMarked m s old.anchor old.column (joints_before m (b + 1)) → ArePlaced m s new (b + 1)
placed_more m s b p c i old new w e f g near small posed massed marked = record {
  posed = record {
    poses = more (λ k. entry_pose new.pos new.quat k ≡ pose m s (k + 1)) b (w.pose_ ∙ e) (λ k h. w.poses k (λ q. omega (arith, q)) ∙ posed.poses k h);
    near = record {
      near = more (λ k. Within (vector_at new.pos k) (2 ^ 44)) b (subst N (sym w.pose_) near) (λ k h. subst N (sym (w.poses k (λ q. omega (arith, q)))) (posed.near.near k h));
      small = more (λ k. WithinQuaternion (quaternion_at new.quat k) (2 ^ 32)) b (subst Q (sym w.pose_) small) (λ k h. subst Q (sym (w.poses k (λ q. omega (arith, q)))) (posed.near.small k h));
    };
  };
  massed = record {
    centers_ = more (λ k. vector_at new.com k ≡ center m s k) b (w.center_ ∙ f) (λ k h. w.centers_ k (λ q. omega (arith, q)) ∙ massed.centers_ k h);
    inertias_ = more (λ k. inertia_at new.inertia k ≡ body_inertia m s k) b (w.inertia_ ∙ g) (λ k h. w.inertias_ k (λ q. omega (arith, q)) ∙ massed.inertias_ k h);
  };
  marked = subst A (sym w.anchors_) (subst C (sym w.directions_) marked);
}
  where
    N : Pose → Type 0
    N x = Within x.position (2 ^ 44)

    Q : Pose → Type 0
    Q x = WithinQuaternion x.orientation (2 ^ 32)

    A : List (Vector3 (Unit {0}) 32) → Type 0
    A x = AreMarked m s x new.column (joints_before m (b + 1))

    C : List (Vector6 (Unit {0}) 32) → Type 0
    C x = AreMarked m s old.anchor x (joints_before m (b + 1))

pub set_more : (m : Model) (s : State) (g : ℕ) (p : Pose) (xs xs' : List (Vector3 (Unit {0}) 32)) (qs qs' : List Q4) → entry_pose xs' qs' g ≡ p
    → ((k : ℕ) → k ≢ g → entry_pose xs' qs' k ≡ entry_pose xs qs k) → p ≡ geom_pose m s g → Within p.position (2 ^ 46) → IsUnit p.orientation → AreSet m s xs qs g → AreSet m s xs' qs' (g + 1)
set_more m s g p xs xs' qs qs' here others e near unit set = record {
  poses = more (λ k. entry_pose xs' qs' k ≡ geom_pose m s k) g (here ∙ e) (λ k h. others k (λ q. omega (arith, q)) ∙ set.poses k h);
  near = more (λ k. Within (vector_at xs' k) (2 ^ 46)) g (subst N (sym here) near) (λ k h. subst N (sym (others k (λ q. omega (arith, q)))) (set.near k h));
  units = more (λ k. IsUnit (quaternion_at qs' k)) g (subst U (sym here) unit) (λ k h. subst U (sym (others k (λ q. omega (arith, q)))) (set.units k h));
}
  where
    N : Pose → Type 0
    N x = Within x.position (2 ^ 46)

    U : Pose → Type 0
    U x = IsUnit x.orientation

-- ---- columns
-- the directions of all joints are those of all dofs
pub columns_begin : (m : Model) (s : State) (a : List (Vector3 (Unit {0}) 32)) (d : List (Vector6 (Unit {0}) 32)) → AreMarked m s a d (length m.joints) → AreColumns m s d 0
columns_begin m s a cs marked = record {
  made = λ d h. absurd (omega arith);
  within = λ d h. absurd (omega arith);
  directed = λ d h l. (
      let x = m.of_dofs.each d l in
      subst (λ (n : ℕ). spatial_at cs n ≡ dof_direction m s d) (sym x.place) (marked.directions_ ((dof m.dofs d).joint - 1) (dof m.dofs d).part (omega (arith, x.some, x.joint_)) x.part));
  small = λ d h l. (
      let x = m.of_dofs.each d l in
      subst (λ (n : ℕ). Within6 (spatial_at cs n) (2 ^ 35)) (sym x.place) (marked.small ((dof m.dofs d).joint - 1) (dof m.dofs d).part (omega (arith, x.some, x.joint_)) x.part));
}

pub columns_more : (m : Model) (s : State) (d : ℕ) (v : Spatial ℤ) (cs cs' : List (Vector6 (Unit {0}) 32)) → spatial_at cs' d ≡ v
    → ((k : ℕ) → k ≢ d → spatial_at cs' k ≡ spatial_at cs k) → v ≡ column m s d → Within6 v (2 ^ 42) → AreColumns m s cs d → AreColumns m s cs' (d + 1)
columns_more m s d v cs cs' here others e near old = record {
  made = more (λ k. spatial_at cs' k ≡ column m s k) d (here ∙ e) (λ k h. others k (λ q. omega (arith, q)) ∙ old.made k h);
  within = more (λ k. Within6 (spatial_at cs' k) (2 ^ 42)) d (subst (λ x. Within6 x (2 ^ 42)) (sym here) near) (λ k h. subst (λ x. Within6 x (2 ^ 42)) (sym (others k (λ q. omega (arith, q)))) (old.within k h));
  directed = λ k h l. others k (λ q. omega (arith, q)) ∙ old.directed k (omega arith) l;
  small = λ k h l. subst (λ x. Within6 x (2 ^ 35)) (sym (others k (λ q. omega (arith, q)))) (old.small k (omega arith) l);
}

-- ---- what is there when all bodies are placed
pub points-all : (m : Model) (s : State) (xs : List (Vector3 (Unit {0}) 32)) (qs : List Q4) → ArePosed m s xs qs (length m.bodies) → ArePoints m s xs
points-all m s xs qs posed = record { points = λ b h. ap (λ (p : Pose). p.position) (posed.poses b h); near = posed.near.near }

pub anchors-all : (m : Model) (s : State) (a : List (Vector3 (Unit {0}) 32)) (d : List (Vector6 (Unit {0}) 32)) → AreMarked m s a d (length m.joints) → AreAnchors m s a
anchors-all m s a d marked = record { anchors_ = marked.anchors_; near = marked.near }

-- before any body is placed
pub placed_none : (m : Model) (s : State) (f : Frames) → ArePlaced m s f 0
placed_none m s f = record {
  posed = record { poses = λ b h. absurd (omega arith); near = record { near = λ b h. absurd (omega arith); small = λ b h. absurd (omega arith) } };
  massed = record { centers_ = λ b h. absurd (omega arith); inertias_ = λ b h. absurd (omega arith) };
  marked = record { anchors_ = λ b h. absurd (omega arith); near = λ b h. absurd (omega arith); directions_ = λ j i h k. absurd (omega arith); small = λ j i h k. absurd (omega arith) };
}

pub set_none : (m : Model) (s : State) (xs : List (Vector3 (Unit {0}) 32)) (qs : List Q4) → AreSet m s xs qs 0
set_none m s xs qs = record { poses = λ g h. absurd (omega arith); near = λ g h. absurd (omega arith); units = λ g h. absurd (omega arith) }

-- all joints are marked where all bodies are placed
pub marked-all : (m : Model) (s : State) (f : Frames) → ArePlaced m s f (length m.bodies) → AreMarked m s f.anchor f.column (length m.joints)
marked-all m s f placed =
    let P : ℕ → Type 0 = λ n. AreMarked m s f.anchor f.column n in
    subst P (sym m.of_joints.whole) placed.marked
