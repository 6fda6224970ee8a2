-- One joint more has its anchor and its directions in the lists.
use Rattle.std.proofs.Common.{◌≡◌, ℕ, ℤ, ◌+◌, ◌^◌, ◌<◌, List, length, sym, ap, ◌∙◌, subst, arith, inl, inr}
use Rattle.std.proofs.lemmas.Bool.{cases_eq}
use Rattle.fx_vec.specs.Sizes.{Within, Within6}
use Rattle.fx_vec.specs.Vectors.{Triple}
use Rattle.fx_vec.specs.Spatial.{Spatial}
use Rattle.fx_vec.specs.declared.vector.Vector3.{Vector3}
use Rattle.fx_vec.specs.declared.vector.Vector6.{Vector6}
use Rattle.mj_quat.specs.Rotation.{matrix}
use Rattle.mj_types.specs.declared.model.Model.{Model}
use Rattle.mj_types.specs.declared.state.State.{State}
use Rattle.mj_types.specs.declared.parts.Joint.{Joint}
use Rattle.mj_types.specs.Parts.{joint, number_at, velocity_count}
use Rattle.mj_types.specs.Placed.{vector_at, spatial_at}
use Rattle.mj_kin.specs.Poses.{Pose, before_joint, after_joint, anchor, axis, moved}
use Rattle.mj_kin.specs.Columns.{joint_anchor, joint_direction, direction}
use Rattle.mj_kin.specs.Working.{AreMarked, MarksJoint}
use Rattle.mj_kin.proofs.ModelLaws.{velocity_before}

pub marks_more : (m : Model) (s : State) (j : ℕ) (before after : Pose) (a a' : List (Vector3 (Unit {0}) 32)) (d d' : List (Vector6 (Unit {0}) 32))
    → j < length m.joints → before ≡ before_joint m s j → after ≡ after_joint m s j → MarksJoint (joint m.joints j) j before after a a' d d' → AreMarked m s a d j → AreMarked m s a' d' (j + 1)
marks_more m s j before after a a' d d' h e f new old = record { anchors_ = anchors; near = near; directions_ = directions; small = small }
  where
    anchors : (k : ℕ) → k < j + 1 → vector_at a' k ≡ joint_anchor m s k
    anchors k l = elim (cases_eq k j) [
      | inl q ↦ (let P : ℕ → Type 0 = λ n. vector_at a' n ≡ joint_anchor m s n in subst P (sym q) (new.anchor_ ∙ ap (λ p. anchor (joint m.joints j) p) e))
      | inr q ↦ new.others k q ∙ old.anchors_ k (omega arith)
    ]

    near : (k : ℕ) → k < j + 1 → Within (vector_at a' k) (2 ^ 54)
    near k l = elim (cases_eq k j) [
      | inl q ↦ (let P : ℕ → Type 0 = λ n. Within (vector_at a' n) (2 ^ 54) in subst P (sym q) new.near)
      | inr q ↦ (let P = λ (v : Triple ℤ). Within v (2 ^ 54) in subst P (sym (new.others k q)) (old.near k (omega arith)))
    ]

    directions : (k i : ℕ) → k < j + 1 → i < velocity_count (joint m.joints k).kind → spatial_at d' ((joint m.joints k).dadr + i) ≡ joint_direction m s k i
    directions k i l p = elim (cases_eq k j) [
      | inl q ↦ (
          let P : ℕ → Type 0 = λ n. (i < velocity_count (joint m.joints n).kind → spatial_at d' ((joint m.joints n).dadr + i) ≡ joint_direction m s n i) in
          subst P (sym q)
          (λ r. new.directions_ i r ∙ ap (λ (x : Pose). direction (joint m.joints j).kind i (axis (joint m.joints j) x) (matrix after.orientation)) e
          ∙ ap (λ (x : Pose). direction (joint m.joints j).kind i (axis (joint m.joints j) (before_joint m s j)) (matrix x.orientation)) f) p)
      | inr q ↦ new.earlier ((joint m.joints k).dadr + i) (velocity_before m k j i (omega arith) h p) ∙ old.directions_ k i (omega arith) p
    ]

    small : (k i : ℕ) → k < j + 1 → i < velocity_count (joint m.joints k).kind → Within6 (spatial_at d' ((joint m.joints k).dadr + i)) (2 ^ 35)
    small k i l p = elim (cases_eq k j) [
      | inl q ↦ (
          let P : ℕ → Type 0 = λ n. (i < velocity_count (joint m.joints n).kind → Within6 (spatial_at d' ((joint m.joints n).dadr + i)) (2 ^ 35)) in
          subst P (sym q) (new.small i) p)
      | inr q ↦ (let P = λ (v : Spatial ℤ). Within6 v (2 ^ 35) in subst P (sym (new.earlier ((joint m.joints k).dadr + i) (velocity_before m k j i (omega arith) h p))) (old.small k i (omega arith) p))
    ]

-- as a call says it, of what it read in the list of joints
pub marks_own : (m : Model) (s : State) (j place : ℕ) (jt : Joint) (before after : Pose) (a a' : List (Vector3 (Unit {0}) 32)) (d d' : List (Vector6 (Unit {0}) 32))
    → j < length m.joints → jt ≡ joint m.joints j → place ≡ j → before ≡ before_joint m s j → after ≡ moved jt.kind jt (number_at s.q) before → MarksJoint jt place before after a a' d d' → AreMarked m s a d j → AreMarked m s a' d' (j + 1)
marks_own m s j place jt before after a a' d d' h e p f g new old =
    let P = λ (x : Joint). MarksJoint x j before after a a' d d' in
    let Q : ℕ → Type 0 = λ n. MarksJoint jt n before after a a' d d' in
    marks_more m s j before after a a' d d' h f
    (g ∙ ap (λ (x : Joint). moved x.kind x (number_at s.q) before) e ∙ ap (λ (x : Pose). moved (joint m.joints j).kind (joint m.joints j) (number_at s.q) x) f)
    (subst P e (subst Q p new)) old
