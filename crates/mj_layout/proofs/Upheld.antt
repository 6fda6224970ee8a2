-- What holds of the joints that are placed so far: the counts of their positions and velocities stay small.
use Rattle.std.proofs.Common.{suc, ◌<◌, ◌≡◌, length, length-append, refl, ℕ, ◌+◌, ◌*◌, ◌≤◌, List, [], ◌∷◌, ◌++◌, ap, ap₂, ◌∙◌, arith}
use Rattle.fx_whole.proofs.SumLaws.{sum_ℕ_to-more, sum_ℕ_to-le}
use Rattle.fx_whole.proofs.JoinedLaws.{joined-length}
use Rattle.mj_types.specs.declared.parts.Joint.{Joint}
use Rattle.mj_types.specs.declared.parts.JointKind.{JointKind}
use Rattle.mj_types.specs.declared.parts.JointKind.TheVariants as joint_kind
use Rattle.mj_types.specs.Parts.{joint, position_count, velocity_count}
use Rattle.mj_layout.specs.declared.layout.Placed.{Placed}
use Rattle.mj_layout.specs.Layout.{placed_joint}
use Rattle.mj_layout.specs.Placing.{IsPlaced}
use Rattle.mj_types.specs.declared.parts.Body.{Body}
use Rattle.mj_layout.specs.declared.layout.BodyParts.{BodyParts}
use Rattle.mj_layout.specs.Layout.{listed, placed_body, body_from, first_joint, part, joints_on}
use Rattle.mj_layout.proofs.PlaceLaws.{listed-more, joined-start}
use Rattle.mj_layout.proofs.RootLaws.{body-next}

pub record IsUpheld (joints : List Joint) (j : ℕ) (p : Placed) : Type 0 where
  pub so_far : IsPlaced joints j p
  pub few : p.nq ≤ 7 * j
  pub less : p.nv ≤ 6 * j

pub few_positions : (kind : JointKind) → position_count kind ≤ 7
few_positions joint_kind.Free = omega arith
few_positions joint_kind.Ball = omega arith
few_positions joint_kind.Hinge = omega arith
few_positions joint_kind.Slide = omega arith

pub few_velocities : (kind : JointKind) → velocity_count kind ≤ 6
few_velocities joint_kind.Free = omega arith
few_velocities joint_kind.Ball = omega arith
few_velocities joint_kind.Hinge = omega arith
few_velocities joint_kind.Slide = omega arith

-- one joint more
pub upheld-more : (joints : List Joint) (j : ℕ) (p q : Placed) (x : Joint) (nq nv : ℕ) → IsUpheld joints j p
    → x ≡ record (joint joints j) { qadr = p.nq; dadr = p.nv } → q.joints.items ≡ p.joints.items ++ x ∷ []
    → nq ≡ position_count x.kind → nv ≡ velocity_count x.kind → q.nq ≡ p.nq + nq → q.nv ≡ p.nv + nv → IsUpheld joints (j + 1) q
upheld-more joints j p q x nq nv h e pushed positions velocities more more' =
    let kind : x.kind ≡ (joint joints j).kind = ap (λ (y : Joint). y.kind) e in
    let np : nq ≡ position_count (joint joints j).kind = positions ∙ ap position_count kind in
    let nw : nv ≡ velocity_count (joint joints j).kind = velocities ∙ ap velocity_count kind in
    let places : x ≡ placed_joint joints j = e ∙ ap₂ (λ (a b : ℕ). record (joint joints j) { qadr = a; dadr = b }) h.so_far.nq h.so_far.nv in
    record {
      so_far = record {
        joints_ = pushed ∙ listed-more p.joints.items x j (placed_joint joints) h.so_far.joints_ places;
        nq = omega (arith, h.so_far.nq, np, more, sum_ℕ_to-more j (λ i. position_count (joint joints i).kind));
        nv = omega (arith, h.so_far.nv, nw, more', sum_ℕ_to-more j (λ i. velocity_count (joint joints i).kind));
      };
      few = omega (arith, h.few, np, more, few_positions (joint joints j).kind);
      less = omega (arith, h.less, nw, more', few_velocities (joint joints j).kind);
    }

-- the bodies that are made so far, and the place of the next one's first joint
pub record AreMade (parts : List BodyParts) (joints : List Joint) (b : ℕ) (made : List Body) (place : ℕ) : Type 0 where
  pub many : length made ≡ b
  pub so_far : made ≡ listed b (placed_body parts joints)
  pub place_ : place ≡ first_joint parts b

pub made-none : (parts : List BodyParts) (joints : List Joint) (made : List Body) → made ≡ [] → AreMade parts joints 0 made 0
made-none parts joints made e = record { many = ap length e; so_far = joined-start made (λ k. placed_body parts joints k ∷ []) e; place_ = refl }

pub made-more : (parts : List BodyParts) (joints : List Joint) (b place : ℕ) (made new : List Body) (x : Body) → AreMade parts joints b made place
    → (part parts b).body.parent ≤ b → x ≡ body_from parts joints made (length made) place → new ≡ made ++ x ∷ [] → AreMade parts joints (b + 1) new (place + x.jntnum)
made-more parts joints b place made new x h parent e pushed =
    let same : x ≡ placed_body parts joints b =
    e ∙ ap (λ (k : ℕ). body_from parts joints made k place) h.many ∙ body-next parts joints made b place h.so_far h.place_ parent in
    let count : x.jntnum ≡ length (part parts b).joints = ap (λ (y : Body). y.jntnum) same in
    record {
      many = ap length pushed ∙ length-append made (x ∷ []) ∙ ap (λ (k : ℕ). k + 1) h.many;
      so_far = pushed ∙ listed-more made x b (placed_body parts joints) h.so_far same;
      place_ = omega (arith, h.place_, count, sum_ℕ_to-more b (λ a. length (part parts a).joints));
    }

-- the joints of the next body are there
pub made-room : (parts : List BodyParts) (joints : List Joint) (b place : ℕ) (made : List Body) → AreMade parts joints b made place
    → b < length parts → length joints ≡ length (joints_on parts) → place + length (part parts (length made)).joints ≤ length joints
made-room parts joints b place made h l whole =
    let at : length (part parts (length made)).joints ≡ length (part parts b).joints = ap (λ (k : ℕ). length (part parts k).joints) h.many in
    omega (arith, at, h.place_, whole, joined-length (length parts) (λ k. (part parts k).joints), sum_ℕ_to-le (suc b) (length parts) (λ k. length (part parts k).joints) l)
