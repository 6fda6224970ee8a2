-- The lists of a sound model keep what a model keeps.
use Rattle.std.proofs.Common.{◌≡◌, ℕ, ◌<◌, ◌≤◌, List, length, refl, sym, subst, arith}
use Rattle.fx_whole.proofs.SumLaws.{sum_ℕ_to-le}
use Rattle.mj_types.specs.declared.parts.Geom.{Geom}
use Rattle.mj_types.specs.Parts.{joint, position_count}
use Rattle.mj_types.specs.Lawful.{AreBodies, AreJoints, AreDofs, AreGeoms, velocities_before}
use Rattle.mj_layout.specs.declared.layout.BodyParts.{BodyParts}
use Rattle.mj_layout.specs.declared.layout.Layout.{Layout}
use Rattle.mj_layout.specs.Layout.{joints_on, placed, bodies_of, dofs_of, geoms_of, layout}
use Rattle.mj_layout.specs.Parted.{AreParted, AreWorldly}
use Rattle.mj_layout.specs.Placing.{IsLaidOut}
use Rattle.mj_layout.proofs.ListLaws.{are_bodies, are_joints, are_dofs, are_geoms, length-bodies}

pub record IsLaid (parts : List BodyParts) (l : Layout) : Type 0 where
  pub bodies_ : AreBodies l.bodies
  pub joints_ : AreJoints l.bodies l.joints l.nq l.nv
  pub dofs_ : AreDofs l.joints l.dofs l.nv
  pub geoms_ : AreGeoms l.bodies l.geoms
  pub same : l.joints ≡ placed (joints_on parts)

laid : (parts : List BodyParts) (world : List Geom) → AreParted parts → AreWorldly world → length (geoms_of world parts) ≤ 128 → IsLaid parts (layout parts world)
unfolding layout
laid parts world p w few =
    let js = are_joints parts p in
    let nv = velocities_before (joints_on parts) (length (joints_on parts)) in
    let qs = placed (joints_on parts) in
    let P : ℕ → Type 0 = λ n. AreDofs qs (dofs_of qs) n in
    record {
      bodies_ = are_bodies parts qs p;
      joints_ = js;
      dofs_ = subst P (sym js.velocities) (are_dofs qs js.dadr);
      geoms_ = are_geoms world parts w p (bodies_of parts qs) (length-bodies parts qs) few;
      same = refl;
    }

pub laid-out : (parts : List BodyParts) (world : List Geom) (l : Layout) → AreParted parts → AreWorldly world → length (geoms_of world parts) ≤ 128 → l ≡ layout parts world → IsLaid parts l
laid-out parts world l p w few e = subst (IsLaid parts) (sym e) (laid parts world p w few)

pub few-qadr : (parts : List BodyParts) (l : Layout) → IsLaid parts l → (j : ℕ) → j < length l.joints → (joint l.joints j).qadr ≤ 512
few-qadr parts l h j m =
    omega (arith, h.joints_.qadr j m, h.joints_.positions, h.joints_.few_positions, sum_ℕ_to-le j (length l.joints) (λ i. position_count (joint l.joints i).kind) (omega (arith, m)))
