-- Joints with their places: what of them stays, and where they begin.
use Rattle.std.proofs.Common.{◌≡◌, ℕ, ◌<◌, ◌≤◌, List, length, sym, ap, subst, ◌∙◌, arith}
use Rattle.fx_whole.proofs.SumLaws.{sum_ℕ_to-ext, sum_ℕ_to-bounded}
use Rattle.mj_types.specs.declared.parts.Body.{Body}
use Rattle.mj_types.specs.declared.parts.Joint.{Joint}
use Rattle.mj_types.specs.declared.parts.Dof.{Dof}
use Rattle.mj_types.specs.declared.parts.Geom.{Geom}
use Rattle.mj_types.specs.Parts.{joint, no_joint, position_count, velocity_count}
use Rattle.mj_types.specs.Lawful.{positions_before, velocities_before}
use Rattle.mj_layout.specs.declared.layout.BodyParts.{BodyParts}
use Rattle.mj_layout.specs.declared.layout.Layout.{Layout}
use Rattle.mj_layout.specs.declared.layout.Placed.{Placed}
use Rattle.mj_layout.specs.Layout.{listed, placed_joint, placed, joints_on, bodies_of, dofs_of, geoms_of, layout}
use Rattle.mj_layout.specs.Placing.{IsPlaced, HasPlaces}
use Rattle.mj_layout.proofs.PlaceLaws.{listed-length, listed-at}
use Rattle.mj_layout.proofs.Upheld.{few_velocities}

pub length-placed : (js : List Joint) → length (placed js) ≡ length js
unfolding placed
length-placed js = listed-length (length js) (placed_joint js)

pub placed-at : (js : List Joint) (k : ℕ) → k < length js → joint (placed js) k ≡ placed_joint js k
unfolding placed
placed-at js k h = listed-at (length js) (placed_joint js) k no_joint h

pub placed-kind : (js : List Joint) (k : ℕ) → k < length js → (joint (placed js) k).kind ≡ (joint js k).kind
placed-kind js k h = ap (λ (x : Joint). x.kind) (placed-at js k h)

pub placed-velocities : (js : List Joint) (m : ℕ) → m ≤ length js → velocities_before (placed js) m ≡ velocities_before js m
placed-velocities js m h =
    sum_ℕ_to-ext m (λ i. velocity_count (joint (placed js) i).kind) (λ i. velocity_count (joint js i).kind) (λ k p. ap velocity_count (placed-kind js k (omega (arith, p, h))))

pub placed-positions : (js : List Joint) (m : ℕ) → m ≤ length js → positions_before (placed js) m ≡ positions_before js m
placed-positions js m h =
    sum_ℕ_to-ext m (λ i. position_count (joint (placed js) i).kind) (λ i. position_count (joint js i).kind) (λ k p. ap position_count (placed-kind js k (omega (arith, p, h))))

pub has-places : (js : List Joint) → length js ≤ 64 → HasPlaces (placed js) (velocities_before js (length js))
has-places js few = record {
  each = λ k h. (let l : k < length js = omega (arith, h, length-placed js) in
      ap (λ (x : Joint). x.dadr) (placed-at js k l) ∙ sym (placed-velocities js k (omega (arith, l))));
  all = sym (ap (velocities_before (placed js)) (length-placed js) ∙ placed-velocities js (length js) (omega arith));
  small = λ k h. (let l : k < length js = omega (arith, h, length-placed js) in
      let at : (joint (placed js) k).dadr ≡ velocities_before js k = ap (λ (x : Joint). x.dadr) (placed-at js k l) in
      omega (arith, at, few, l, sum_ℕ_to-bounded k 6 (λ i. velocity_count (joint js i).kind) (λ i p. few_velocities (joint js i).kind)));
}

-- ---- the list that the code fills
pub list-placed : (all js joints : List Joint) (p : Placed) → all ≡ js → IsPlaced all (length all) p → joints ≡ p.joints.items → joints ≡ placed js
unfolding placed
list-placed all js joints p e h f = f ∙ h.joints_ ∙ ap (λ xs. listed (length xs) (placed_joint xs)) e

pub count-placed : (all js : List Joint) (p : Placed) → all ≡ js → IsPlaced all (length all) p → p.nv ≡ velocities_before js (length js)
count-placed all js p e h = h.nv ∙ ap (λ (xs : List Joint). velocities_before xs (length xs)) e

pub positions-placed : (all js : List Joint) (p : Placed) → all ≡ js → IsPlaced all (length all) p → p.nq ≡ positions_before js (length js)
positions-placed all js p e h = h.nq ∙ ap (λ (xs : List Joint). positions_before xs (length xs)) e

pub list-places : (all js joints : List Joint) (p : Placed) → all ≡ js → IsPlaced all (length all) p → joints ≡ p.joints.items → length js ≤ 64 → HasPlaces joints p.nv
list-places all js joints p e h f few =
    let P : List Joint → Type 0 = λ xs. HasPlaces xs p.nv in
    let Q : ℕ → Type 0 = λ n. HasPlaces (placed js) n in
    subst P (sym (list-placed all js joints p e h f)) (subst Q (sym (count-placed all js p e h)) (has-places js few))

pub list-length : (all js joints : List Joint) (p : Placed) → all ≡ js → IsPlaced all (length all) p → joints ≡ p.joints.items → length joints ≡ length js
list-length all js joints p e h f = ap length (list-placed all js joints p e h f) ∙ length-placed js

pub layout-is : (parts : List BodyParts) (world : List Geom) (bodies : List Body) (joints : List Joint) (dofs : List Dof) (geoms : List Geom) (nq nv : ℕ)
    → joints ≡ placed (joints_on parts) → bodies ≡ bodies_of parts joints → dofs ≡ dofs_of joints → geoms ≡ geoms_of world parts
    → nq ≡ positions_before (joints_on parts) (length (joints_on parts)) → nv ≡ velocities_before (joints_on parts) (length (joints_on parts))
    → record { bodies = bodies; joints = joints; dofs = dofs; geoms = geoms; nq = nq; nv = nv } ≡ layout parts world
unfolding layout
layout-is parts world bodies joints dofs geoms nq nv j b d g q v =
    let ps = placed (joints_on parts) in
    ap (λ x. make x joints dofs geoms nq nv) (b ∙ ap (bodies_of parts) j)
    ∙ ap (λ x. make (bodies_of parts ps) joints x geoms nq nv) (d ∙ ap dofs_of j)
    ∙ ap (λ x. make (bodies_of parts ps) x (dofs_of ps) geoms nq nv) j
    ∙ ap (λ x. make (bodies_of parts ps) ps (dofs_of ps) x nq nv) g
    ∙ ap (λ x. make (bodies_of parts ps) ps (dofs_of ps) (geoms_of world parts) x nv) q
    ∙ ap (λ x. make (bodies_of parts ps) ps (dofs_of ps) (geoms_of world parts) (positions_before (joints_on parts) (length (joints_on parts))) x) v
  where
    make : List Body → List Joint → List Dof → List Geom → ℕ → ℕ → Layout
    make bodies joints dofs geoms nq nv = record { bodies = bodies; joints = joints; dofs = dofs; geoms = geoms; nq = nq; nv = nv }
