-- A model's bodies are a tree, and its dofs stand in the order of their bodies.
use Rattle.std.proofs.Common.{◌≡◌, ℕ, zero, suc, ◌+◌, ◌-◌, ◌<◌, ◌≤◌, ◌==◌, List, length, refl, sym, ap, ◌∙◌, arith, inl, inr}
use Rattle.std.proofs.lemmas.Bool.{cases_lt, cases_eq, eq-eqb, ne_eqb}
use Rattle.std.proofs.lemmas.List.{get_or_past}
use Rattle.fx_whole.proofs.SumLaws.{sum_ℕ_to-le}
use Rattle.mj_tree.specs.Tree.{IsTree, IsLayout, at_or_above}
use Rattle.mj_tree.proofs.BodyLaws.{above_parent, above_itself, not_above}
use Rattle.mj_types.specs.declared.parts.Body.{Body}
use Rattle.mj_types.specs.declared.parts.Joint.{Joint}
use Rattle.mj_types.specs.declared.parts.Dof.{Dof}
use Rattle.mj_types.specs.Parts.{body, no_body, joint, dof, velocity_count, parent_of, first_dof, body_of}
use Rattle.mj_types.specs.Lawful.{AreBodies, AreJoints, AreDofs, velocities_before}

pub is_tree : (bodies : List Body) → AreBodies bodies → IsTree (parent_of bodies)
is_tree bodies h = record { world = refl; before = before }
  where
    before : (b : ℕ) → 0 < b → parent_of bodies b < b
    before zero p = absurd (omega arith)
    before (suc b) p =
        elim (cases_lt b (length bodies)) [
          | inl l ↦ omega (arith, h.parents b l)
          | inr l ↦ (let e : (body bodies b).parent ≡ 0 = ap (λ (x : Body). x.parent) (get_or_past bodies b no_body l) in omega arith)
        ]

-- what comes before place m comes before what m joints have
dof_within : (joints : List Joint) (j m part : ℕ) → j < m → part < velocity_count (joint joints j).kind
    → velocities_before joints j + part < velocities_before joints m
dof_within joints j m part l p = omega (arith, sum_ℕ_to-le (suc j) m (λ i. velocity_count (joint joints i).kind) l)

-- the place of a dof's joint
abbrev place : List Dof → ℕ → ℕ
place dofs d = (dof dofs d).joint - 1

-- a dof before a body's first is of a joint before the body's first
dof_before : (bodies : List Body) (joints : List Joint) (dofs : List Dof) (nq nv : ℕ) → AreJoints bodies joints nq nv → AreDofs joints dofs nv
    → (d b : ℕ) → d < nv → b < length bodies → d < (body bodies b).dofadr → (dof dofs d).body ≤ b
dof_before bodies joints dofs nq nv js ds d b h k l =
    let x = ds.each d h in
    let there : place dofs d < length joints = omega (arith, x.some, x.joint_) in
    let at : d ≡ velocities_before joints (place dofs d) + (dof dofs d).part = x.place ∙ ap (λ (n : ℕ). n + (dof dofs d).part) (js.dadr (place dofs d) there) in
    let first : (body bodies b).dofadr ≡ velocities_before joints (body bodies b).jntadr = js.dofadr b k in
    elim (cases_lt (place dofs d) (body bodies b).jntadr) [
      | inl p ↦ omega (arith, x.body_, js.earlier b (place dofs d) k p)
      | inr p ↦ absurd (omega (arith, at, first, sum_ℕ_to-le (body bodies b).jntadr (place dofs d) (λ i. velocity_count (joint joints i).kind) p))
    ]

-- and one from there on is of the body or a later one
dof_after : (bodies : List Body) (joints : List Joint) (dofs : List Dof) (nq nv : ℕ) → AreJoints bodies joints nq nv → AreDofs joints dofs nv
    → (d b : ℕ) → d < nv → b < length bodies → (body bodies b).dofadr ≤ d → suc b ≤ (dof dofs d).body
dof_after bodies joints dofs nq nv js ds d b h k l =
    let x = ds.each d h in
    let there : place dofs d < length joints = omega (arith, x.some, x.joint_) in
    let at : d ≡ velocities_before joints (place dofs d) + (dof dofs d).part = x.place ∙ ap (λ (n : ℕ). n + (dof dofs d).part) (js.dadr (place dofs d) there) in
    let first : (body bodies b).dofadr ≡ velocities_before joints (body bodies b).jntadr = js.dofadr b k in
    elim (cases_lt (place dofs d) (body bodies b).jntadr) [
      | inl p ↦ absurd (omega (arith, at, first, dof_within joints (place dofs d) (body bodies b).jntadr (dof dofs d).part p x.part))
      | inr p ↦ omega (arith, x.body_, js.later b (place dofs d) k p there)
    ]

pub is_layout : (bodies : List Body) (joints : List Joint) (dofs : List Dof) (nq nv : ℕ) → AreBodies bodies → AreJoints bodies joints nq nv → AreDofs joints dofs nv
    → IsLayout (parent_of bodies) (body_of dofs) (first_dof bodies) (length bodies) nv
is_layout bodies joints dofs nq nv bs js ds = record {
  tree = is_tree bodies bs;
  not_world = λ d h. (let x = ds.each d h in omega (arith, x.body_, js.not_world (place dofs d) (omega (arith, x.some, x.joint_))));
  on_body = λ d h. (let x = ds.each d h in omega (arith, x.body_, js.on_body (place dofs d) (omega (arith, x.some, x.joint_))));
  before = before;
  after = after;
  within = within;
}
  where
    before : (d b : ℕ) → d < nv → b ≤ length bodies → d < first_dof bodies b → body_of dofs d < b
    before d zero h k l = absurd (omega arith)
    before d (suc b) h k l = omega (arith, dof_before bodies joints dofs nq nv js ds d b h (omega arith) l)

    after : (d b : ℕ) → d < nv → b ≤ length bodies → first_dof bodies b ≤ d → b ≤ body_of dofs d
    after d zero h k l = omega arith
    after d (suc b) h k l = dof_after bodies joints dofs nq nv js ds d b h (omega arith) l

    within : (b : ℕ) → b ≤ length bodies → first_dof bodies b ≤ nv
    within zero h = omega arith
    within (suc b) h =
        let first : (body bodies b).dofadr ≡ velocities_before joints (body bodies b).jntadr = js.dofadr b (omega arith) in
        let few : (body bodies b).jntadr ≤ length joints = omega (arith, js.jntadr b (omega arith), js.whole, sum_ℕ_to-le b (length bodies) (λ a. (body bodies a).jntnum) (omega arith)) in
        omega (arith, first, js.velocities, sum_ℕ_to-le (body bodies b).jntadr (length joints) (λ i. velocity_count (joint joints i).kind) few)

-- one step up: b above 0 stands at the place b - 1, and whether another body is above it is settled at its parent
pub climb_step : (bodies : List Body) → AreBodies bodies → (a b p : ℕ) → a < b → p ≡ (body bodies (b - 1)).parent
    → at_or_above (parent_of bodies) a p ≡ at_or_above (parent_of bodies) a b
climb_step bodies h a zero p l e = absurd (omega arith)
climb_step bodies h a (suc b) p l e =
    let same : suc b - 1 ≡ b = omega arith in
    let up : p ≡ parent_of bodies (suc b) = e ∙ ap (λ (n : ℕ). (body bodies n).parent) same in
    ap (at_or_above (parent_of bodies) a) up ∙ above_parent (parent_of bodies) (is_tree bodies h) a (suc b) (λ q. omega arith)

-- and the parent is there
pub climb_room : (bodies : List Body) → AreBodies bodies → (a b p : ℕ) → a < b → b ≤ length bodies → p ≡ (body bodies (b - 1)).parent → p ≤ b - 1
climb_room bodies h a b p l k e = omega (arith, h.parents (b - 1) (omega arith))

-- the climb ends at a, or below it
pub climb_ends : (bodies : List Body) → AreBodies bodies → (a b : ℕ) → b ≤ a → (b == a) ≡ at_or_above (parent_of bodies) a b
climb_ends bodies h a b l =
    elim (cases_eq b a) [
      | inl e ↦ eq-eqb b a e ∙ sym (ap (at_or_above (parent_of bodies) a) e ∙ above_itself (parent_of bodies) (is_tree bodies h) a)
      | inr n ↦ ne_eqb b a n ∙ sym (not_above (parent_of bodies) (is_tree bodies h) a b (omega arith))
    ]
