-- The mass matrix by composite inertias is the one by sums over all bodies, within its ranges, and its radii cover what isn't rounded.
use Rattle.std.proofs.Common.{◌≡◌, ◌==◌, ◌&&◌, ℕ, suc, ◌+◌, ◌-◌, ◌*◌, ◌^◌, ◌<◌, ◌≤◌, Bool, true, false, ◌||◌, cond, ℤ, pos, ◌+ℤ◌, ◌-ℤ◌, ◌*ℤ◌, unsigned_abs, List, length, Option, None, refl, sym, ap, ap₂, ◌∙◌, subst, arith, inl, inr, le_of_mul-le-mul_right, pow_pos}
use Rattle.std.proofs.lemmas.Bool.{cases_eq, cases_lt, cases_Bool, cond-true, cond-false, eq-eqb, ne_eqb, lt-ltb, leb-true}
use Rattle.std.proofs.lemmas.Int.{ints, unsigned_abs-mul}
use Rattle.fx_whole.specs.Adding.{sum_in, when_in, integers}
use Rattle.fx_whole.specs.First.{or_first, first_to}
use Rattle.fx_whole.proofs.SumLaws.{when-false}
use Rattle.fx_whole.proofs.AddingLaws.{sum_in-ext, when_in-map}
use Rattle.fx_whole.proofs.FirstLaws.{first_none, first_ext, or_both}
use Rattle.fx_whole.proofs.Ring.{ring}
use Rattle.fx_num.specs.declared.number.Number.{Number}
use Rattle.fx_near.specs.Covers.{Covers}
use Rattle.fx_near.proofs.CoverLaws.{exact-covers}
use Rattle.fx_near.proofs.DyadicLaws.{covers-add, covers-settled, covers-raised}
use Rattle.fx_cover.proofs.VectorCovers.{covers6-exact, covers6-settled, covers-pair}
use Rattle.fx_vec.specs.Spatial.{Spatial, Inertia, pair, inertia_times}
use Rattle.fx_vec.specs.Sizes.{Within6, no_size6}
use Rattle.fx_vec.specs.Sums.{vectors, inertias}
use Rattle.fx_vec.specs.Widths.{pair_width}
use Rattle.fx_vec.proofs.SumLaws.{inertia_times-sum, inertia_times-empty, pair-sum, pair-empty}
use Rattle.mj_tree.specs.Tree.{at_or_above}
use Rattle.mj_tree.proofs.DofLaws.{dof_is_before, body_le}
use Rattle.mj_tree.proofs.BodyLaws.{above_itself, above_at}
use Rattle.mj_types.specs.declared.carriers.Composite.{Composite}
use Rattle.mj_types.specs.declared.carriers.Mass.{Mass}
use Rattle.mj_types.specs.declared.model.Model.{Model}
use Rattle.mj_types.specs.declared.range.OutOfRange.{OutOfRange}
use Rattle.mj_types.specs.declared.range.Quantity.TheVariants as kind
use Rattle.mj_types.specs.Forests.{above_in}
use Rattle.mj_types.specs.Masses.{IsMass, mass_at, mass_radius_at}
use Rattle.mj_types.specs.Parts.{parent_of, body_of, first_dof}
use Rattle.mj_types.specs.Ranges.{unless, limited, is_within}
use Rattle.mj_types.specs.Rooms.{MassRoom}
use Rattle.mj_types.proofs.LayoutLaws.{is_tree, is_layout}
use Rattle.mj_inertia.specs.CompositeBodies.{is_under, composite, IsCompositeOf}
use Rattle.mj_inertia.specs.MassEntries.{moves_in, momentum_sum, momentum, momentum_radius, momentum_fault, rounded_product, rounded_radius, armature, joins, entry, mirrored, mass_from, radius_from, mass, mass_radius, entry_fault, dof_fault, mass_fault, unrounded}
use Rattle.mj_inertia.specs.Written.{joint_momentum, near_entry, near_from, HasEntries}
use Rattle.mj_inertia.proofs.NumberLaws.{pair_width-le, momentum_radius-le, rounded_radius-le}
use Rattle.mj_inertia.proofs.WritingLaws.{mirrored-upper, mirrored-lower}

-- ---- the momentum of a composite inertia
body_there : (m : Model) (j : ℕ) → j < m.nv → suc (body_of m.dofs j - 1) ≡ body_of m.dofs j
body_there m j h = let layout = is_layout m.bodies m.joints m.dofs m.nq m.nv m.of_bodies m.of_joints m.of_dofs in omega (arith, layout.not_world j h)

pub body_place : (m : Model) (j : ℕ) → j < m.nv → body_of m.dofs j - 1 < length m.bodies
body_place m j h = let layout = is_layout m.bodies m.joints m.dofs m.nq m.nv m.of_bodies m.of_joints m.of_dofs in omega (arith, layout.not_world j h, layout.on_body j h)

pub composite_momentum : (m : Model) (column : ℕ → Spatial ℤ) (inertia : ℕ → Inertia) (j : ℕ) → j < m.nv
    → inertia_times (composite m inertia (body_of m.dofs j - 1)) (column j) ≡ momentum_sum m column inertia j
unfolding composite momentum_sum
composite_momentum m column inertia j h =
    inertia_times-sum (column j) (length m.bodies) (λ k. when_in inertias (is_under m (body_of m.dofs j - 1) k) (inertia k))
    ∙ sum_in-ext vectors (length m.bodies) (λ k. inertia_times (when_in inertias (is_under m (body_of m.dofs j - 1) k) (inertia k)) (column j))
    (λ k. when_in vectors (moves_in m j k) (inertia_times (inertia k) (column j))) each
  where
    each : (k : ℕ) → k < length m.bodies
        → inertia_times (when_in inertias (is_under m (body_of m.dofs j - 1) k) (inertia k)) (column j) ≡ when_in vectors (moves_in m j k) (inertia_times (inertia k) (column j))
    each k l =
        when_in-map inertias vectors (λ i. inertia_times i (column j)) (inertia_times-empty (column j)) (is_under m (body_of m.dofs j - 1) k) (inertia k)
        ∙ ap (λ (b : ℕ). when_in vectors (at_or_above (parent_of m.bodies) b (suc k)) (inertia_times (inertia k) (column j))) (body_there m j h)

pub joint_momentum-is : (m : Model) (column : ℕ → Spatial ℤ) (inertia : ℕ → Inertia) (c : Composite) → IsCompositeOf m inertia c
    → (j : ℕ) → j < m.nv → joint_momentum m column c j ≡ momentum_sum m column inertia j
unfolding joint_momentum
joint_momentum-is m column inertia c is j h =
    ap (λ i. inertia_times i (column j)) (is.sums (body_of m.dofs j - 1) (body_place m j h)) ∙ composite_momentum m column inertia j h

-- the first fault by composite inertias
pub faults-are : (m : Model) (column : ℕ → Spatial ℤ) (inertia : ℕ → Inertia) (c : Composite) → IsCompositeOf m inertia c
    → first_to m.nv (dof_fault m column (joint_momentum m column c)) ≡ mass_fault m column inertia
unfolding mass_fault
faults-are m column inertia c is =
    first_ext m.nv (dof_fault m column (joint_momentum m column c)) (dof_fault m column (momentum_sum m column inertia))
    (λ j h. ap (λ s. or_first (momentum_fault s j) (first_to (j + 1) (entry_fault m column (momentum s) j))) (joint_momentum-is m column inertia c is j h))

-- ---- entries
joins-itself : (m : Model) (i : ℕ) → joins m i i ≡ true
joins-itself m i = ap (λ b. b || above_in m i i) (eq-eqb i i refl)

joins-order : (m : Model) (i j : ℕ) → joins m i j ≡ true → i ≤ j
joins-order m i j t =
    elim (cases_eq i j) [
      | inl e ↦ omega arith
      | inr e ↦ omega (arith, dof_is_before (parent_of m.bodies) (body_of m.dofs) i j (sym (ap (λ b. b || above_in m i j) (ne_eqb i j e)) ∙ t))
    ]

joins-apart : (m : Model) (i j : ℕ) → i < j → above_in m i j ≡ false → joins m i j ≡ false
joins-apart m i j h e = ap₂ (λ a b. a || b) (ne_eqb i j (λ x. omega arith)) e

-- among dofs up to j: its body is at or above j's
pub joins-by_bodies : (m : Model) (i j : ℕ) → i ≤ j → joins m i j ≡ at_or_above (parent_of m.bodies) (body_of m.dofs i) (body_of m.dofs j)
joins-by_bodies m i j h =
    elim (cases_eq i j) [
      | inl e ↦
          ap (λ b. b || above_in m i j) (eq-eqb i j e)
          ∙ sym (subst (λ (k : ℕ). at_or_above (parent_of m.bodies) (body_of m.dofs i) (body_of m.dofs k) ≡ true) e (above_itself (parent_of m.bodies) (is_tree m.bodies m.of_bodies) (body_of m.dofs i)))
      | inr e ↦
          ap (λ b. b || above_in m i j) (ne_eqb i j e)
          ∙ ap (λ b. b && at_or_above (parent_of m.bodies) (body_of m.dofs i) (body_of m.dofs j)) (lt-ltb i j (omega arith))
    ]

-- bodies of earlier dofs come no later
pub bodies-order : (m : Model) (i j : ℕ) → i ≤ j → j < m.nv → body_of m.dofs i ≤ body_of m.dofs j
bodies-order m i j h k =
    body_le (parent_of m.bodies) (body_of m.dofs) (first_dof m.bodies) (length m.bodies) m.nv (is_layout m.bodies m.joints m.dofs m.nq m.nv m.of_bodies m.of_joints m.of_dofs) i j h k

-- a climb that ends at a body: that body is at or above where it began
pub climb-meets : (m : Model) (body at : ℕ) → at ≤ body → (at == body) ≡ at_or_above (parent_of m.bodies) body at
climb-meets m body at h = above_at (parent_of m.bodies) (is_tree m.bodies m.of_bodies) body at h

-- an entry off the diagonal has no armature
pub entry-above : (m : Model) (s h : Spatial ℤ) (i j : ℕ) → i < j → rounded_product s h ≡ entry m s h i j
entry-above m s h i j l =
    sym (none (rounded_product s h)) ∙ ap (λ (a : ℤ). rounded_product s h +ℤ a) (sym (when-false (i == j) _ (ne_eqb i j (λ e. omega arith))))
  where
    none : (x : ℤ) → x +ℤ pos 0 ≡ x
    none x = omega (arith, ints)

pub fault-above : (m : Model) (column : ℕ → Spatial ℤ) (h : Spatial ℤ) (j i : ℕ) (o : Option OutOfRange) → joins m i j ≡ true → i < j
    → o ≡ limited kind.Mass (j + 1) (2 ^ 60) (rounded_product (column i) h) → o ≡ entry_fault m column h j i
fault-above m column h j i o t l e =
    e ∙ ap (λ (v : ℤ). limited kind.Mass (j + 1) (2 ^ 60) v) (entry-above m (column i) h i j l)
    ∙ sym (cond-true (joins m i j) (limited kind.Mass (j + 1) (2 ^ 60) (entry m (column i) h i j)) None t)

near-mid : (m : Model) (column sums : ℕ → Spatial ℤ) (i j : ℕ)
    → (near_from m column sums i j).mid ≡ cond (joins m i j) (entry m (column i) (momentum (sums j)) i j) (pos 0)
unfolding near_entry
near-mid m column sums i j =
    elim (cases_Bool (joins m i j)) [
      | inl t ↦ ap (λ (x : Number ℕ 40). x.mid) (cond-true (joins m i j) _ _ t) ∙ sym (cond-true (joins m i j) _ _ t)
      | inr t ↦ ap (λ (x : Number ℕ 40). x.mid) (cond-false (joins m i j) _ _ t) ∙ sym (cond-false (joins m i j) _ _ t)
    ]

near-rad : (m : Model) (column sums : ℕ → Spatial ℤ) (i j : ℕ)
    → (near_from m column sums i j).rad ≡ cond (joins m i j) (rounded_radius (column i) (momentum (sums j)) (momentum_radius (sums j))) 0
unfolding near_entry
near-rad m column sums i j =
    elim (cases_Bool (joins m i j)) [
      | inl t ↦ ap (λ (x : Number ℕ 40). x.rad) (cond-true (joins m i j) _ _ t) ∙ sym (cond-true (joins m i j) _ _ t)
      | inr t ↦ ap (λ (x : Number ℕ 40). x.rad) (cond-false (joins m i j) _ _ t) ∙ sym (cond-false (joins m i j) _ _ t)
    ]

-- ---- a whole matrix
module _ (m : Model) (column sums : ℕ → Spatial ℤ) (x : List (Number ℕ 40)) (has : HasEntries m.nv m.nv (near_from m column sums) x) where
  mids-are : (i j : ℕ) → i < m.nv → j < m.nv → mass_at m.nv x i j ≡ mass_from m column sums i j
  mids-are i j h k =
      elim (cases_lt j i) [
        | inl l ↦
            ap (λ (n : Number ℕ 40). n.mid) (has.lower j i (omega arith) h) ∙ near-mid m column sums j i
            ∙ sym (mirrored-lower (joins m) (joins-itself m) (joins-order m) (pos 0) (λ i j. entry m (column i) (momentum (sums j)) i j) j i (omega arith))
        | inr l ↦
            ap (λ (n : Number ℕ 40). n.mid) (has.upper i j l k) ∙ near-mid m column sums i j
            ∙ sym (mirrored-upper (joins m) (joins-itself m) (joins-order m) (pos 0) (λ i j. entry m (column i) (momentum (sums j)) i j) i j l)
      ]

  radii-are : (i j : ℕ) → i < m.nv → j < m.nv → mass_radius_at m.nv x i j ≡ radius_from m column sums i j
  radii-are i j h k =
      elim (cases_lt j i) [
        | inl l ↦
            ap (λ (n : Number ℕ 40). n.rad) (has.lower j i (omega arith) h) ∙ near-rad m column sums j i
            ∙ sym (mirrored-lower (joins m) (joins-itself m) (joins-order m) 0 (λ i j. rounded_radius (column i) (momentum (sums j)) (momentum_radius (sums j))) j i (omega arith))
        | inr l ↦
            ap (λ (n : Number ℕ 40). n.rad) (has.upper i j l k) ∙ near-rad m column sums i j
            ∙ sym (mirrored-upper (joins m) (joins-itself m) (joins-order m) 0 (λ i j. rounded_radius (column i) (momentum (sums j)) (momentum_radius (sums j))) i j l)
      ]

  -- ---- ranges
  unrefused : (good : Bool) (n : ℕ) → unless good kind.Mass n ≡ None → good ≡ true
  unrefused true n e = refl
  unrefused false n e = cc

  pub entry-within : first_to m.nv (dof_fault m column sums) ≡ None → (i j : ℕ) → i ≤ j → j < m.nv
      → unsigned_abs (cond (joins m i j) (entry m (column i) (momentum (sums j)) i j) (pos 0)) ≤ 2 ^ 60
  entry-within e i j h k =
      let fine : dof_fault m column sums j ≡ None = (first_none m.nv (dof_fault m column sums)).0 e j k in
      let row : first_to (j + 1) (entry_fault m column (momentum (sums j)) j) ≡ None = (or_both (momentum_fault (sums j) j) (first_to (j + 1) (entry_fault m column (momentum (sums j)) j)) fine).1 in
      let this : entry_fault m column (momentum (sums j)) j i ≡ None = (first_none (j + 1) (entry_fault m column (momentum (sums j)) j)).0 row i (omega arith) in
      elim (cases_Bool (joins m i j)) [
        | inl t ↦ subst (λ (v : ℤ). unsigned_abs v ≤ 2 ^ 60) (sym (cond-true (joins m i j) _ (pos 0) t))
            (leb-true _ (2 ^ 60) (unrefused (is_within (2 ^ 60) (entry m (column i) (momentum (sums j)) i j)) (j + 1) (sym (cond-true (joins m i j) _ None t) ∙ this)))
        | inr t ↦ subst (λ (v : ℤ). unsigned_abs v ≤ 2 ^ 60) (sym (cond-false (joins m i j) _ (pos 0) t)) (omega arith)
      ]

  pub mids-within : first_to m.nv (dof_fault m column sums) ≡ None → (i j : ℕ) → i < m.nv → j < m.nv → unsigned_abs (mass_at m.nv x i j) ≤ 2 ^ 60
  mids-within e i j h k =
      elim (cases_lt j i) [
        | inl l ↦ subst (λ (v : ℤ). unsigned_abs v ≤ 2 ^ 60) (sym (ap (λ (n : Number ℕ 40). n.mid) (has.lower j i (omega arith) h) ∙ near-mid m column sums j i)) (entry-within e j i (omega arith) h)
        | inr l ↦ subst (λ (v : ℤ). unsigned_abs v ≤ 2 ^ 60) (sym (ap (λ (n : Number ℕ 40). n.mid) (has.upper i j l k) ∙ near-mid m column sums i j)) (entry-within e i j l k)
      ]

  mids-apart : (k i : ℕ) → k < m.nv → i < k → above_in m i k ≡ false → mass_at m.nv x k i ≡ pos 0
  mids-apart k i h l e =
      ap (λ (n : Number ℕ 40). n.mid) (has.lower i k (omega arith) h) ∙ near-mid m column sums i k
      ∙ cond-false (joins m i k) (entry m (column i) (momentum (sums k)) i k) (pos 0) (joins-apart m i k l e)

  radius-within : ((d : ℕ) → d < m.nv → Within6 (column d) (2 ^ 42)) → (i j : ℕ) → i < m.nv
      → cond (joins m i j) (rounded_radius (column i) (momentum (sums j)) (momentum_radius (sums j))) 0 ≤ 2 ^ 13
  radius-within small i j h =
      elim (cases_Bool (joins m i j)) [
        | inl t ↦ subst (λ (r : ℕ). r ≤ 2 ^ 13) (sym (cond-true (joins m i j) _ 0 t))
            (rounded_radius-le (column i) (momentum (sums j)) (momentum_radius (sums j))
            (pair_width-le (column i) (momentum (sums j)) (momentum_radius (sums j)) (2 ^ 42) (small i h) (momentum_radius-le (sums j))))
        | inr t ↦ subst (λ (r : ℕ). r ≤ 2 ^ 13) (sym (cond-false (joins m i j) _ 0 t)) (omega arith)
      ]

  pub radii-within : ((d : ℕ) → d < m.nv → Within6 (column d) (2 ^ 42)) → (i j : ℕ) → i < m.nv → j < m.nv → mass_radius_at m.nv x i j ≤ 2 ^ 13
  radii-within small i j h k =
      elim (cases_lt j i) [
        | inl l ↦ subst (λ (r : ℕ). r ≤ 2 ^ 13) (sym (ap (λ (n : Number ℕ 40). n.rad) (has.lower j i (omega arith) h) ∙ near-rad m column sums j i)) (radius-within small j i k)
        | inr l ↦ subst (λ (r : ℕ). r ≤ 2 ^ 13) (sym (ap (λ (n : Number ℕ 40). n.rad) (has.upper i j l k) ∙ near-rad m column sums i j)) (radius-within small i j h)
      ]

pub is_mass : (m : Model) (column sums : ℕ → Spatial ℤ) (x : Mass) → MassRoom m x → HasEntries m.nv m.nv (near_from m column sums) x.m
    → first_to m.nv (dof_fault m column sums) ≡ None → IsMass m x
is_mass m column sums x room has passed = record {
  room = room.m_;
  limit = mids-within m column sums x.m has passed;
  apart = mids-apart m column sums x.m has;
}

-- ---- the matrix by sums over all bodies
same_entries : (n : ℕ) (f g : ℕ → ℕ → Number ℕ 40) (x : List (Number ℕ 40)) → ((i j : ℕ) → j < n → f i j ≡ g i j) → HasEntries n n f x → HasEntries n n g x
same_entries n f g x e has = record {
  upper = λ a b p q. has.upper a b p q ∙ e a b q;
  lower = λ a b p q. has.lower a b p q ∙ e a b q;
}

by_bodies : (m : Model) (column : ℕ → Spatial ℤ) (inertia : ℕ → Inertia) (c : Composite) (x : List (Number ℕ 40)) → IsCompositeOf m inertia c
    → HasEntries m.nv m.nv (near_from m column (joint_momentum m column c)) x → HasEntries m.nv m.nv (near_from m column (momentum_sum m column inertia)) x
by_bodies m column inertia c x is =
    same_entries m.nv (near_from m column (joint_momentum m column c)) (near_from m column (momentum_sum m column inertia)) x
    (λ i j h. ap (λ s. near_entry m (column i) (momentum s) (momentum_radius s) i j) (joint_momentum-is m column inertia c is j h))

pub masses-are : (m : Model) (column : ℕ → Spatial ℤ) (inertia : ℕ → Inertia) (c : Composite) (x : List (Number ℕ 40)) → IsCompositeOf m inertia c
    → HasEntries m.nv m.nv (near_from m column (joint_momentum m column c)) x
    → (i j : ℕ) → i < m.nv → j < m.nv → mass_at m.nv x i j ≡ mass m column inertia i j
unfolding mass
masses-are m column inertia c x is has = mids-are m column (momentum_sum m column inertia) x (by_bodies m column inertia c x is has)

pub mass_radii-are : (m : Model) (column : ℕ → Spatial ℤ) (inertia : ℕ → Inertia) (c : Composite) (x : List (Number ℕ 40)) → IsCompositeOf m inertia c
    → HasEntries m.nv m.nv (near_from m column (joint_momentum m column c)) x
    → (i j : ℕ) → i < m.nv → j < m.nv → mass_radius_at m.nv x i j ≡ mass_radius m column inertia i j
unfolding mass_radius
mass_radii-are m column inertia c x is has = radii-are m column (momentum_sum m column inertia) x (by_bodies m column inertia c x is has)

-- ---- radii cover what isn't rounded
product_unrounded : (m : Model) (column : ℕ → Spatial ℤ) (inertia : ℕ → Inertia) (i j : ℕ)
    → pair (column i) (momentum_sum m column inertia j)
    ≡ sum_in integers (length m.bodies) (λ k. when_in integers (moves_in m j k) (pair (column i) (inertia_times (inertia k) (column j))))
unfolding momentum_sum
product_unrounded m column inertia i j =
    pair-sum (column i) (length m.bodies) (λ k. when_in vectors (moves_in m j k) (inertia_times (inertia k) (column j)))
    ∙ sum_in-ext integers (length m.bodies) (λ k. pair (column i) (when_in vectors (moves_in m j k) (inertia_times (inertia k) (column j))))
    (λ k. when_in integers (moves_in m j k) (pair (column i) (inertia_times (inertia k) (column j))))
    (λ k h. when_in-map vectors integers (pair (column i)) (pair-empty (column i)) (moves_in m j k) (inertia_times (inertia k) (column j)))

product_covers : (s sum : Spatial ℤ) → Covers (rounded_product s (momentum sum)) (rounded_radius s (momentum sum) (momentum_radius sum)) 40 (pair s sum) (2 ^ 104)
unfolding rounded_product rounded_radius momentum momentum_radius
product_covers s sum =
    covers-settled (pair s (momentum sum)) (pair s sum) (pair_width s no_size6 (momentum sum) (momentum_radius sum)) 40 72 104 (omega arith)
    (covers-pair s (momentum sum) s sum no_size6 (momentum_radius sum) 32 40 32 72 (covers6-exact s 32) (covers6-settled sum sum no_size6 40 72 72 (omega arith) (covers6-exact sum 72)))

pub entry_covers : (m : Model) (column : ℕ → Spatial ℤ) (inertia : ℕ → Inertia) (i j : ℕ)
    → Covers (entry m (column i) (momentum (momentum_sum m column inertia j)) i j)
    (rounded_radius (column i) (momentum (momentum_sum m column inertia j)) (momentum_radius (momentum_sum m column inertia j))) 40 (unrounded m column inertia i j) (2 ^ 104)
unfolding unrounded
entry_covers m column inertia i j =
    let s = momentum_sum m column inertia j in
    let a : ℤ = armature m i j in
    let r : ℕ = rounded_radius (column i) (momentum s) (momentum_radius s) in
    let none : r + 0 ≡ r = omega arith in
    subst (λ (n : ℕ). Covers (entry m (column i) (momentum s) i j) n 40 (unrounded m column inertia i j) (2 ^ 104)) none
    (covers-add (rounded_product (column i) (momentum s)) a
    (sum_in integers (length m.bodies) (λ k. when_in integers (moves_in m j k) (pair (column i) (inertia_times (inertia k) (column j))))) (a *ℤ pos (2 ^ 64)) r 0 40 (2 ^ 104)
    (subst (λ (n : ℤ). Covers (rounded_product (column i) (momentum s)) r 40 n (2 ^ 104)) (product_unrounded m column inertia i j) (product_covers (column i) s))
    (covers-raised a a 0 40 40 64 (exact-covers a 40)))

-- a power of two taken from both sides
pub lowered : (x mid : ℤ) (r s t d : ℕ) → 0 < s → pos d ≡ pos t *ℤ pos s → d ≡ t * s → unsigned_abs (x *ℤ pos s -ℤ mid *ℤ pos d) ≤ r * d → unsigned_abs (x -ℤ mid *ℤ pos t) ≤ r * t
lowered x mid r s t d h e f b =
    let whole : x *ℤ pos s -ℤ mid *ℤ pos d ≡ (x -ℤ mid *ℤ pos t) *ℤ pos s = ap (λ (p : ℤ). x *ℤ pos s -ℤ mid *ℤ p) e ∙ split x mid (pos t) (pos s) in
    let size : unsigned_abs ((x -ℤ mid *ℤ pos t) *ℤ pos s) ≡ unsigned_abs (x -ℤ mid *ℤ pos t) * s = unsigned_abs-mul (x -ℤ mid *ℤ pos t) (pos s) in
    let below : unsigned_abs (x -ℤ mid *ℤ pos t) * s ≤ r * t * s = bound (unsigned_abs (x *ℤ pos s -ℤ mid *ℤ pos d)) _ _ r t s d b (ap (λ (n : ℤ). unsigned_abs n) whole) size f in
    le_of_mul-le-mul_right below h
  where
    split : (x mid t s : ℤ) → x *ℤ s -ℤ mid *ℤ (t *ℤ s) ≡ (x -ℤ mid *ℤ t) *ℤ s
    split x mid t s = simp ring (omega (arith, ints))

    bound : (u v w r t s d : ℕ) → u ≤ r * d → u ≡ v → v ≡ w → d ≡ t * s → w ≤ r * t * s
    bound u v w r t s d p q o g = let raised : u ≤ r * (t * s) = rw g at p in omega arith

opened : (m : Model) (s h : Spatial ℤ) (r : Spatial ℕ) (i j : ℕ) → joins m i j ≡ true → near_entry m s h r i j ≡ record { mid = entry m s h i j; rad = rounded_radius s h r }
unfolding near_entry
opened m s h r i j t = cond-true (joins m i j) _ _ t

pub covered : (m : Model) (column : ℕ → Spatial ℤ) (inertia : ℕ → Inertia) (c : Composite) (x : List (Number ℕ 40)) → IsCompositeOf m inertia c
    → HasEntries m.nv m.nv (near_from m column (joint_momentum m column c)) x
    → (i j : ℕ) → i < m.nv → j < m.nv → joins m i j ≡ true
    → unsigned_abs (unrounded m column inertia i j -ℤ mass_at m.nv x i j *ℤ pos (2 ^ 64)) ≤ mass_radius_at m.nv x i j * 2 ^ 64
covered m column inertia c x is has i j h k t =
    let s = momentum_sum m column inertia j in
    subst (λ (n : Number ℕ 40). unsigned_abs (unrounded m column inertia i j -ℤ n.mid *ℤ pos (2 ^ 64)) ≤ n.rad * 2 ^ 64)
    (sym ((by_bodies m column inertia c x is has).upper i j (joins-order m i j t) k ∙ opened m (column i) (momentum s) (momentum_radius s) i j t))
    (lowered (unrounded m column inertia i j) (entry m (column i) (momentum s) i j) (rounded_radius (column i) (momentum s) (momentum_radius s)) (2 ^ 40) (2 ^ 64) (2 ^ 104)
    (pow_pos 40) refl refl (entry_covers m column inertia i j).bound)

-- ---- symmetry: where each of two dofs joins the other they are one
mirror : {A : Type 0} (p q : Bool) (none x y : A) → (p ≡ true → q ≡ true → x ≡ y) → cond p x (cond q y none) ≡ cond q y (cond p x none)
mirror true true none x y h = h refl refl
mirror true false none x y h = refl
mirror false true none x y h = refl
mirror false false none x y h = refl

mirrored-symmetric : {A : Type 0} (joins : ℕ → ℕ → Bool) (none : A) (f : ℕ → ℕ → A) (i j : ℕ) → (joins i j ≡ true → joins j i ≡ true → i ≡ j)
    → mirrored joins none f i j ≡ mirrored joins none f j i
mirrored-symmetric joins none f i j one = mirror (joins i j) (joins j i) none (f i j) (f j i) (λ h k. ap₂ f (one h k) (sym (one h k)))

one_joined : (m : Model) (i j : ℕ) → joins m i j ≡ true → joins m j i ≡ true → i ≡ j
one_joined m i j h k =
    let up : i ≤ j = joins-order m i j h in
    let down : j ≤ i = joins-order m j i k in
    omega arith

pub mass_symmetric : (m : Model) (column : ℕ → Spatial ℤ) (inertia : ℕ → Inertia) (i j : ℕ) → mass m column inertia i j ≡ mass m column inertia j i
unfolding mass
mass_symmetric m column inertia i j =
    mirrored-symmetric (joins m) (pos 0) (λ i j. entry m (column i) (momentum (momentum_sum m column inertia j)) i j) i j (one_joined m i j)
