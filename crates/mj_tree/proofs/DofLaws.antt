-- The laws of `above`: which dof is above which, where the dofs stand in the order of their bodies.
use Rattle.std.proofs.Common.{ap, ◌+◌, ◌∙◌, ◌≡◌, ℕ, suc, ◌<◌, ◌≤◌, nat_lt, true, false, subst, arith, inl, inr}
use Rattle.std.proofs.lemmas.Bool.{cases_lt, and_parts, and_from, lt-ltb, ltb-true}
use Rattle.mj_tree.specs.Tree.{IsTree, at_or_above, moves, above, IsLayout, IsForest}
use Rattle.mj_tree.proofs.BodyLaws.{above_itself, above_trans, above_chain, not_moves}

pub dof_is_before : (parent body : ℕ → ℕ) (i k : ℕ) → above parent body i k ≡ true → i < k
dof_is_before parent body i k h = ltb-true i k (and_parts (nat_lt i k) (moves parent body i (body k)) h).0

pub dof_moves : (parent body : ℕ → ℕ) (i k : ℕ) → above parent body i k ≡ true → moves parent body i (body k) ≡ true
dof_moves parent body i k h = (and_parts (nat_lt i k) (moves parent body i (body k)) h).1

pub above_from : (parent body : ℕ → ℕ) (i k : ℕ) → i < k → moves parent body i (body k) ≡ true → above parent body i k ≡ true
above_from parent body i k h p = and_from (nat_lt i k) (moves parent body i (body k)) (lt-ltb i k h) p

-- of two dofs of one body the earlier is above the later
pub above_of_one_body : (parent body : ℕ → ℕ) → IsTree parent → (i k : ℕ) → i < k → body i ≡ body k → above parent body i k ≡ true
above_of_one_body parent body tree i k h e =
    above_from parent body i k h (subst (λ (x : ℕ). at_or_above parent (body i) x ≡ true) e (above_itself parent tree (body i)))

module _ (parent body first : ℕ → ℕ) (bodies dofs : ℕ) (layout : IsLayout parent body first bodies dofs) where
  -- in the order of their bodies
  pub body_le : (i j : ℕ) → i ≤ j → j < dofs → body i ≤ body j
  body_le i j h l =
      elim (cases_lt j (first (body i))) [
        | inl p ↦ absurd (omega (arith, layout.before i (body i) (omega arith) (layout.on_body i (omega arith)) (omega arith)))
        | inr p ↦ layout.after j (body i) l (layout.on_body i (omega arith)) p
      ]

  -- no dof moves the world
  pub none_moves_world : (j : ℕ) → j < dofs → moves parent body j 0 ≡ false
  none_moves_world j h = not_moves parent layout.tree body j 0 (layout.not_world j h)

  -- with the place of b's first dof, which dofs are b's
  pub body_from_place : (j b : ℕ) → j < dofs → b < bodies → first b ≤ j → j < first (suc b) → body j ≡ b
  body_from_place j b h l p q = omega (arith, layout.after j b h (omega arith) p, layout.before j (suc b) h (omega arith) q)

  pub layout_is_forest : IsForest dofs (above parent body)
  layout_is_forest =
      record {
        before = dof_is_before parent body;
        through = through;
        between = between;
      }
    where
      through : (i j k : ℕ) → k < dofs → above parent body i j ≡ true → above parent body j k ≡ true → above parent body i k ≡ true
      through i j k l h p =
          above_from parent body i k (omega (arith, dof_is_before parent body i j h, dof_is_before parent body j k p))
          (above_trans parent layout.tree (body i) (body j) (body k) (dof_moves parent body i j h) (dof_moves parent body j k p))

      between : (i j k : ℕ) → k < dofs → i < j → above parent body i k ≡ true → above parent body j k ≡ true → above parent body i j ≡ true
      between i j k l m h p =
          let q : j < dofs = omega (arith, dof_is_before parent body j k p) in
          above_from parent body i j m
          (above_chain parent layout.tree (body i) (body j) (body k) (body_le i j (omega arith) q) (dof_moves parent body i k h) (dof_moves parent body j k p))

-- ---- a layout that grows: a body after the last, or a dof of the last body
pub layout_begin : (parent body first : ℕ → ℕ) → IsTree parent → first 0 ≡ 0 → IsLayout parent body first 0 0
layout_begin parent body first tree e =
    record {
      tree = tree;
      not_world = λ j h. absurd (omega arith);
      on_body = λ j h. absurd (omega arith);
      before = λ j b h l p. absurd (omega arith);
      after = λ j b h l p. absurd (omega arith);
      within = λ b h. let w : b ≡ 0 = omega arith in omega (arith, e, ap (λ (x : ℕ). first x) w);
    }

module _ (parent body first : ℕ → ℕ) (bodies dofs : ℕ) (layout : IsLayout parent body first bodies dofs) where
  pub layout_body : first (bodies + 1) ≡ dofs → IsLayout parent body first (bodies + 1) dofs
  layout_body e = record { tree = layout.tree; not_world = layout.not_world; on_body = on_body; before = before; after = after; within = within }
    where
      at_last : (b : ℕ) → b ≤ bodies + 1 → bodies < b → first b ≡ dofs
      at_last b h l = let w : b ≡ bodies + 1 = omega arith in ap (λ (x : ℕ). first x) w ∙ e

      on_body : (j : ℕ) → j < dofs → body j ≤ bodies + 1
      on_body j h = omega (arith, layout.on_body j h)

      before : (j b : ℕ) → j < dofs → b ≤ bodies + 1 → j < first b → body j < b
      before j b h l p =
          elim (cases_lt bodies b) [ inl q ↦ omega (arith, layout.on_body j h) | inr q ↦ layout.before j b h q p ]

      after : (j b : ℕ) → j < dofs → b ≤ bodies + 1 → first b ≤ j → b ≤ body j
      after j b h l p =
          elim (cases_lt bodies b) [ inl q ↦ absurd (omega (arith, at_last b l q)) | inr q ↦ layout.after j b h q p ]

      within : (b : ℕ) → b ≤ bodies + 1 → first b ≤ dofs
      within b l = elim (cases_lt bodies b) [ inl q ↦ omega (arith, at_last b l q) | inr q ↦ layout.within b q ]

  pub layout_dof : 0 < bodies → body dofs ≡ bodies → IsLayout parent body first bodies (dofs + 1)
  layout_dof some e = record { tree = layout.tree; not_world = not_world; on_body = on_body; before = before; after = after; within = within }
    where
      last : (j : ℕ) → j < dofs + 1 → dofs ≤ j → body j ≡ bodies
      last j h l = let w : j ≡ dofs = omega arith in ap (λ (x : ℕ). body x) w ∙ e

      not_world : (j : ℕ) → j < dofs + 1 → 0 < body j
      not_world j h = elim (cases_lt j dofs) [ inl q ↦ layout.not_world j q | inr q ↦ omega (arith, last j h q) ]

      on_body : (j : ℕ) → j < dofs + 1 → body j ≤ bodies
      on_body j h = elim (cases_lt j dofs) [ inl q ↦ layout.on_body j q | inr q ↦ omega (arith, last j h q) ]

      before : (j b : ℕ) → j < dofs + 1 → b ≤ bodies → j < first b → body j < b
      before j b h l p =
          elim (cases_lt j dofs) [ inl q ↦ layout.before j b q l p | inr q ↦ absurd (omega (arith, layout.within b l)) ]

      after : (j b : ℕ) → j < dofs + 1 → b ≤ bodies → first b ≤ j → b ≤ body j
      after j b h l p = elim (cases_lt j dofs) [ inl q ↦ layout.after j b q l p | inr q ↦ omega (arith, last j h q) ]

      within : (b : ℕ) → b ≤ bodies → first b ≤ dofs + 1
      within b l = omega (arith, layout.within b l)

  -- other functions that say the same of these bodies and dofs
  pub layout_same : (parent' body' first' : ℕ → ℕ) → IsTree parent' → ((j : ℕ) → j < dofs → body' j ≡ body j) → ((b : ℕ) → b ≤ bodies → first' b ≡ first b)
      → IsLayout parent' body' first' bodies dofs
  layout_same parent' body' first' tree same places =
      record {
        tree = tree;
        not_world = λ j h. omega (arith, same j h, layout.not_world j h);
        on_body = λ j h. omega (arith, same j h, layout.on_body j h);
        before = λ j b h l p. omega (arith, same j h, layout.before j b h l (omega (arith, places b l, p)));
        after = λ j b h l p. omega (arith, same j h, layout.after j b h l (omega (arith, places b l, p)));
        within = λ b l. omega (arith, places b l, layout.within b l);
      }
