-- The laws of `at_or_above` and `moves`: which body is above which, and what moves a body.
use Rattle.std.proofs.Common.{◌≡◌, ◌≢◌, ℕ, zero, suc, ◌+◌, ◌-◌, ◌<◌, ◌≤◌, ◌==◌, nat_lt, Bool, true, false, ◌||◌, ◌⊎◌, refl, sym, ap, ◌∙◌, subst, arith, inl, inr}
use Rattle.std.proofs.lemmas.Bool.{cases_eq, cases_lt, cases_order, and_parts, and_from, or_cases, or_left, or_right, eq-eqb, ne_eqb, eqb-true, lt-ltb, ltb-true, false_from_ne_true}
use Rattle.mj_tree.specs.Tree.{IsTree, reaches, at_or_above, moves}
use Rattle.mj_tree.specs.TreeSums.{is_child}

module _ (parent : ℕ → ℕ) (tree : IsTree parent) where
  -- a parent isn't past its child: the world's is the world
  pub parent_le : (b : ℕ) → parent b ≤ b
  parent_le zero = omega (arith, tree.world)
  parent_le (suc b) = omega (arith, tree.before (suc b) (omega arith))

  -- what holds of the world and passes from each parent to its child holds of every body
  pub by_parents : (P : ℕ → Type 0) → P 0 → ((b : ℕ) → 0 < b → P (parent b) → P b) → (b : ℕ) → P b
  by_parents P first next b = up_to (suc b) b (omega arith)
    where
      up_to : (n b : ℕ) → b < n → P b
      up_to zero b h = absurd (omega arith)
      up_to (suc n) zero h = first
      up_to (suc n) (suc b) h =
          next (suc b) (omega arith) (up_to n (parent (suc b)) (omega (arith, tree.before (suc b) (omega arith))))

  -- one body more changes nothing once the world is reached
  reaches_more : (a n b : ℕ) → b ≤ n → reaches parent a (suc n) b ≡ reaches parent a n b
  reaches_more a zero b h =
      let e : b ≡ 0 = omega arith in
      ap (λ (x : ℕ). a == x || a == parent x) e ∙ ap (λ (x : ℕ). a == 0 || a == x) tree.world ∙ or_same (a == 0)
      ∙ ap (λ (x : ℕ). a == x) (sym e)
    where
      or_same : (t : Bool) → (t || t) ≡ t
      or_same true = refl
      or_same false = refl
  reaches_more a (suc n) b h = ap (λ t. a == b || t) (reaches_more a n (parent b) (before b h))
    where
      before : (b : ℕ) → b ≤ suc n → parent b ≤ n
      before zero l = omega (arith, tree.world)
      before (suc b) l = omega (arith, tree.before (suc b) (omega arith))

  reaches_enough : (a d b : ℕ) → reaches parent a (b + d) b ≡ reaches parent a b b
  reaches_enough a zero b = let e : b + 0 ≡ b = omega arith in ap (λ (n : ℕ). reaches parent a n b) e
  reaches_enough a (suc d) b =
      let e : b + suc d ≡ suc (b + d) = omega arith in
      ap (λ (n : ℕ). reaches parent a n b) e ∙ reaches_more a (b + d) b (omega arith) ∙ reaches_enough a d b

  -- a is b, or at or above b's parent
  pub above_by_parent : (a b : ℕ) → at_or_above parent a b ≡ (a == b || at_or_above parent a (parent b))
  unfolding at_or_above
  above_by_parent a b =
      let e : b ≡ parent b + (b - parent b) = omega (arith, parent_le b) in
      sym (reaches_more a b b (omega arith))
      ∙ ap (λ t. a == b || t) (ap (λ (n : ℕ). reaches parent a n (parent b)) e ∙ reaches_enough a (b - parent b) (parent b))

  pub above_itself : (b : ℕ) → at_or_above parent b b ≡ true
  above_itself b = above_by_parent b b ∙ or_left (b == b) (at_or_above parent b (parent b)) (eq-eqb b b refl)

  pub above_from_parent : (a b : ℕ) → at_or_above parent a (parent b) ≡ true → at_or_above parent a b ≡ true
  above_from_parent a b h = above_by_parent a b ∙ or_right (a == b) (at_or_above parent a (parent b)) h

  pub parent_is_above : (b : ℕ) → at_or_above parent (parent b) b ≡ true
  parent_is_above b = above_from_parent (parent b) b (above_itself (parent b))

  -- the other way round
  pub above_cases : (a b : ℕ) → at_or_above parent a b ≡ true → (a ≡ b) ⊎ (at_or_above parent a (parent b) ≡ true)
  above_cases a b h =
      elim (or_cases (a == b) (at_or_above parent a (parent b)) (sym (above_by_parent a b) ∙ h)) [
        | inl e ↦ inl (eqb-true a b e)
        | inr p ↦ inr p
      ]

  pub above_parent : (a b : ℕ) → a ≢ b → at_or_above parent a (parent b) ≡ at_or_above parent a b
  above_parent a b n = sym (above_by_parent a b ∙ ap (λ t. t || at_or_above parent a (parent b)) (ne_eqb a b n))

  pub world_is_above : (b : ℕ) → at_or_above parent 0 b ≡ true
  world_is_above = by_parents (λ b. at_or_above parent 0 b ≡ true) (above_itself 0) (λ b p h. above_from_parent 0 b h)

  above_world : (a : ℕ) → at_or_above parent a 0 ≡ true → a ≡ 0
  unfolding at_or_above
  above_world a h = eqb-true a 0 h

  -- in the order of numbers
  pub above_le : (a b : ℕ) → at_or_above parent a b ≡ true → a ≤ b
  above_le a = by_parents (λ b. at_or_above parent a b ≡ true → a ≤ b) (λ h. omega (arith, above_world a h)) next
    where
      next : (b : ℕ) → 0 < b → (at_or_above parent a (parent b) ≡ true → a ≤ parent b) → at_or_above parent a b ≡ true → a ≤ b
      next b p before h = elim (above_cases a b h) [ inl e ↦ omega arith | inr q ↦ omega (arith, before q, parent_le b) ]

  pub not_above : (a b : ℕ) → b < a → at_or_above parent a b ≡ false
  not_above a b h = false_from_ne_true (at_or_above parent a b) (λ t. omega (arith, above_le a b t))

  -- of a body that isn't later
  pub above_at : (a b : ℕ) → b ≤ a → (b == a) ≡ at_or_above parent a b
  above_at a b h =
      elim (cases_eq b a) [
        | inl e ↦ eq-eqb b a e ∙ sym (subst (λ (x : ℕ). at_or_above parent x b ≡ true) e (above_itself b))
        | inr n ↦ ne_eqb b a n ∙ sym (not_above a b (omega arith))
      ]

  pub above_antisym : (a b : ℕ) → at_or_above parent a b ≡ true → at_or_above parent b a ≡ true → a ≡ b
  above_antisym a b h p = omega (arith, above_le a b h, above_le b a p)

  pub above_trans : (a b c : ℕ) → at_or_above parent a b ≡ true → at_or_above parent b c ≡ true → at_or_above parent a c ≡ true
  above_trans a b c h = by_parents (λ c. at_or_above parent b c ≡ true → at_or_above parent a c ≡ true) first next c
    where
      first : at_or_above parent b 0 ≡ true → at_or_above parent a 0 ≡ true
      first p = subst (λ (x : ℕ). at_or_above parent a x ≡ true) (above_world b p) h

      next : (c : ℕ) → 0 < c → (at_or_above parent b (parent c) ≡ true → at_or_above parent a (parent c) ≡ true)
          → at_or_above parent b c ≡ true → at_or_above parent a c ≡ true
      next c l before p =
          elim (above_cases b c p) [
            | inl e ↦ subst (λ (x : ℕ). at_or_above parent a x ≡ true) e h
            | inr q ↦ above_from_parent a c (before q)
          ]

  -- of two bodies at or above a third the earlier is at or above the later
  pub above_chain : (a b c : ℕ) → a ≤ b → at_or_above parent a c ≡ true → at_or_above parent b c ≡ true → at_or_above parent a b ≡ true
  above_chain a b c l = by_parents (λ c. at_or_above parent a c ≡ true → at_or_above parent b c ≡ true → at_or_above parent a b ≡ true) first next c
    where
      first : at_or_above parent a 0 ≡ true → at_or_above parent b 0 ≡ true → at_or_above parent a b ≡ true
      first h p = subst (λ (x : ℕ). at_or_above parent a x ≡ true) (sym (above_world b p)) h

      next : (c : ℕ) → 0 < c → (at_or_above parent a (parent c) ≡ true → at_or_above parent b (parent c) ≡ true → at_or_above parent a b ≡ true)
          → at_or_above parent a c ≡ true → at_or_above parent b c ≡ true → at_or_above parent a b ≡ true
      next c m before h p =
          elim (above_cases b c p) [
            | inl e ↦ subst (λ (x : ℕ). at_or_above parent a x ≡ true) (sym e) h
            | inr q ↦
                elim (above_cases a c h) [
                  | inl e ↦ absurd (omega (arith, above_le b (parent c) q, tree.before c m))
                  | inr r ↦ before r q
                ]
          ]

  pub above_either : (a b c : ℕ) → at_or_above parent a c ≡ true → at_or_above parent b c ≡ true
      → (at_or_above parent a b ≡ true) ⊎ (at_or_above parent b a ≡ true)
  above_either a b c h p =
      elim (cases_lt b a) [ inl l ↦ inr (above_chain b a c (omega arith) p h) | inr l ↦ inl (above_chain a b c l h p) ]

  -- ---- children
  child_parts : (b c : ℕ) → is_child parent b c ≡ true → (b < c) × (parent c ≡ b)
  child_parts b c h = let p = and_parts (nat_lt b c) (parent c == b) h in (ltb-true b c p.0, eqb-true (parent c) b p.1)

  pub parent_of_child : (b c : ℕ) → is_child parent b c ≡ true → parent c ≡ b
  parent_of_child b c h = (child_parts b c h).1

  pub child_is_later : (b c : ℕ) → is_child parent b c ≡ true → b < c
  child_is_later b c h = (child_parts b c h).0

  -- what is below b is at or below a child of b
  pub child_above : (b k : ℕ) → at_or_above parent b k ≡ true → b ≢ k → (c : ℕ) × (is_child parent b c ≡ true) × (at_or_above parent c k ≡ true)
  child_above b = by_parents (λ k. at_or_above parent b k ≡ true → b ≢ k → Child k) (λ h n. absurd (n (above_world b h))) next
    where
      Child : ℕ → Type 0
      Child k = (c : ℕ) × (is_child parent b c ≡ true) × (at_or_above parent c k ≡ true)

      next : (k : ℕ) → 0 < k → (at_or_above parent b (parent k) ≡ true → b ≢ parent k → Child (parent k)) → at_or_above parent b k ≡ true → b ≢ k → Child k
      next k l before h n =
          elim (above_cases b k h) [
            | inl e ↦ absurd (n e)
            | inr p ↦ elim (cases_eq b (parent k)) [
              | inl e ↦
                  (k, and_from (nat_lt b k) (parent k == b) (lt-ltb b k (omega (arith, e, tree.before k l))) (eq-eqb (parent k) b (sym e)), above_itself k)
              | inr w ↦ let found = before p w in (found.0, found.1, above_from_parent found.0 k found.2)
            ]
          ]

  -- which is the only one
  pub child_is_only : (b c d k : ℕ) → is_child parent b c ≡ true → is_child parent b d ≡ true
      → at_or_above parent c k ≡ true → at_or_above parent d k ≡ true → c ≡ d
  child_is_only b c d k h p q r =
      elim (cases_order c d) [
        | inl e ↦ e
        | inr (inl l) ↦ absurd (apart c d h p q r l)
        | inr (inr l) ↦ absurd (apart d c p h r q l)
      ]
    where
      apart : (c d : ℕ) → is_child parent b c ≡ true → is_child parent b d ≡ true → at_or_above parent c k ≡ true → at_or_above parent d k ≡ true → c < d → ⊥
      apart c d h p q r l =
          elim (above_cases c d (above_chain c d k (omega arith) q r)) [
            | inl e ↦ omega arith
            | inr t ↦ omega (arith, above_le c (parent d) t, parent_of_child b d p, child_is_later b c h)
          ]

  -- ---- what moves a body, `body j` being the body that j is of
  module _ (body : ℕ → ℕ) where
    -- b's own, and what moves b's parent
    pub moves_by_parent : (j b : ℕ) → moves parent body j b ≡ (body j == b || moves parent body j (parent b))
    moves_by_parent j b = above_by_parent (body j) b

    -- the body of the dof, or a later one whose parent it moves too
    pub moves_cases : (j b : ℕ) → moves parent body j b ≡ true → (body j ≡ b) ⊎ ((body j < b) × (moves parent body j (parent b) ≡ true))
    moves_cases j b h =
        elim (cases_eq (body j) b) [
          | inl e ↦ inl e
          | inr n ↦ inr (omega (arith, above_le (body j) b h), above_parent (body j) b n ∙ h)
        ]

    pub moves_own : (j : ℕ) → moves parent body j (body j) ≡ true
    moves_own j = above_itself (body j)

    -- what moves a body moves all at or below it
    pub moves_below : (j b c : ℕ) → moves parent body j b ≡ true → at_or_above parent b c ≡ true → moves parent body j c ≡ true
    moves_below j b c h p = above_trans (body j) b c h p

    pub moves_le : (j b : ℕ) → moves parent body j b ≡ true → body j ≤ b
    moves_le j b h = above_le (body j) b h

    -- not b's own
    pub moves_parent : (j b : ℕ) → body j ≢ b → moves parent body j (parent b) ≡ moves parent body j b
    moves_parent j b n = above_parent (body j) b n

    -- no dof of a later body
    pub not_moves : (j b : ℕ) → b < body j → moves parent body j b ≡ false
    not_moves j b h = not_above (body j) b h
