-- The laws of `sum_moving`: a sum that is carried down the tree is the sum over the dofs that move each body.
use Rattle.std.proofs.Common.{◌≡◌, ℕ, ◌+◌, ◌<◌, ◌≤◌, ◌==◌, true, false, ◌&&◌, sym, ap, ap₂, ◌∙◌, subst, arith, inl, inr}
use Rattle.std.proofs.lemmas.Bool.{cases_eq, eq-eqb, ne_eqb, lt-ltb}
use Rattle.fx_whole.specs.Adding.{Adding, IsAdding, sum_in, when_in}
use Rattle.fx_whole.proofs.AddingLaws.{sum_in-ext, sum_in-more, sum_in-add, sum_in-none, sum_in-past, when_in-true, when_in-false, empty_plus}
use Rattle.mj_tree.specs.Tree.{IsTree, at_or_above, moves, above, IsLayout}
use Rattle.mj_tree.specs.TreeSums.{sum_moving}
use Rattle.mj_tree.proofs.BodyLaws.{above_itself, moves_parent, not_moves}
use Rattle.mj_tree.proofs.DofLaws.{body_le, none_moves_world}

module _ {A : Type 0} (m : Adding A) (laws : IsAdding m) (parent body : ℕ → ℕ) where
  -- one more dof, which is b's or at least moves b
  pub moving_more : (n : ℕ) (f : ℕ → A) (b : ℕ) → moves parent body n b ≡ true
      → sum_moving m parent body (n + 1) f b ≡ m.plus (sum_moving m parent body n f b) (f n)
  moving_more n f b h =
      sum_in-more m n (λ j. when_in m (moves parent body j b) (f j))
      ∙ ap (m.plus (sum_moving m parent body n f b)) (when_in-true m (moves parent body n b) (f n) h)

  -- or which doesn't move b
  pub moving_other : (n : ℕ) (f : ℕ → A) (b : ℕ) → moves parent body n b ≡ false
      → sum_moving m parent body (n + 1) f b ≡ sum_moving m parent body n f b
  moving_other n f b h =
      sum_in-more m n (λ j. when_in m (moves parent body j b) (f j))
      ∙ ap (m.plus (sum_moving m parent body n f b)) (when_in-false m (moves parent body n b) (f n) h)
      ∙ laws.alone (sum_moving m parent body n f b)

  -- one turn of a loop over b's own dofs: x is the sum before it, y after it
  pub own_step : IsTree parent → (n : ℕ) (f : ℕ → A) (b : ℕ) (x y : A) → body n ≡ b → x ≡ sum_moving m parent body n f b → y ≡ m.plus x (f n)
      → y ≡ sum_moving m parent body (n + 1) f b
  own_step tree n f b x y e before turn =
      turn ∙ ap (λ z. m.plus z (f n)) before
      ∙ sym (moving_more n f b (subst (λ (c : ℕ). at_or_above parent c b ≡ true) (sym e) (above_itself parent tree b)))

  -- the dofs that move b are its own and those that move its parent
  pub moving_by_parent : IsTree parent → (n : ℕ) (f : ℕ → A) (b : ℕ) → 0 < b
      → sum_moving m parent body n f b ≡ m.plus (sum_moving m parent body n f (parent b)) (sum_in m n (λ j. when_in m (body j == b) (f j)))
  moving_by_parent tree n f b h =
      sum_in-ext m n (λ j. when_in m (moves parent body j b) (f j))
      (λ j. m.plus (when_in m (moves parent body j (parent b)) (f j)) (when_in m (body j == b) (f j))) each
      ∙ sum_in-add m laws n (λ j. when_in m (moves parent body j (parent b)) (f j)) (λ j. when_in m (body j == b) (f j))
    where
      each : (j : ℕ) → j < n → when_in m (moves parent body j b) (f j)
          ≡ m.plus (when_in m (moves parent body j (parent b)) (f j)) (when_in m (body j == b) (f j))
      each j l =
          elim (cases_eq (body j) b) [
            | inl e ↦
                when_in-true m (moves parent body j b) (f j) (subst (λ (c : ℕ). at_or_above parent c b ≡ true) (sym e) (above_itself parent tree b))
                ∙ sym (ap₂ (λ x y. m.plus x y)
                (when_in-false m (moves parent body j (parent b)) (f j) (not_moves parent tree body j (parent b) (omega (arith, e, tree.before b h))))
                (when_in-true m (body j == b) (f j) (eq-eqb (body j) b e))
                ∙ empty_plus m laws (f j))
            | inr e ↦
                ap (λ t. when_in m t (f j)) (sym (moves_parent parent tree body j b e))
                ∙ sym (ap (m.plus (when_in m (moves parent body j (parent b)) (f j))) (when_in-false m (body j == b) (f j) (ne_eqb (body j) b e))
                ∙ laws.alone (when_in m (moves parent body j (parent b)) (f j)))
          ]

  -- of the dofs before j those that move its body are those above it
  pub moving_is_above : (n : ℕ) (f : ℕ → A) (j : ℕ) → n ≤ j
      → sum_moving m parent body n f (body j) ≡ sum_in m n (λ i. when_in m (above parent body i j) (f i))
  moving_is_above n f j h =
      sum_in-ext m n (λ i. when_in m (moves parent body i (body j)) (f i)) (λ i. when_in m (above parent body i j) (f i))
      (λ i l. ap (λ t. when_in m (t && moves parent body i (body j)) (f i)) (sym (lt-ltb i j (omega arith))))

module _ {A : Type 0} (m : Adding A) (laws : IsAdding m) (parent body first : ℕ → ℕ) (bodies dofs : ℕ) (layout : IsLayout parent body first bodies dofs) where
  -- nothing moves the world
  pub moving_world : (n : ℕ) (f : ℕ → A) → n ≤ dofs → sum_moving m parent body n f 0 ≡ m.empty
  moving_world n f h =
      sum_in-none m laws n (λ j. when_in m (moves parent body j 0) (f j))
      (λ j l. when_in-false m (moves parent body j 0) (f j) (none_moves_world parent body first bodies dofs layout j (omega arith)))

  -- the parent's whole sum is b's before its own dofs
  pub moving_start : (f : ℕ → A) (b : ℕ) → 0 < b → b ≤ bodies → sum_moving m parent body dofs f (parent b) ≡ sum_moving m parent body (first b) f b
  moving_start f b h l =
      sum_in-past m laws (first b) dofs (λ j. when_in m (moves parent body j (parent b)) (f j)) (layout.within b l) later
      ∙ sum_in-ext m (first b) (λ j. when_in m (moves parent body j (parent b)) (f j)) (λ j. when_in m (moves parent body j b) (f j)) each
    where
      later : (j : ℕ) → first b ≤ j → j < dofs → when_in m (moves parent body j (parent b)) (f j) ≡ m.empty
      later j p q =
          when_in-false m (moves parent body j (parent b)) (f j)
          (not_moves parent layout.tree body j (parent b) (omega (arith, layout.tree.before b h, layout.after j b q l p)))

      each : (j : ℕ) → j < first b → when_in m (moves parent body j (parent b)) (f j) ≡ when_in m (moves parent body j b) (f j)
      each j p =
          let q : j < dofs = omega (arith, layout.within b l) in
          ap (λ t. when_in m t (f j)) (moves_parent parent layout.tree body j b (λ e. omega (arith, e, layout.before j b q l p)))

  -- from n on each dof is of a later body: b's sum is whole
  pub moving_end : (f : ℕ → A) (n b : ℕ) → n ≤ dofs → ((j : ℕ) → n ≤ j → j < dofs → b < body j)
      → sum_moving m parent body n f b ≡ sum_moving m parent body dofs f b
  moving_end f n b h later =
      sym (sum_in-past m laws n dofs (λ j. when_in m (moves parent body j b) (f j)) h
      (λ j p q. when_in-false m (moves parent body j b) (f j) (not_moves parent layout.tree body j b (later j p q))))

  -- n is the place of the next body's first dof
  pub moving_end_at_next : (f : ℕ → A) (b : ℕ) → b < bodies → sum_moving m parent body (first (b + 1)) f b ≡ sum_moving m parent body dofs f b
  moving_end_at_next f b h =
      moving_end f (first (b + 1)) b (layout.within (b + 1) (omega arith)) (λ j p q. omega (arith, layout.after j (b + 1) q (omega arith) p))

  -- n is past the dofs, or a dof of a later body
  pub moving_end_at : (f : ℕ → A) (n b : ℕ) → n ≤ dofs → (n < dofs → b < body n) → sum_moving m parent body n f b ≡ sum_moving m parent body dofs f b
  moving_end_at f n b h later =
      moving_end f n b h (λ j p q. omega (arith, later (omega arith), body_le parent body first bodies dofs layout n j p q))
