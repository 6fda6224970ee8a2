-- The laws of `held` and `sum_under`: a sum that is carried up the tree is the sum over all that is below.
use Rattle.std.proofs.Common.{◌≡◌, ◌≢◌, ℕ, zero, suc, ◌+◌, ◌-◌, ◌<◌, ◌≤◌, ◌==◌, nat_le, max, true, false, cond, refl, sym, ap, ap₂, ◌∙◌, subst, arith, add-one, inl, inr}
use Rattle.std.proofs.lemmas.Bool.{cases_eq, cases_lt, cases_Bool, both_ways, false_from_ne_true, eq-eqb, ne_eqb, le-leb, lt-leb, cond-true, cond-false}
use Rattle.fx_whole.specs.Adding.{Adding, IsAdding, sum_in, when_in}
use Rattle.fx_whole.proofs.AddingLaws.{sum_in-ext, sum_in-add, sum_in-none, sum_in-single, sum_in-swap, when_in-true, when_in-false, when_in-empty, when_in-sum, empty_plus}
use Rattle.mj_tree.specs.Tree.{IsTree, at_or_above}
use Rattle.mj_tree.specs.TreeSums.{sum_under, is_child, climbs, climb, held}
use Rattle.mj_tree.proofs.BodyLaws.{parent_le, by_parents, above_itself, above_parent, above_le, above_trans, not_above, world_is_above, parent_is_above, parent_of_child, child_is_later, child_above, child_is_only}

-- ---- climbing
pub climb_stays : (parent : ℕ → ℕ) (p k : ℕ) → k ≤ p → climb parent p k ≡ k
unfolding climb
climb_stays parent p zero h = refl
climb_stays parent p (suc k) h = cond-true (nat_le (suc k) p) (suc k) (climbs parent p k (parent (suc k))) (le-leb (suc k) p h)

module _ (parent : ℕ → ℕ) (tree : IsTree parent) where
  climbs_more : (p n k : ℕ) → k ≤ n → climbs parent p (suc n) k ≡ climbs parent p n k
  climbs_more p zero k h =
      cond-true (nat_le k p) k (climbs parent p 0 (parent k)) (le-leb k p (omega arith))
  climbs_more p (suc n) k h = ap (λ (x : ℕ). cond (nat_le k p) k x) (climbs_more p n (parent k) (before k h))
    where
      before : (b : ℕ) → b ≤ suc n → parent b ≤ n
      before zero l = omega (arith, tree.world)
      before (suc b) l = omega (arith, tree.before (suc b) (omega arith))

  climbs_enough : (p d k : ℕ) → climbs parent p (k + d) k ≡ climbs parent p k k
  climbs_enough p zero k = let e : k + 0 ≡ k = omega arith in ap (λ (n : ℕ). climbs parent p n k) e
  climbs_enough p (suc d) k =
      let e : k + suc d ≡ suc (k + d) = omega arith in
      ap (λ (n : ℕ). climbs parent p n k) e ∙ climbs_more p (k + d) k (omega arith) ∙ climbs_enough p d k

  pub climb_up : (p k : ℕ) → p < k → climb parent p k ≡ climb parent p (parent k)
  unfolding climb
  climb_up p k h =
      let e : k ≡ parent k + (k - parent k) = omega (arith, parent_le parent tree k) in
      sym (climbs_more p k k (omega arith))
      ∙ cond-false (nat_le k p) k (climbs parent p k (parent k)) (lt-leb k p h)
      ∙ ap (λ (n : ℕ). climbs parent p n (parent k)) e ∙ climbs_enough p (k - parent k) (parent k)

  pub climb_le : (p k : ℕ) → climb parent p k ≤ p
  climb_le p = by_parents parent tree (λ k. climb parent p k ≤ p) (omega (arith, climb_stays parent p 0 (omega arith))) next
    where
      next : (k : ℕ) → 0 < k → climb parent p (parent k) ≤ p → climb parent p k ≤ p
      next k l h = elim (cases_lt p k) [ inl q ↦ omega (arith, climb_up p k q, h) | inr q ↦ omega (arith, climb_stays parent p k q) ]

  -- k comes to rest at b: b is at or above k
  pub climb_is : (b k : ℕ) → (climb parent b k == b) ≡ at_or_above parent b k
  climb_is b = by_parents parent tree (λ k. (climb parent b k == b) ≡ at_or_above parent b k) (early 0 (omega arith)) next
    where
      early : (k : ℕ) → k ≤ b → (climb parent b k == b) ≡ at_or_above parent b k
      early k h =
          ap (λ (x : ℕ). x == b) (climb_stays parent b k h) ∙ elim (cases_eq k b) [
            | inl e ↦ eq-eqb k b e ∙ sym (subst (λ (x : ℕ). at_or_above parent b x ≡ true) (sym e) (above_itself parent tree b))
            | inr n ↦ ne_eqb k b n ∙ sym (not_above parent tree b k (omega arith))
          ]

      next : (k : ℕ) → 0 < k → (climb parent b (parent k) == b) ≡ at_or_above parent b (parent k) → (climb parent b k == b) ≡ at_or_above parent b k
      next k l h =
          elim (cases_lt b k) [
            | inl q ↦ ap (λ (x : ℕ). x == b) (climb_up b k q) ∙ h ∙ above_parent parent tree b k (omega arith)
            | inr q ↦ early k q
          ]

  -- to rest at q by way of q + 1
  climb_by_way : (q k : ℕ) → climb parent q k ≡ climb parent q (climb parent (q + 1) k)
  climb_by_way q = by_parents parent tree (λ k. climb parent q k ≡ climb parent q (climb parent (q + 1) k)) (early 0 (omega arith)) next
    where
      early : (k : ℕ) → k ≤ q + 1 → climb parent q k ≡ climb parent q (climb parent (q + 1) k)
      early k h = ap (λ (x : ℕ). climb parent q x) (sym (climb_stays parent (q + 1) k h))

      next : (k : ℕ) → 0 < k → climb parent q (parent k) ≡ climb parent q (climb parent (q + 1) (parent k))
          → climb parent q k ≡ climb parent q (climb parent (q + 1) k)
      next k l h =
          elim (cases_lt (q + 1) k) [
            | inl p ↦ climb_up q k (omega arith) ∙ h ∙ ap (λ (x : ℕ). climb parent q x) (sym (climb_up (q + 1) k p))
            | inr p ↦ early k p
          ]

-- ---- what each body holds
-- at first its own
pub held_start : {A : Type 0} → (m : Adding A) → IsAdding m → (parent : ℕ → ℕ) (n : ℕ) (f : ℕ → A) (p b : ℕ) → n ≤ p + 1 → b < n → held m parent n f p b ≡ f b
held_start m laws parent n f p b h l =
    sum_in-single m laws n b (λ k. when_in m (climb parent (max b p) k == b) (f k)) l other
    ∙ when_in-true m (climb parent (max b p) b == b) (f b) (eq-eqb (climb parent (max b p) b) b (climb_stays parent (max b p) b (omega arith)))
  where
    other : (k : ℕ) → k < n → k ≢ b → when_in m (climb parent (max b p) k == b) (f k) ≡ m.empty
    other k q ne =
        when_in-false m (climb parent (max b p) k == b) (f k)
        (ne_eqb (climb parent (max b p) k) b (λ e. ne (sym (climb_stays parent (max b p) k (omega arith)) ∙ e)))

module _ {A : Type 0} (m : Adding A) (laws : IsAdding m) (parent : ℕ → ℕ) (tree : IsTree parent) (n : ℕ) (f : ℕ → A) where
  -- in the end all below it
  pub held_end : (p b : ℕ) → p ≤ b → held m parent n f p b ≡ sum_under m parent n f b
  held_end p b h =
      let e : max b p ≡ b = omega arith in
      ap (λ (x : ℕ). sum_in m n (λ k. when_in m (climb parent x k == b) (f k))) e
      ∙ sum_in-ext m n (λ k. when_in m (climb parent b k == b) (f k)) (λ k. when_in m (at_or_above parent b k) (f k))
      (λ k l. ap (λ t. when_in m t (f k)) (climb_is parent tree b k))

  -- the body q + 1 was added to its parent
  pub held_more : (q c : ℕ)
      → held m parent n f q c ≡ m.plus (held m parent n f (q + 1) c) (when_in m (c == parent (q + 1)) (held m parent n f (q + 1) (q + 1)))
  held_more q c =
      sum_in-ext m n (λ k. when_in m (climb parent (max c q) k == c) (f k))
      (λ k. m.plus (when_in m (climb parent (max c (q + 1)) k == c) (f k)) (when_in m (c == parent (q + 1)) (from_last k))) each
      ∙ sum_in-add m laws n (λ k. when_in m (climb parent (max c (q + 1)) k == c) (f k)) (λ k. when_in m (c == parent (q + 1)) (from_last k))
      ∙ ap (m.plus (held m parent n f (q + 1) c)) (sym (when_in-sum m laws (c == parent (q + 1)) n from_last))
    where
      from_last : ℕ → A
      from_last k = when_in m (climb parent (max (q + 1) (q + 1)) k == q + 1) (f k)

      Splits : ℕ → Type 0
      Splits k =
          when_in m (climb parent (max c q) k == c) (f k)
          ≡ m.plus (when_in m (climb parent (max c (q + 1)) k == c) (f k)) (when_in m (c == parent (q + 1)) (from_last k))

      each : (k : ℕ) → k < n → Splits k
      each k l =
          elim (cases_lt q c) [
            | inl p ↦ past p
            | inr p ↦ elim (cases_eq (climb parent (q + 1) k) (q + 1)) [
              | inl e ↦ elim (cases_eq c (parent (q + 1))) [ inl w ↦ moved p e w | inr w ↦ elsewhere p e w ]
              | inr e ↦ stays p e
            ]
          ]
        where
          top : max (q + 1) (q + 1) ≡ q + 1
          top = omega arith

          past : q < c → Splits k
          past p =
              let e : max c q ≡ max c (q + 1) = omega arith in
              ap (λ (x : ℕ). when_in m (climb parent x k == c) (f k)) e
              ∙ sym (ap (m.plus (when_in m (climb parent (max c (q + 1)) k == c) (f k)))
              (when_in-false m (c == parent (q + 1)) (from_last k) (ne_eqb c (parent (q + 1)) (λ w. omega (arith, w, tree.before (q + 1) (omega arith)))))
              ∙ laws.alone (when_in m (climb parent (max c (q + 1)) k == c) (f k)))

          here : c ≤ q → climb parent (max c q) k ≡ climb parent q (climb parent (q + 1) k)
          here p = let e : max c q ≡ q = omega arith in ap (λ (x : ℕ). climb parent x k) e ∙ climb_by_way parent tree q k

          one_later : c ≤ q → climb parent (max c (q + 1)) k ≡ climb parent (q + 1) k
          one_later p = let e : max c (q + 1) ≡ q + 1 = omega arith in ap (λ (x : ℕ). climb parent x k) e

          parents : c ≤ q → climb parent (q + 1) k ≡ q + 1 → climb parent (max c q) k ≡ parent (q + 1)
          parents p e =
              here p ∙ ap (λ (x : ℕ). climb parent q x) e ∙ climb_up parent tree q (q + 1) (omega arith)
              ∙ climb_stays parent q (parent (q + 1)) (omega (arith, tree.before (q + 1) (omega arith)))

          not_later : c ≤ q → climb parent (q + 1) k ≡ q + 1 → when_in m (climb parent (max c (q + 1)) k == c) (f k) ≡ m.empty
          not_later p e =
              when_in-false m (climb parent (max c (q + 1)) k == c) (f k)
              (ne_eqb (climb parent (max c (q + 1)) k) c (λ w. omega (arith, w, one_later p, e)))

          moved : c ≤ q → climb parent (q + 1) k ≡ q + 1 → c ≡ parent (q + 1) → Splits k
          moved p e w =
              when_in-true m (climb parent (max c q) k == c) (f k) (eq-eqb (climb parent (max c q) k) c (parents p e ∙ sym w))
              ∙ sym (ap₂ (λ x y. m.plus x y) (not_later p e)
              (when_in-true m (c == parent (q + 1)) (from_last k) (eq-eqb c (parent (q + 1)) w)
              ∙ when_in-true m (climb parent (max (q + 1) (q + 1)) k == q + 1) (f k)
              (eq-eqb (climb parent (max (q + 1) (q + 1)) k) (q + 1) (ap (λ (x : ℕ). climb parent x k) top ∙ e)))
              ∙ empty_plus m laws (f k))

          elsewhere : c ≤ q → climb parent (q + 1) k ≡ q + 1 → c ≢ parent (q + 1) → Splits k
          elsewhere p e w =
              when_in-false m (climb parent (max c q) k == c) (f k) (ne_eqb (climb parent (max c q) k) c (λ y. w (sym (sym (parents p e) ∙ y))))
              ∙ sym (ap₂ (λ x y. m.plus x y) (not_later p e) (when_in-false m (c == parent (q + 1)) (from_last k) (ne_eqb c (parent (q + 1)) w))
              ∙ laws.alone m.empty)

          stays : c ≤ q → climb parent (q + 1) k ≢ q + 1 → Splits k
          stays p e =
              ap (λ (x : ℕ). when_in m (x == c) (f k))
              (here p ∙ climb_stays parent q (climb parent (q + 1) k) (omega (arith, e, climb_le parent tree (q + 1) k)) ∙ sym (one_later p))
              ∙ sym (ap (m.plus (when_in m (climb parent (max c (q + 1)) k == c) (f k)))
              (ap (when_in m (c == parent (q + 1))) none ∙ when_in-empty m (c == parent (q + 1)))
              ∙ laws.alone (when_in m (climb parent (max c (q + 1)) k == c) (f k)))
            where
              none : from_last k ≡ m.empty
              none =
                  when_in-false m (climb parent (max (q + 1) (q + 1)) k == q + 1) (f k)
                  (ne_eqb (climb parent (max (q + 1) (q + 1)) k) (q + 1) (λ y. e (ap (λ (x : ℕ). climb parent x k) (sym top) ∙ y)))

  -- one turn of the loop, in which the body p is added to its parent: g and h are what the entries are before and after
  pub held_step : (p q : ℕ) (g h : ℕ → A) → q + 1 ≡ p → p < n → ((c : ℕ) → c < n → g c ≡ held m parent n f p c)
      → ((c : ℕ) → c < n → h c ≡ cond (c == parent p) (m.plus (g c) (g p)) (g c)) → (c : ℕ) → c < n → h c ≡ held m parent n f q c
  held_step p q g h e l before turn c r = turn c r ∙ elim (cases_eq c (parent p)) [ inl w ↦ here w | inr w ↦ other w ]
    where
      last : g p ≡ held m parent n f (q + 1) (q + 1)
      last = before p l ∙ ap (λ (x : ℕ). held m parent n f x x) (sym e)

      this : g c ≡ held m parent n f (q + 1) c
      this = before c r ∙ ap (λ (x : ℕ). held m parent n f x c) (sym e)

      here : c ≡ parent p → cond (c == parent p) (m.plus (g c) (g p)) (g c) ≡ held m parent n f q c
      here w =
          cond-true (c == parent p) (m.plus (g c) (g p)) (g c) (eq-eqb c (parent p) w) ∙ ap₂ (λ x y. m.plus x y) this last
          ∙ ap (m.plus (held m parent n f (q + 1) c))
          (sym (when_in-true m (c == parent (q + 1)) (held m parent n f (q + 1) (q + 1))
          (eq-eqb c (parent (q + 1)) (w ∙ ap (λ (x : ℕ). parent x) (sym e)))))
          ∙ sym (held_more q c)

      other : c ≢ parent p → cond (c == parent p) (m.plus (g c) (g p)) (g c) ≡ held m parent n f q c
      other w =
          cond-false (c == parent p) (m.plus (g c) (g p)) (g c) (ne_eqb c (parent p) w) ∙ this
          ∙ sym (laws.alone (held m parent n f (q + 1) c))
          ∙ ap (m.plus (held m parent n f (q + 1) c))
          (sym (when_in-false m (c == parent (q + 1)) (held m parent n f (q + 1) (q + 1))
          (ne_eqb c (parent (q + 1)) (λ y. w (y ∙ ap (λ (x : ℕ). parent x) e)))))
          ∙ sym (held_more q c)

  -- the same where the parent's entry alone is written
  pub held_put : (p q : ℕ) (g h : ℕ → A) → q + 1 ≡ p → p < n → ((c : ℕ) → c < n → g c ≡ held m parent n f p c)
      → h (parent p) ≡ m.plus (g (parent p)) (g p) → ((c : ℕ) → c ≢ parent p → h c ≡ g c) → (c : ℕ) → c < n → h c ≡ held m parent n f q c
  held_put p q g h e l before same other = held_step p q g h e l before turn
    where
      turn : (c : ℕ) → c < n → h c ≡ cond (c == parent p) (m.plus (g c) (g p)) (g c)
      turn c r =
          elim (cases_eq c (parent p)) [
            | inl w ↦
                subst (λ (x : ℕ). h x ≡ m.plus (g x) (g p)) (sym w) same
                ∙ sym (cond-true (c == parent p) (m.plus (g c) (g p)) (g c) (eq-eqb c (parent p) w))
            | inr w ↦ other c w ∙ sym (cond-false (c == parent p) (m.plus (g c) (g p)) (g c) (ne_eqb c (parent p) w))
          ]

  -- all turns of the loop, the last body of which is `bodies`: g s is what the entries are after s of them
  pub carried_up : (bodies : ℕ) → bodies + 1 ≡ n → (g : ℕ → ℕ → A) → ((c : ℕ) → c ≤ bodies → g 0 c ≡ f c)
      → ((s c : ℕ) → s < bodies → c ≤ bodies → g (s + 1) c ≡ cond (c == parent (bodies - s)) (m.plus (g s c) (g s (bodies - s))) (g s c))
      → (c : ℕ) → c ≤ bodies → g bodies c ≡ sum_under m parent n f c
  carried_up bodies e g first turn c h =
      after bodies (omega arith) c (omega arith) ∙ held_end (bodies - bodies) c (omega arith)
    where
      after : (s : ℕ) → s ≤ bodies → (c : ℕ) → c < n → g s c ≡ held m parent n f (bodies - s) c
      after zero l c p = first c (omega arith) ∙ sym (held_start m laws parent n f (bodies - 0) c (omega arith) p)
      after (suc s) l c p =
          ap (λ (t : ℕ). g t c) (sym (add-one s))
          ∙ held_step (bodies - s) (bodies - suc s) (g s) (g (s + 1)) (omega arith) (omega arith) (after s (omega arith))
          (λ c q. turn s c (omega arith) (omega arith)) c p

  -- ---- sums under a body
  -- all are under the world
  pub sum_under_world : sum_under m parent n f 0 ≡ sum_in m n f
  sum_under_world =
      sum_in-ext m n (λ k. when_in m (at_or_above parent 0 k) (f k)) f
      (λ k l. when_in-true m (at_or_above parent 0 k) (f k) (world_is_above parent tree k))

  -- a body's own and what is under its children
  pub sum_under_children : (b : ℕ) → b < n
      → sum_under m parent n f b ≡ m.plus (f b) (sum_in m n (λ c. when_in m (is_child parent b c) (sum_under m parent n f c)))
  sum_under_children b h =
      sum_in-ext m n (λ k. when_in m (at_or_above parent b k) (f k)) (λ k. m.plus (when_in m (k == b) (f k)) (under_child k)) each
      ∙ sum_in-add m laws n (λ k. when_in m (k == b) (f k)) under_child
      ∙ ap₂ (λ x y. m.plus x y) own (sum_in-swap m laws n n term ∙ sum_in-ext m n by_child (λ c. when_in m (is_child parent b c) (sum_under m parent n f c)) whole)
    where
      term : ℕ → ℕ → A
      term k c = when_in m (is_child parent b c) (when_in m (at_or_above parent c k) (f k))

      under_child : ℕ → A
      under_child k = sum_in m n (λ c. term k c)

      by_child : ℕ → A
      by_child c = sum_in m n (λ k. term k c)

      whole : (c : ℕ) → c < n → by_child c ≡ when_in m (is_child parent b c) (sum_under m parent n f c)
      whole c l = sym (when_in-sum m laws (is_child parent b c) n (λ k. when_in m (at_or_above parent c k) (f k)))

      own : sum_in m n (λ k. when_in m (k == b) (f k)) ≡ f b
      own =
          sum_in-single m laws n b (λ k. when_in m (k == b) (f k)) h (λ k l ne. when_in-false m (k == b) (f k) (ne_eqb k b ne))
          ∙ when_in-true m (b == b) (f b) (eq-eqb b b refl)

      nothing : (k c : ℕ) → (is_child parent b c ≡ true → at_or_above parent c k ≡ true → ⊥) → term k c ≡ m.empty
      nothing k c apart =
          elim (cases_Bool (at_or_above parent c k)) [
            | inl p ↦
                when_in-false m (is_child parent b c) (when_in m (at_or_above parent c k) (f k))
                (false_from_ne_true (is_child parent b c) (λ q. apart q p))
            | inr p ↦ ap (when_in m (is_child parent b c)) (when_in-false m (at_or_above parent c k) (f k) p) ∙ when_in-empty m (is_child parent b c)
          ]

      Splits : ℕ → Type 0
      Splits k = when_in m (at_or_above parent b k) (f k) ≡ m.plus (when_in m (k == b) (f k)) (under_child k)

      each : (k : ℕ) → k < n → Splits k
      each k l =
          elim (cases_eq b k) [
            | inl e ↦ itself e
            | inr e ↦ elim (cases_Bool (at_or_above parent b k)) [ inl p ↦ below e p | inr p ↦ elsewhere e p ]
          ]
        where
          itself : b ≡ k → Splits k
          itself e =
              when_in-true m (at_or_above parent b k) (f k) (subst (λ (x : ℕ). at_or_above parent b x ≡ true) e (above_itself parent tree b))
              ∙ sym (ap₂ (λ x y. m.plus x y) (when_in-true m (k == b) (f k) (eq-eqb k b (sym e)))
              (sum_in-none m laws n (λ c. term k c)
              (λ c r. nothing k c (λ q p. omega (arith, e, child_is_later parent tree b c q, above_le parent tree c k p))))
              ∙ laws.alone (f k))

          below : b ≢ k → at_or_above parent b k ≡ true → Splits k
          below e p =
              let child = child_above parent tree b k p e in
              let early : child.0 < n = omega (arith, above_le parent tree child.0 k child.2) in
              when_in-true m (at_or_above parent b k) (f k) p
              ∙ sym (ap₂ (λ x y. m.plus x y) (when_in-false m (k == b) (f k) (ne_eqb k b (λ w. e (sym w))))
              (sum_in-single m laws n child.0 (λ c. term k c) early
              (λ c r w. nothing k c (λ q t. w (child_is_only parent tree b c child.0 k q child.1 t child.2)))
              ∙ when_in-true m (is_child parent b child.0) (when_in m (at_or_above parent child.0 k) (f k)) child.1
              ∙ when_in-true m (at_or_above parent child.0 k) (f k) child.2)
              ∙ empty_plus m laws (f k))

          elsewhere : b ≢ k → at_or_above parent b k ≡ false → Splits k
          elsewhere e p =
              when_in-false m (at_or_above parent b k) (f k) p
              ∙ sym (ap₂ (λ x y. m.plus x y) (when_in-false m (k == b) (f k) (ne_eqb k b (λ w. e (sym w))))
              (sum_in-none m laws n (λ c. term k c) (λ c r. nothing k c (λ q t. both_ways (at_or_above parent b k) p (through c q t))))
              ∙ laws.alone m.empty)
            where
              through : (c : ℕ) → is_child parent b c ≡ true → at_or_above parent c k ≡ true → at_or_above parent b k ≡ true
              through c q t =
                  above_trans parent tree b c k
                  (subst (λ (x : ℕ). at_or_above parent x c ≡ true) (parent_of_child parent tree b c q) (parent_is_above parent tree c)) t

-- ---- sums of other terms
