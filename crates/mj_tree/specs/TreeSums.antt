-- Sums along the tree: over what is at or below a body, and over the dofs that move it. Featherstone,
-- Rigid Body Dynamics Algorithms, chapters 5 and 6.
use Rattle.std.specs.Prelude.{ℕ, zero, suc, ◌==◌, nat_le, max, Bool, cond, ◌&&◌, nat_lt}
use Rattle.fx_whole.specs.Adding.{Adding, sum_in, when_in}
use Rattle.mj_tree.specs.Tree.{at_or_above, moves}

-- ---- up: over the bodies below n that are b or below b
abbrev pub sum_under : {A : Type 0} → Adding A → (ℕ → ℕ) → ℕ → (ℕ → A) → ℕ → A
sum_under m parent n f b = sum_in m n (λ k. when_in m (at_or_above parent b k) (f k))

-- c is a child of b
abbrev pub is_child : (ℕ → ℕ) → ℕ → ℕ → Bool
is_child parent b c = nat_lt b c && parent c == b

-- ---- down: over those of the first n dofs that move b
abbrev pub sum_moving : {A : Type 0} → Adding A → (ℕ → ℕ) → (ℕ → ℕ) → ℕ → (ℕ → A) → ℕ → A
sum_moving m parent body n f b = sum_in m n (λ j. when_in m (moves parent body j b) (f j))

-- over the dofs before `base j` that move j's body
abbrev pub sum_before : {A : Type 0} → Adding A → (ℕ → ℕ) → (ℕ → ℕ) → (ℕ → ℕ) → (ℕ → A) → ℕ → A
sum_before m parent body base f j = sum_moving m parent body (base j) f (body j)

-- ---- while a sum is carried up: a loop from the last body down adds each body's to its parent's
-- the first of k, its parent, its parent's parent .. whose number is at most p, after at most n steps
abbrev pub climbs : (ℕ → ℕ) → ℕ → ℕ → ℕ → ℕ
climbs parent p zero k = k
climbs parent p (suc n) k = cond (nat_le k p) k (climbs parent p n (parent k))

unfoldable pub climb : (ℕ → ℕ) → ℕ → ℕ → ℕ
climb parent p k = climbs parent p k k

-- what b holds once each body after p was added to its parent: of the bodies that climb to b
abbrev pub held : {A : Type 0} → Adding A → (ℕ → ℕ) → ℕ → (ℕ → A) → ℕ → ℕ → A
held m parent n f p b = sum_in m n (λ k. when_in m (climb parent (max b p) k == b) (f k))
