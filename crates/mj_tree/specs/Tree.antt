-- The tree of bodies and of dofs: which is above which, and what moves what. Featherstone, Rigid Body Dynamics Algorithms, chapter 4.
use Rattle.std.specs.Prelude.{◌≡◌, ℕ, zero, suc, ◌<◌, ◌≤◌, ◌==◌, nat_lt, Bool, true, ◌&&◌, ◌||◌}

-- bodies by their numbers: the world is 0, and a parent has a smaller number than its child
pub record IsTree (parent : ℕ → ℕ) : Type 0 where
  pub world : parent 0 ≡ 0
  pub before : (b : ℕ) → 0 < b → parent b < b

-- a is b, or one of the first n bodies above b
abbrev pub reaches : (ℕ → ℕ) → ℕ → ℕ → ℕ → Bool
reaches parent a zero b = a == b
reaches parent a (suc n) b = a == b || reaches parent a n (parent b)

-- a is b or a body above it, of which there are at most b
unfoldable pub at_or_above : (ℕ → ℕ) → ℕ → ℕ → Bool
at_or_above parent a b = reaches parent a b b

-- ---- dofs by their places, from 0; `body j` is the body that dof j is of
-- dof j moves body b: its joint is on b or on a body above b
abbrev pub moves : (ℕ → ℕ) → (ℕ → ℕ) → ℕ → ℕ → Bool
moves parent body j b = at_or_above parent (body j) b

-- dof i is above dof k: it comes earlier, and moves k's body
abbrev pub above : (ℕ → ℕ) → (ℕ → ℕ) → ℕ → ℕ → Bool
above parent body i k = nat_lt i k && moves parent body i (body k)

-- the dofs below `dofs` stand in the order of their bodies, from 1 to `bodies`: `first b` is the place of b's first
pub record IsLayout (parent body first : ℕ → ℕ) (bodies dofs : ℕ) : Type 0 where
  pub tree : IsTree parent
  pub not_world : (j : ℕ) → j < dofs → 0 < body j
  pub on_body : (j : ℕ) → j < dofs → body j ≤ bodies
  pub before : (j b : ℕ) → j < dofs → b ≤ bodies → j < first b → body j < b
  pub after : (j b : ℕ) → j < dofs → b ≤ bodies → first b ≤ j → b ≤ body j
  pub within : (b : ℕ) → b ≤ bodies → first b ≤ dofs

-- all that a factor knows of which dof is above which, of those below n
pub record IsForest (n : ℕ) (above : ℕ → ℕ → Bool) : Type 0 where
  pub before : (i k : ℕ) → above i k ≡ true → i < k
  pub through : (i j k : ℕ) → k < n → above i j ≡ true → above j k ≡ true → above i k ≡ true
  pub between : (i j k : ℕ) → k < n → i < j → above i k ≡ true → above j k ≡ true → above i j ≡ true
