-- What a mass matrix holds while it is written, dof after dof, and the momenta that composite inertias give.
use Rattle.std.specs.Prelude.{◌≡◌, ℕ, ◌+◌, ◌-◌, ◌*◌, ◌<◌, ◌≤◌, cond, ℤ, List, slice_index_or}
use Rattle.fx_num.specs.declared.number.Number.{Number}
use Rattle.fx_vec.specs.Spatial.{Spatial, inertia_times}
use Rattle.mj_types.specs.declared.carriers.Composite.{Composite}
use Rattle.mj_types.specs.declared.model.Model.{Model}
use Rattle.mj_types.specs.Masses.{no_near}
use Rattle.mj_types.specs.Parts.{body_of}
use Rattle.mj_types.specs.Placed.{inertia_at}
use Rattle.mj_inertia.specs.MassEntries.{joins, entry, momentum, momentum_radius, rounded_radius}

-- the composite inertia of dof j's body times S_j
unfoldable pub joint_momentum : Model → (ℕ → Spatial ℤ) → Composite → ℕ → Spatial ℤ
joint_momentum m column c j = inertia_times (inertia_at c.list (body_of m.dofs j - 1)) (column j)

-- ---- M_ij with its radius, for i at most j, from S_i and h_j and the radii of h_j
unfoldable pub near_entry : Model → Spatial ℤ → Spatial ℤ → Spatial ℕ → ℕ → ℕ → Number ℕ 40
near_entry m s h r i j = cond (joins m i j) (record { mid = entry m s h i j; rad = rounded_radius s h r }) no_near

-- from the sum of each dof's momentum
abbrev pub near_from : Model → (ℕ → Spatial ℤ) → (ℕ → Spatial ℤ) → ℕ → ℕ → Number ℕ 40
near_from m column sums i j = near_entry m (column i) (momentum (sums j)) (momentum_radius (sums j)) i j

-- ---- a matrix of width n
abbrev pub near_at : ℕ → List (Number ℕ 40) → ℕ → ℕ → Number ℕ 40
near_at n xs i j = slice_index_or xs (i * n + j) no_near

-- x stands in row i and column j, and in row j and column i; the other places among the first rows and columns up to j are as before
pub record WritesBoth (n i j : ℕ) (x : Number ℕ 40) (old new : List (Number ℕ 40)) : Type 0 where
  pub upper : near_at n new i j ≡ x
  pub lower : near_at n new j i ≡ x
  pub before_upper : (a b : ℕ) → a ≤ b → b < j → near_at n new a b ≡ near_at n old a b
  pub before_lower : (a b : ℕ) → a ≤ b → b < j → near_at n new b a ≡ near_at n old b a
  pub here_upper : (a : ℕ) → a < i → near_at n new a j ≡ near_at n old a j
  pub here_lower : (a : ℕ) → a < i → near_at n new j a ≡ near_at n old j a

-- f stands in column j and in row j before i, and the rows and columns before j are as before
pub record WritesTo (n j i : ℕ) (f : ℕ → Number ℕ 40) (old new : List (Number ℕ 40)) : Type 0 where
  pub upper : (a : ℕ) → a < i → near_at n new a j ≡ f a
  pub lower : (a : ℕ) → a < i → near_at n new j a ≡ f a
  pub before_upper : (a b : ℕ) → a ≤ b → b < j → near_at n new a b ≡ near_at n old a b
  pub before_lower : (a b : ℕ) → a ≤ b → b < j → near_at n new b a ≡ near_at n old b a

-- f stands, on both sides, in all rows and columns before j
pub record HasEntries (n j : ℕ) (f : ℕ → ℕ → Number ℕ 40) (x : List (Number ℕ 40)) : Type 0 where
  pub upper : (a b : ℕ) → a ≤ b → b < j → near_at n x a b ≡ f a b
  pub lower : (a b : ℕ) → a ≤ b → b < j → near_at n x b a ≡ f a b
