-- What a mass matrix and a factor hold, as functions of two dofs.
use Rattle.std.specs.Prelude.{◌≡◌, ℕ, ◌+◌, ◌^◌, ◌<◌, ◌≤◌, nat_le, Bool, true, ℤ, pos, ◌-ℤ◌, ◌*ℤ◌, ◌≤ℤ◌, unsigned_abs, List}
use Rattle.fx_whole.specs.Counting.{count_to}
use Rattle.fx_whole.specs.Nearest.{nearest}
use Rattle.fx_whole.specs.Sums.{sum_to, when}
use Rattle.fx_num.specs.declared.number.Number.{Number}
use Rattle.fx_num.specs.declared.number.Wide.{Wide}
use Rattle.mj_tree.specs.Listing.{start, height, listed}
use Rattle.mj_types.specs.declared.carriers.Factor.{Factor}
use Rattle.mj_types.specs.declared.carriers.Mass.{Mass}
use Rattle.mj_types.specs.declared.model.Model.{Model}
use Rattle.mj_types.specs.Duals.{wide_at}
use Rattle.mj_types.specs.FactorRooms.{FactorRoom}
use Rattle.mj_types.specs.Forests.{above_in}
use Rattle.mj_types.specs.Masses.{mass_at}
use Rattle.mj_types.specs.Parts.{number_at}
use Rattle.mj_quadratic.specs.Forms.{less_diagonal}
use Rattle.mj_factor.specs.Factors.{work, lower, pivot}

-- row k and column i of listed entries: at the place of k's list that names i; 0 where i isn't above k
abbrev pub entry : {F : ℕ} → (ℕ → ℕ → Bool) → List (Number (Unit {0}) F) → ℕ → ℕ → ℤ
entry above xs k i = when (above i k) (number_at xs (start above k + count_to i (λ j. above j k)))

-- what a factor keeps once it is made: the ranges of L and D
pub record IsFactor (m : Model) (f : Factor) : Type 0 where
  pub room : FactorRoom m f
  pub lower : (p : ℕ) → unsigned_abs (number_at f.l p) ≤ 2 ^ 48
  pub least : (k : ℕ) → k < m.nv → pos (2 ^ 10) ≤ℤ number_at f.d k
  pub most : (k : ℕ) → k < m.nv → number_at f.d k ≤ℤ pos (2 ^ 60)

-- ---- while a factor is made
-- x less a sum of products that is rounded
abbrev pub less : ℤ → ℤ → ℤ
less x sum = x -ℤ nearest sum (pos (2 ^ 32))

abbrev pub quotient : ℤ → ℤ → ℤ
quotient w d = nearest (w *ℤ pos (2 ^ 32)) d

-- what row j adds to the sum for the place c of row k: where k is above j, L_jk times the number of W at that place of row j
abbrev pub row_term : (ℕ → ℕ → Bool) → (ℕ → ℤ) → (ℕ → ℤ) → ℕ → ℕ → ℕ → ℤ
row_term above l w k c j = when (above k j) (l (start above j + height above k) *ℤ w (start above j + c))

-- W and L at the place c of row k, from the sums and the pivot; `names` are the listed dofs
abbrev pub work_there : Model → Mass → List ℕ → List (Wide 72) → ℕ → ℕ → ℤ
work_there m x names sums k c = less (mass_at m.nv x.m k (listed (above_in m) names k c)) (wide_at sums c)

abbrev pub lower_there : Model → Mass → List ℕ → List (Wide 72) → ℤ → ℕ → ℕ → ℤ
lower_there m x names sums d k c = quotient (work_there m x names sums k c) d

-- the places from p on hold numbers of at most a limit
abbrev pub SmallFrom : ℕ → ℕ → (ℕ → ℤ) → Type 0
SmallFrom limit p x = (q : ℕ) → p ≤ q → unsigned_abs (x q) ≤ limit

-- a mass matrix less s on its diagonal
abbrev pub shifted_mass : ℤ → Model → Mass → ℕ → ℕ → ℤ
shifted_mass s m x = less_diagonal s (mass_at m.nv x.m)

-- the rows from k on are made
pub record HasRows (s : ℤ) (m : Model) (x : Mass) (k : ℕ) (f : Factor) : Type 0 where
  pub pivots : (j : ℕ) → k ≤ j → j < m.nv → number_at f.d j ≡ pivot m.nv (shifted_mass s m x) j
  pub works : (j i : ℕ) → k ≤ j → j < m.nv → above_in m i j ≡ true
      → number_at f.w (start (above_in m) j + height (above_in m) i) ≡ work m.nv (shifted_mass s m x) j i
  pub lowers : (j i : ℕ) → k ≤ j → j < m.nv → above_in m i j ≡ true
      → number_at f.l (start (above_in m) j + height (above_in m) i) ≡ lower m.nv (shifted_mass s m x) j i
  pub work_small : SmallFrom (2 ^ 60) (start (above_in m) k) (number_at f.w)
  pub lower_small : SmallFrom (2 ^ 48) (start (above_in m) k) (number_at f.l)
  pub least : (j : ℕ) → k ≤ j → j < m.nv → pos (2 ^ 10) ≤ℤ number_at f.d j
  pub most : (j : ℕ) → k ≤ j → j < m.nv → number_at f.d j ≤ℤ pos (2 ^ 60)

-- ---- while it solves
-- f p + .. + f (n - 1)
abbrev pub sum_from : ℕ → ℕ → (ℕ → ℤ) → ℤ
sum_from p n f = sum_to n (λ j. when (nat_le p j) (f j))
