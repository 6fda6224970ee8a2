-- A dual that is made from what a block's lines tell.
use Rattle.std.specs.Prelude.{◌≡◌, ℕ, ◌<◌, ◌≤◌, ℤ, List, length}
use Rattle.mj_types.specs.declared.dual.Dual.{Dual}
use Rattle.mj_types.specs.Duals.{bound_at, entry_at, wide_at}
use Rattle.mj_types.specs.Parts.{number_at}
use Rattle.mj_types.specs.Problems.{HasRoom, place}
use Rattle.mj_check.specs.declared.dual.Making.{Making}
use Rattle.mj_check.specs.declared.numbers.Pair.{Pair}
use Rattle.mj_check.specs.declared.rows.ActiveRow.{ActiveRow}
use Rattle.mj_check.specs.Lines.{DualTold}
use Rattle.mj_check.specs.Numbers.{Printed, dual_at}
use Rattle.mj_check.specs.Rows.{raw_bound, row_at}

-- room for the numbers of a line, for a row of G, and for all rows
pub record HasPlaces (x : Making) : Type 0 where
  pub numbers : 128 ≤ length x.numbers
  pub row : length x.row ≡ x.dual.nv
  pub dual : HasRoom 1024 x.dual.nv x.dual

-- row i of the dual is the one that these lines tell
pub record StatesRow (d : Dual) (row : ActiveRow) (told : DualTold) (i : ℕ) : Type 0 where
  pub g : (k : ℕ) → k < d.nv → entry_at d.nv d.g i k ≡ told.g k
  pub r : wide_at d.r i ≡ told.r
  pub b : number_at d.b i ≡ told.b
  pub low : bound_at d.low i ≡ raw_bound row.told.bounds.low
  pub high : bound_at d.high i ≡ raw_bound row.told.bounds.high
  pub place : place d i ≡ row.place

-- row i is the same in two duals
pub record HasSameRow (d e : Dual) (i : ℕ) : Type 0 where
  pub g : (k : ℕ) → k < d.nv → entry_at e.nv e.g i k ≡ entry_at d.nv d.g i k
  pub r : wide_at e.r i ≡ wide_at d.r i
  pub b : number_at e.b i ≡ number_at d.b i
  pub low : bound_at e.low i ≡ bound_at d.low i
  pub high : bound_at e.high i ≡ bound_at d.high i
  pub place : place e i ≡ place d i

-- the dual is the one that the lines tell
pub record States (d : Dual) (rows : List ActiveRow) (duals : List DualTold) : Type 0 where
  pub count : d.m ≡ length duals
  pub each : (i : ℕ) → i < d.m → StatesRow d (row_at rows i) (dual_at duals i) i

-- what is printed of a block with these forces
abbrev pub printed_of : (ℕ → ℤ) → List ActiveRow → Pair → Printed
printed_of f rows told = record {
  f = f;
  cost = told.first.raw;
  bound = told.second.raw;
  lo = λ i. (row_at rows i).told.lo.raw;
  hi = λ i. (row_at rows i).told.hi.raw;
}
