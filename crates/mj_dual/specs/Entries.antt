-- The problem that is made of the rows that pass a test, in their order.
use Rattle.std.specs.Prelude.{◌≡◌, ℕ, ◌+◌, ◌<◌, Bool, ℤ, List, length, slice_set, Option, slice_index_or}
use Rattle.fx_whole.specs.Counting.{count_to}
use Rattle.fx_whole.specs.Entries.{below}
use Rattle.fx_num.specs.declared.number.Number.{Number}
use Rattle.mj_optimum.specs.Problem.{Problem}
use Rattle.mj_types.specs.declared.dual.Dual.{Dual}
use Rattle.mj_types.specs.declared.dual.DualRow.{DualRow}
use Rattle.mj_types.specs.Duals.{wide_at, bound_at, entry_at}
use Rattle.mj_types.specs.Parts.{number_at}
use Rattle.mj_types.specs.StepValues.{DualValues, own}
use Rattle.mj_dual.specs.Passing.{passing}

-- what the dual holds of a row
pub record Entry : Type 0 where
  pub g : ℕ → ℤ
  pub r : ℤ
  pub b : ℤ
  pub low : Option ℤ
  pub high : Option ℤ

-- ---- of the first n rows, whose entries are e, those that pass
abbrev pub problem_from : ℕ → ℕ → (ℕ → Bool) → (ℕ → Entry) → Problem
problem_from nv n p e = record {
  m = count_to n p;
  nv = nv;
  g = λ k. (e (passing n p k)).g;
  r = λ k. (e (passing n p k)).r;
  b = λ k. (e (passing n p k)).b;
  low = λ k. (e (passing n p k)).low;
  high = λ k. (e (passing n p k)).high;
}

-- and the number of each, from 1, in the list of all rows
abbrev pub dual_from : ℕ → ℕ → (ℕ → Bool) → (ℕ → Entry) → DualValues
dual_from nv n p e = record { problem = own (problem_from nv n p e); place = below 0 (count_to n p) (λ k. passing n p k + 1) }

-- ---- a dual that holds them
pub record HasEntries (nv n : ℕ) (p : ℕ → Bool) (e : ℕ → Entry) (d : Dual) : Type 0 where
  pub dofs : d.nv ≡ nv
  pub count : d.m ≡ count_to n p
  pub numbers : (k j : ℕ) → k < count_to n p → j < nv → entry_at nv d.g k j ≡ (e (passing n p k)).g j
  pub regularizer : (k : ℕ) → k < count_to n p → wide_at d.r k ≡ (e (passing n p k)).r
  pub right_side : (k : ℕ) → k < count_to n p → number_at d.b k ≡ (e (passing n p k)).b
  pub low_bound : (k : ℕ) → k < count_to n p → bound_at d.low k ≡ (e (passing n p k)).low
  pub high_bound : (k : ℕ) → k < count_to n p → bound_at d.high k ≡ (e (passing n p k)).high
  pub place : (k : ℕ) → k < count_to n p → slice_index_or d.place k 0 ≡ passing n p k + 1

-- ---- what a push leaves
pub record IsPushed (numbers : List (Number (Unit {0}) 24)) (row : DualRow) (old new : Dual) : Type 0 where
  pub dofs : new.nv ≡ old.nv
  pub count : new.m ≡ old.m + 1
  pub before : (i k : ℕ) → i < old.m → k < old.nv → entry_at new.nv new.g i k ≡ entry_at old.nv old.g i k
  pub here : (k : ℕ) → k < old.nv → entry_at new.nv new.g old.m k ≡ number_at numbers k
  pub place : new.place ≡ slice_set old.place old.m row.place
  pub r : new.r ≡ slice_set old.r old.m row.r
  pub b : new.b ≡ slice_set old.b old.m row.b
  pub low : new.low ≡ slice_set old.low old.m row.low
  pub high : new.high ≡ slice_set old.high old.m row.high
  pub place_room : old.m < length old.place
  pub r_room : old.m < length old.r
  pub b_room : old.m < length old.b
  pub low_room : old.m < length old.low
  pub high_room : old.m < length old.high
