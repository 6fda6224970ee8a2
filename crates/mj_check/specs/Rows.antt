-- The lines of a block's rows. `bounds` says that the rows tell their bounds, as they do in format 2.
use Rattle.std.specs.Prelude.{◌≡◌, ℕ, ◌+◌, ◌^◌, ◌<◌, ◌≤◌, ℤ, pos, unsigned_abs, Bool, true, false, cond, List, [], ◌∷◌, ◌++◌, length, All, slice_index_or, codes, decimal, Option, Some, None, IfSome, Result, Ok}
use Rattle.fx_num.specs.declared.number.Wide.{Wide}
use Rattle.mj_trace.specs.Lines.{spaced}
use Rattle.mj_trace.specs.Block.{bound_text}
use Rattle.mj_reading.specs.Reading.{IsBetween, IsRaw}
use Rattle.mj_check.specs.declared.rejection.Rejection.{Rejection}
use Rattle.mj_check.specs.declared.rows.Bounds.{Bounds}
use Rattle.mj_check.specs.declared.rows.Told.{Told}
use Rattle.mj_check.specs.declared.rows.RowTold.{RowTold}
use Rattle.mj_check.specs.declared.rows.ActiveRow.{ActiveRow}
use Rattle.mj_check.specs.declared.counts.Counts.{Counts}
use Rattle.mj_check.specs.Judging.{Line, Limited, Then, Each}
use Rattle.mj_check.specs.Sources.{IsSource, source_line}

-- ---- how many rows there are, and how many of them are idle
abbrev pub counts_line : Counts → List ℕ
counts_line c = ((codes "rows " ++ decimal c.rows) ++ (codes " idle " ++ decimal c.idle)) ++ codes "\n"

pub record AreCounts (c : Counts) : Type 0 where
  pub rows : IsBetween 0 1024 c.rows
  pub idle : IsBetween 0 c.rows c.idle

-- ---- a row's bounds: in format 1 a force is at least 0, and has no high bound
abbrev pub raw_bound : Option (Wide 0) → Option ℤ
raw_bound None = None
raw_bound (Some x) = Some x.raw

abbrev pub IsBound : Option (Wide 0) → Type 0
IsBound x = IfSome x IsRaw

abbrev pub AreBounds : Bool → Bounds → Type 0
AreBounds true x = IsBound x.low × IsBound x.high
AreBounds false x = (x.low ≡ Some (record { raw = pos 0 })) × (x.high ≡ None)

abbrev pub both_bounds : Bounds → List ℕ
both_bounds x = bound_text (raw_bound x.low) ++ bound_text (raw_bound x.high)

abbrev pub bounds_line : Bool → Bounds → List ℕ
bounds_line bounds x = cond bounds ((codes " in" ++ bound_text (raw_bound x.low)) ++ bound_text (raw_bound x.high)) []

-- ---- a row's force, the ends of its box and its bounds
abbrev pub told_line : Bool → Told → List ℕ
told_line bounds x = ((spaced x.f.raw ++ spaced x.lo.raw) ++ spaced x.hi.raw) ++ bounds_line bounds x.bounds

pub record IsTold (tells : Bool) (x : Told) : Type 0 where
  pub force : IsRaw x.f
  pub lo : IsRaw x.lo
  pub hi : IsRaw x.hi
  pub bounds : AreBounds tells x.bounds

-- an idle row has none of them
abbrev pub rest_line : Bool → Option Told → List ℕ
rest_line bounds None = codes " idle"
rest_line bounds (Some x) = told_line bounds x

-- row i, from 1
abbrev pub row_line : Bool → ℕ → RowTold → List ℕ
row_line bounds i x =
    ((((codes "row " ++ decimal i) ++ codes " ") ++ source_line x.source) ++ rest_line bounds x.told) ++ codes "\n"

-- what a row line tells
pub record MayBeRow (bounds : Bool) (x : RowTold) : Type 0 where
  pub source : IsSource bounds x.source
  pub told : IfSome x.told (IsTold bounds)

-- after i rows, of which so many aren't idle: there are as many idle ones, and others, as was said
abbrev pub MayStand : Counts → ℕ → ℕ → Option Told → Type 0
MayStand c i active None = i < active + c.idle
MayStand c i active (Some x) = active + c.idle < c.rows

pub record IsRow (bounds : Bool) (c : Counts) (i active : ℕ) (x : RowTold) : Type 0 where
  pub row : MayBeRow bounds x
  pub place : MayStand c i active x.told

-- ---- its numbers are within their limits: forces and bounds 2^30, the ends of a box 2^31
abbrev pub IsSmall : ℕ → Wide 0 → Type 0
IsSmall limit x = unsigned_abs x.raw ≤ limit

pub record ToldWithin (x : Told) : Type 0 where
  pub force : IsSmall (2 ^ 50) x.f
  pub low : IfSome x.bounds.low (IsSmall (2 ^ 50))
  pub high : IfSome x.bounds.high (IsSmall (2 ^ 50))
  pub lo : IsSmall (2 ^ 51) x.lo
  pub hi : IsSmall (2 ^ 51) x.hi

abbrev pub RowWithin : RowTold → Type 0
RowWithin x = IfSome x.told ToldWithin

-- ---- all rows, of which those that aren't idle are kept, each with its number
abbrev pub with_row : ℕ → Option Told → List ActiveRow → List ActiveRow
with_row place None rows = rows
with_row place (Some x) rows = rows ++ (record { place = place; told = x } ∷ [])

abbrev pub IsRowAt : Bool → Counts → ℕ → ℕ → ℕ → List ℕ → Result (RowTold × List ℕ) Rejection → Type 0
IsRowAt bounds c i active at rest =
    Then (Line (IsRow bounds c i active) (row_line bounds (i + 1)) at rest) (Limited RowWithin at)

abbrev pub IsNextRow : Bool → Counts → ℕ → ℕ → List ActiveRow × List ℕ
    → Result (List ActiveRow × List ℕ) Rejection → Type 0
IsNextRow bounds c at i from =
    Then (IsRowAt bounds c i (length from.0) (at + i) from.1) (λ found result.
    result ≡ Ok (with_row (i + 1) found.0.told from.0, found.1))

abbrev pub AreRows : Bool → Counts → ℕ → List ℕ → Result (List ActiveRow × List ℕ) Rejection → Type 0
AreRows bounds c at rest = Each (IsNextRow bounds c at) c.rows ([], rest)

-- what is kept: each row's number is one of the list's, and its numbers are in form and within their limits
pub record IsKept (bounds : Bool) (n : ℕ) (row : ActiveRow) : Type 0 where
  pub place : row.place ≤ n
  pub told : IsTold bounds row.told
  pub within : ToldWithin row.told

-- at most n of them
pub record AreKept (bounds : Bool) (n : ℕ) (rows : List ActiveRow) : Type 0 where
  pub few : length rows ≤ n
  pub each : All (IsKept bounds n) rows

-- a row of the list
abbrev pub no_told : Told
no_told = record {
  f = record { raw = pos 0 };
  lo = record { raw = pos 0 };
  hi = record { raw = pos 0 };
  bounds = record { low = None; high = None };
}

abbrev pub no_row : ActiveRow
no_row = record { place = 0; told = no_told }

abbrev pub row_at : List ActiveRow → ℕ → ActiveRow
row_at rows i = slice_index_or rows i no_row
