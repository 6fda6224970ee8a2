-- Laws of the rows that are kept.
use Rattle.std.proofs.Common.{◌≡◌, ℕ, ◌+◌, ◌≤◌, ◌<◌, Bool, List, ◌++◌, ◌∷◌, [], length, Option, Some, None, IfSome, length-append, arith}
use Rattle.std.specs.List.{All}
use Rattle.std.proofs.lemmas.List.Elements.{All-push}
use Rattle.mj_check.specs.declared.counts.Counts.{Counts}
use Rattle.mj_check.specs.declared.rows.Told.{Told}
use Rattle.mj_check.specs.declared.rows.ActiveRow.{ActiveRow}
use Rattle.mj_check.specs.Rows.{IsTold, ToldWithin, MayStand, IsKept, with_row}

-- after i rows, of which these are kept
pub record Keeps (tells : Bool) (c : Counts) (i : ℕ) (rows : List ActiveRow) : Type 0 where
  pub few : length rows ≤ i
  pub idle : i ≤ length rows + c.idle
  pub active : length rows + c.idle ≤ c.rows
  pub each : All (IsKept tells c.rows) rows

-- and one more
pub keeps-more : (tells : Bool) (c : Counts) (i : ℕ) (rows : List ActiveRow) (told : Option Told) → i < c.rows → MayStand c i (length rows) told → IfSome told (IsTold tells) → IfSome told ToldWithin → Keeps tells c i rows → Keeps tells c (i + 1) (with_row (i + 1) told rows)
keeps-more tells c i rows None l m t w k = record { few = let f = k.few in omega arith; idle = omega arith; active = k.active; each = k.each }
keeps-more tells c i rows (Some x) l m t w k =
    let n : length (rows ++ (record { place = i + 1; told = x } ∷ [])) ≡ length rows + 1 = length-append rows (record { place = i + 1; told = x } ∷ []) in
    let f = k.few in
    let d = k.idle in
    record {
      few = omega arith;
      idle = omega arith;
      active = omega arith;
      each = All-push (IsKept tells c.rows) rows (record { place = i + 1; told = x }) k.each (record { place = omega arith; told = t; within = w });
    }
