-- Which tapes are accepted, what an accepted tape holds, and the first fault of any other. Records
-- and columns count from 1.
use Rattle.std.specs.Prelude.{◌≡◌, ◌⊎◌, ℕ, suc, ◌+◌, ◌*◌, ◌<◌, ℤ, pos, unsigned_abs, not, ◌==◌, nat_lt, nat_le, if◌then◌else◌, List, [], ◌∷◌, map, length, Option, Some, None, is_some, Result, Ok, Err, ⊤, MatchResult, get_or}
use Rattle.std.specs.Option.{unwrap_or}
use Rattle.std.specs.List.{flat_map}
use Rattle.csv.specs.Reading.{default_config, records, strip_bom}
use Rattle.csv.specs.declared.error.ErrorKind.{ErrorKind}
use Rattle.csv.specs.declared.error.ErrorKind.TheVariants as kind
use Rattle.fx_whole.specs.First.{or_first}
use Rattle.fx_text.specs.Decimal.{decimal}
use Rattle.fx_text.specs.declared.decimal.DecimalFault.{DecimalFault}
use Rattle.mj_types.specs.Control.{Control, control_limit}
use Rattle.mj_types.specs.declared.tape.Tape.{Tape}
use Rattle.mj_types.specs.declared.tape.TapeFault.{TapeFault}
use Rattle.mj_types.specs.declared.tape.TapeFault.TheVariants.{TooLarge, Width, BadNumber, Short, Memory}

-- a number that isn't too large
abbrev pub small_control : Result ℤ DecimalFault → Option ℤ
small_control (Ok v) = if nat_le (unsigned_abs v) control_limit then Some v else None
small_control (Err e) = None

-- the control that a field is: a numeral at scale 32 whose raw value is at most 2^52 in size
abbrev pub control_of : List ℕ → Option ℤ
control_of field = small_control (decimal 32 field)

-- the same, 0 where it is none
abbrev pub control_or_zero : List ℕ → ℤ
control_or_zero field = unwrap_or (control_of field) (pos 0)

-- the first field of record k, from this column on, that is no control
abbrev pub bad_field : ℕ → ℕ → List (List ℕ) → Option TapeFault
bad_field k column [] = None
bad_field k column (field ∷ fields) =
    if is_some (control_of field) then bad_field k (suc column) fields else Some (BadNumber k column)

-- the first fault of record k: it hasn't one field for each motor, the values up to its end pass
-- the room, or a field is no control
abbrev pub record_fault : ℕ → ℕ → ℕ → List (List ℕ) → Option TapeFault
record_fault width room k fields =
    if not (length fields == width) then Some (Width k)
    else if nat_lt room (k * width) then Some TooLarge
    else bad_field k 1 fields

-- the first fault of these records, of which the first is record k
abbrev pub first_fault : ℕ → ℕ → ℕ → List (List (List ℕ)) → Option TapeFault
first_fault width room k [] = None
first_fault width room k (row ∷ rows) =
    or_first (record_fault width room k row) (first_fault width room (suc k) rows)

-- the values of these records, one record after the other
abbrev pub record_controls : List (List (List ℕ)) → List ℤ
record_controls rows = flat_map (λ fields. map control_or_zero fields) rows

-- what a tape holds, with its values raw
pub record TapeValues : Type 0 where
  pub rows : ℕ
  pub width : ℕ
  pub values : List ℤ

-- the fault where there is one; else records fewer than the steps are short, and others are held,
-- those past the steps too
abbrev pub unless_short :
    ℕ → ℕ → List (List (List ℕ)) → Option TapeFault → Result TapeValues TapeFault
unless_short width steps rows (Some fault) = Err fault
unless_short width steps rows None =
    if nat_lt (length rows) steps then Err (Short (length rows))
    else Ok (record { rows = length rows; width = width; values = record_controls rows })

-- the records of a file: comma-separated values without headers, after a byte order mark
abbrev pub records_of : List ℕ → List (List (List ℕ))
records_of bytes = records default_config (strip_bom bytes)

-- the greatest length of a file
abbrev pub file_limit : ℕ
file_limit = 67108864

-- what a file is judged to be, for this many motors and steps and room for this many values
unfoldable pub tape_verdict : ℕ → ℕ → ℕ → List ℕ → Result TapeValues TapeFault
tape_verdict width steps room bytes =
    if nat_lt file_limit (length bytes) then Err TooLarge
    else unless_short width steps (records_of bytes) (first_fault width room 1 (records_of bytes))

-- controls as raw whole numbers
abbrev pub raws : List Control → List ℤ
raws values = map (λ x. x.mid) values

-- what an answer holds
abbrev pub seen : Result Tape TapeFault → Result TapeValues TapeFault
seen (Ok t) = Ok (record { rows = t.rows; width = t.width; values = raws t.values })
seen (Err fault) = Err fault

-- a step of the judging: no fault is found, or this one, or memory was wanted
abbrev pub FirstOrMemory : {T : Type 0} → Option TapeFault → Result T TapeFault → Type 0
FirstOrMemory first result =
    MatchResult result (λ _. first ≡ None) (λ fault. (fault ≡ Memory) ⊎ (first ≡ Some fault))

-- the errors of csv's reader that a tape may meet: want of memory, and an error of what is read
-- from, which are bytes in memory. Records of any length are taken and nothing is asked to be text,
-- so there is no other
abbrev pub IsExpected : ErrorKind → Type 0
IsExpected kind.OutOfMemory = ⊤
IsExpected (kind.Io e) = ⊤
IsExpected (kind.UnequalLengths at expected len) = ⊥
IsExpected (kind.Utf8 at err) = ⊥
IsExpected (kind.Serialize text) = ⊥
IsExpected (kind.Deserialize at err) = ⊥

-- value j of row k of a tape, and field j of record k of a file, all counted from 0
abbrev pub value_at : TapeValues → ℕ → ℕ → ℤ
value_at t k j = get_or t.values (k * t.width + j) (pos 0)

abbrev pub field_of : List ℕ → ℕ → ℕ → List ℕ
field_of bytes k j = get_or (get_or (records_of bytes) k []) j []

-- a tape that is accepted has a row for each record and a column for each motor, and value j of row
-- k is the control that field j of record k writes
pub record HoldsFields (width : ℕ) (bytes : List ℕ) (t : TapeValues) : Type 0 where
  pub rows : t.rows ≡ length (records_of bytes)
  pub columns : t.width ≡ width
  pub values :
      (k j : ℕ) → k < t.rows → j < t.width → control_of (field_of bytes k j) ≡ Some (value_at t k j)

abbrev pub TapesHoldFields : Type 0
TapesHoldFields =
    (width steps room : ℕ) (bytes : List ℕ) (t : TapeValues)
    → tape_verdict width steps room bytes ≡ Ok t → HoldsFields width bytes t
