-- Names: an object's name has 1 to 64 bytes, and no other object of its kind has it.
use Rattle.std.specs.Prelude.{ℕ, Bool, false, not, ◌&&◌, nat_le, List, length, Option, Some, None, bytes_eq, Ok}
use Rattle.mj_types.specs.declared.status.ModelCode.TheVariants as code
use Rattle.mj_form.specs.Reading.{◌>>◌}
use Rattle.mj_judge.specs.Judged.{Judged, unless}

abbrev pub is_name : List ℕ → Bool
is_name name = nat_le 1 (length name) && nat_le (length name) 64

-- an object's name is this one
abbrev pub is_named : List ℕ → Option (List ℕ) → Bool
is_named name None = false
is_named name (Some own) = bytes_eq own name

-- a name, of which it is known whether it was met before
unfoldable pub name : Bool → List ℕ → Judged (Unit {0})
name met text = unless (is_name text) code.LimitPassed >> unless (not met) code.DuplicateName

-- a name where there is one
abbrev pub optional_name : (List ℕ → Bool) → Option (List ℕ) → Judged (Unit {0})
optional_name met None = Ok tt
optional_name met (Some text) = name (met text) text
