-- Files in memory by name, some of whose reads fail.
use Rattle.std.specs.Prelude.{ℕ, Bool, true, false, Result, Ok, Err, ◌||◌, cond, List, [], ◌∷◌, map, Option, None, Some, is_none, unwrap_or, String, Vec, string_bytes}
use Rattle.std.specs.Str.{bytes_eq}
use Rattle.mj_io.specs.declared.cabinet.CabinetFault.{CabinetFault}
use Rattle.mj_io.specs.declared.cabinet.CabinetFault.TheVariants.{Failed, Memory}
use Rattle.mj_io.specs.Faults.{raised}
use Rattle.mj_io.specs.Tray.{is_listed}

-- the bytes of the first file of a name
abbrev pub first_named : List ℕ → List (List ℕ × List ℕ) → Option (List ℕ)
first_named name [] = None
first_named name (file ∷ files) = cond (bytes_eq file.0 name) (Some file.1) (first_named name files)

-- the names and bytes of files
abbrev pub texts_of : {A : Type 0} → List (String A × Vec ℕ A) → List (List ℕ × List ℕ)
texts_of files = map (λ f. (string_bytes f.0, f.1.items)) files

-- the files as pairs of a name and bytes, the numbers of the reads that fail, how many reads there
-- were, and how many of them failed
pub record Shelf : Type 0 where
  pub files : List (List ℕ × List ℕ)
  pub fails : List ℕ
  pub reads : ℕ
  pub count : ℕ

-- whether the next read of a name is a fault: its number, counted from 1, is listed, or no file has
-- the name
abbrev pub read_fails : Shelf → List ℕ → Bool
read_fails s name = is_listed (raised s.reads) s.fails || is_none (first_named name s.files)

-- after a read of a name
abbrev pub after_read : Shelf → List ℕ → Shelf
after_read s name =
    record s { reads = raised s.reads; count = cond (read_fails s name) (raised s.count) s.count }

-- whether a read was a fault
abbrev pub is_fault : {T : Type 0} → Result T CabinetFault → Bool
is_fault (Ok bytes) = false
is_fault (Err Failed) = true
is_fault (Err Memory) = false

-- the bytes of the first file of a name, or the empty text where no file has it
abbrev pub text_named : List ℕ → List (List ℕ × List ℕ) → List ℕ
text_named name files = unwrap_or (first_named name files) []
