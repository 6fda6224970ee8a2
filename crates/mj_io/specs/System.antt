-- What is made of the answers of a system that is read from and written to.
use Rattle.std.specs.Prelude.{◌≡◌, ℕ, Bool, true, ◌==◌, cond, Option, List, ◌++◌, take, Result, Ok, Err}
use Rattle.std.specs.Io.KnownBytes.{Appends, Consumes}
use Rattle.mj_io.specs.Faults.{raised}

-- a count of faults after a call, which was a fault or wasn't
abbrev pub count_after : Bool → ℕ → ℕ
count_after fault count = cond fault (raised count) count

-- whether a write failed or took no byte
abbrev pub takes_nothing : {E : Type 0} → Result ℕ E → Bool
takes_nothing (Ok n) = n == 0
takes_nothing (Err e) = true

-- bytes that are known grew by some prefix of these
abbrev pub AppendsPrefix : Option (List ℕ) → Option (List ℕ) → List ℕ → Type 0
AppendsPrefix old new bytes = (n : ℕ) × Appends old new (take n bytes)

-- a reader whose bytes are known lost some, and these became those by appending them
abbrev pub ReadsOn : Option (List ℕ) → Option (List ℕ) → List ℕ → List ℕ → Type 0
ReadsOn old new before after = (piece : List ℕ) × (after ≡ before ++ piece) × Consumes old new piece
