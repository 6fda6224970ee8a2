-- A sink in memory that never fails, and tells its bytes as long as all of them have room.
use Rattle.std.specs.Prelude.{ℕ, ◌+◌, nat_le, cond, List, ◌++◌, length, Option, None, Some}

-- the bytes so far, where all had room, and the room
pub record Roomy : Type 0 where
  pub text : Option (List ℕ)
  pub room : ℕ

-- the bytes after one more piece, or nothing where they don't fit
abbrev pub text_then : Option (List ℕ) → ℕ → List ℕ → Option (List ℕ)
text_then None room piece = None
text_then (Some text) room piece =
    cond (nat_le (length text + length piece) room) (Some (text ++ piece)) None
