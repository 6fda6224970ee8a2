-- How what a sink holds grows, and what a cabinet gives. Bytes that are not told are `None`.
use Rattle.std.specs.Prelude.{◌≡◌, ℕ, List, ◌++◌, take, Option, Some, None}

-- bytes that no contract knows
abbrev pub untold : Option (List ℕ)
untold = None

-- where the new bytes are told, the old ones were, and they grew by these
abbrev pub Grew : Option (List ℕ) → List ℕ → Option (List ℕ) → Type 0
Grew old bytes None = Unit {0}
Grew None bytes (Some new) = ⊥
Grew (Some old) bytes (Some new) = new ≡ old ++ bytes

-- the same for some prefix of these bytes
pub record GrewPart (old : Option (List ℕ)) (bytes : List ℕ) (new : Option (List ℕ)) : Type 0 where
  pub prefix : List ℕ
  pub rest : List ℕ
  pub parts : bytes ≡ prefix ++ rest
  pub grew : Grew old prefix new

-- these are the first `cap` bytes of what is held under a name, or all of it where it has fewer;
-- where nothing is held, nothing is given
abbrev pub Gives : Option (List ℕ) → ℕ → List ℕ → Type 0
Gives None cap bytes = ⊥
Gives (Some held) cap bytes = bytes ≡ take cap held
