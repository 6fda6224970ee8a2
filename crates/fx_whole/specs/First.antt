-- The first of a row of faults, each of which may be absent. A fault is of any type.
use Rattle.std.specs.Prelude.{ℕ, zero, suc, Option, Some, None, Result, Ok, Err}

-- the first of two
abbrev pub or_first : {F : Type 0} → Option F → Option F → Option F
or_first (Some e) later = Some e
or_first None later = later

-- the first of f 0, .., f (n - 1)
abbrev pub first_to : {F : Type 0} → ℕ → (ℕ → Option F) → Option F
first_to zero f = None
first_to (suc n) f = or_first (first_to n f) (f n)

-- the fault of a refusal; none of an answer
abbrev pub refusal_of : {A F : Type 0} → Result A F → Option F
refusal_of (Ok x) = None
refusal_of (Err e) = Some e
