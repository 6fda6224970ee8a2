-- Answers that want of memory may stand in place of.
use Rattle.std.specs.Prelude.{◌≡◌, ◌⊎◌, Result, Err}

-- memory was wanted and not found, which this fault tells, or this is the answer
abbrev pub OrMemory : {T E : Type 0} → E → Result T E → Result T E → Type 0
OrMemory memory result answer = (result ≡ Err memory) ⊎ (result ≡ answer)
