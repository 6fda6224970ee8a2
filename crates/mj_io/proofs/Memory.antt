-- An answer that is no want of memory is the one that is told.
use Rattle.std.proofs.Common.{◌≡◌, inl, inr, Result, Ok, Err, sym}
use Rattle.mj_io.specs.Memory.{OrMemory}

pub or_memory-ok : {T E : Type 0} (memory : E) (value : T) (answer : Result T E) → OrMemory memory (Ok value) answer → answer ≡ Ok value
or_memory-ok memory value answer (inl wanted) = cc
or_memory-ok memory value answer (inr same) = sym same

pub or_memory-err : {T E : Type 0} (memory fault : E) (answer : Result T E) → (fault ≡ memory → ⊥) → OrMemory memory (Err fault) answer → answer ≡ Err fault
or_memory-err memory fault answer other (inl wanted) = absurd (other (let same : fault ≡ memory = cc in same))
or_memory-err memory fault answer other (inr same) = sym same
