-- Lists joined over an index.
use Rattle.std.specs.Prelude.{ℕ, zero, suc, List, [], ◌++◌}

-- f 0 ++ .. ++ f (n - 1)
unfoldable pub joined : {A : Type 0} → ℕ → (ℕ → List A) → List A
joined zero f = []
joined (suc n) f = joined n f ++ f n
