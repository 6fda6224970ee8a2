-- The walk of an array of tables: each in turn, what is wrong inside at its place.
use Rattle.std.specs.Prelude.{ℕ, suc, ◌+◌, ◌++◌, List, [], ◌∷◌, codes, Ok}
use Rattle.mj_form.specs.Reading.{Read, ◌>>=◌, under, place}

-- what is judged of item i, from 0
abbrev pub item : {A : Type 0} → List ℕ → ℕ → Read A → Read A
item key i reading = under (place key (i + 1) ++ codes ".") reading

-- each item, from number i
abbrev pub each : {A B : Type 0} → (ℕ → A → Read B) → ℕ → List A → Read (List B)
each f i [] = Ok []
each f i (x ∷ xs) = do
  y ← f i x
  ys ← each f (suc i) xs
  Ok (y ∷ ys)
