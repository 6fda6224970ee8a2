-- What reading a table gives: a value, or the first fault. A fault's path is relative to the table
-- that is read; the table around it puts the place before it.
use Rattle.std.specs.Prelude.{◌≡◌, ℕ, ◌++◌, List, [], ◌∷◌, codes, decimal, Result, Ok, Err}
use Rattle.mj_types.specs.declared.status.ModelFault.{ModelFault}
use Rattle.mj_types.specs.declared.status.ModelCode.{ModelCode}
use Rattle.mj_form.specs.declared.refusal.Refusal.{Refusal}
use Rattle.mj_form.specs.declared.refusal.Refusal.TheVariants.{Memory, Found}

-- a value, or the first fault
abbrev pub Read : Type 0 → Type 0
Read A = Result A ModelFault

infixl 10 ◌>>=◌
abbrev pub ◌>>=◌ : {A B E : Type 0} → Result A E → (A → Result B E) → Result B E
◌>>=◌ (Ok x) f = f x
◌>>=◌ (Err fault) f = Err fault

infixl 10 ◌>>◌
abbrev pub ◌>>◌ : {A B E : Type 0} → Result A E → Result B E → Result B E
a >> b = a >>= (λ _. b)

-- a fault at a path
abbrev pub refused : {A : Type 0} → ModelCode → List ℕ → Read A
refused code path = Err (record { code = code; path = path })

-- what is wrong with a key's value, at that key
abbrev pub at_key : {A : Type 0} → List ℕ → Result A ModelCode → Read A
at_key key (Ok x) = Ok x
at_key key (Err code) = refused code key

-- what is wrong inside a place, as `body[2].` and the path from there
abbrev pub under : {A : Type 0} → List ℕ → Read A → Read A
under place (Ok x) = Ok x
under place (Err fault) = refused fault.code (place ++ fault.path)

-- the place of an item of an array, from 1, as `body[2]`
abbrev pub place : List ℕ → ℕ → List ℕ
place key n = key ++ codes "[" ++ decimal n ++ codes "]"

-- memory was wanted, or the reading is refused so
abbrev pub Refuses : {A E : Type 0} → Refusal E → Result A E → Type 0
Refuses Memory reading = Unit {0}
Refuses (Found fault) reading = reading ≡ Err fault

-- the answer is the reading's, but for want of memory
abbrev pub Reads : {A E : Type 0} → Result A (Refusal E) → Result A E → Type 0
Reads (Ok x) reading = reading ≡ Ok x
Reads (Err refusal) reading = Refuses refusal reading
