-- The judgement of a text in its order: line by line, each of which is found or rejected, until the first rejection.
use Rattle.std.specs.Prelude.{◌≡◌, ◌⊎◌, ℕ, zero, suc, List, ◌++◌, Result, Ok, Err}
use Rattle.mj_types.specs.declared.verdict.Reason.{Reason}
use Rattle.mj_types.specs.declared.verdict.Reason.TheVariants as reason
use Rattle.mj_check.specs.declared.rejection.Rejection.{Rejection}

-- a line is rejected for a reason
abbrev pub at_line : ℕ → Reason → Rejection
at_line line why = record { line = line; reason = why }

-- no text of a line that is in form begins the rest
abbrev pub NoLine : {A : Type 0} → (A → Type 0) → (A → List ℕ) → List ℕ → Type 0
NoLine {A = A} InForm text rest = (x : A) (behind : List ℕ) → InForm x → rest ≡ text x ++ behind → ⊥

-- a line is found in form, with what it tells and what is behind it; or it is rejected, where there is no such line
abbrev pub Line : {A : Type 0} → (A → Type 0) → (A → List ℕ) → ℕ → List ℕ → Result (A × List ℕ) Rejection → Type 0
Line InForm text line rest (Ok found) = InForm found.0 × (rest ≡ text found.0 ++ found.1)
Line InForm text line rest (Err e) = NoLine InForm text rest × (e ≡ at_line line reason.Form)

-- the same of a line of which nothing is kept but what is behind it
abbrev pub Passes : {A : Type 0} → (A → Type 0) → (A → List ℕ) → ℕ → List ℕ → Result (List ℕ) Rejection → Type 0
Passes {A = A} InForm text line rest (Ok behind) = (x : A) × InForm x × (rest ≡ text x ++ behind)
Passes InForm text line rest (Err e) = NoLine InForm text rest × (e ≡ at_line line reason.Form)

-- what was found is kept where it is within its limits, and else rejected
abbrev pub Limited : {A : Type 0} → (A → Type 0) → ℕ → A × List ℕ → Result (A × List ℕ) Rejection → Type 0
Limited Within line found result =
    (Within found.0 × (result ≡ Ok found)) ⊎ ((Within found.0 → ⊥) × (result ≡ Err (at_line line reason.Limit)))

-- one judgement and then another, which goes on with what the first found
abbrev pub Then : {A B : Type 0} → (Result A Rejection → Type 0) → (A → Result B Rejection → Type 0)
    → Result B Rejection → Type 0
Then {A = A} First Next result =
    ((a : A) × First (Ok a) × Next a result) ⊎ ((e : Rejection) × First (Err e) × (result ≡ Err e))

-- so many of them, from 0
abbrev pub Each : {S : Type 0} → (ℕ → S → Result S Rejection → Type 0) → ℕ → S → Result S Rejection → Type 0
Each One zero from result = result ≡ Ok from
Each One (suc n) from result = Then (Each One n from) (One n) result

-- what was found, told otherwise
abbrev pub found_as : {A B : Type 0} → (A → B) → Result A Rejection → Result B Rejection
found_as f (Ok x) = Ok (f x)
found_as f (Err e) = Err e
