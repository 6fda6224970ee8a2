-- Writing through a page, which gathers bytes until it is full or flushed.
use Rattle.std.specs.Prelude.{◌≡◌, ◌≤◌, ℕ, Bool, true, false, List, [], ◌++◌, Option, Result, OnOk, OnErr}
use Rattle.mj_io.specs.Faults.{Rose}
use Rattle.mj_io.specs.Growth.{Grew, GrewPart}

-- how many bytes a page holds
abbrev pub page_size : ℕ
page_size = 65536

-- what a page holds that isn't written yet, and whether the writing goes on
pub record Gathered : Type 0 where
  pub pending : List ℕ
  pub going : Bool

-- a page with nothing in it, in a writing that goes on or doesn't
abbrev pub empty_page : Bool → Gathered
empty_page on = record { pending = []; going = on }

-- a page to begin with
abbrev pub fresh_page : Gathered
fresh_page = empty_page true

-- `text` was sent to the sink `old` through the page `from`: the sink grew by a prefix of what was
-- pending and the text, and the rest is pending as long as the writing goes on. It stops at a
-- fault, and nothing is written after; as long as it goes on, no fault was counted
pub record Sent {K : Type 0} (holds : K → Option (List ℕ)) (faults : K → ℕ) (old : K) (from : Gathered) (text : List ℕ) (new : K) (to : Gathered) : Type 0 where
  pub prefix : List ℕ
  pub rest : List ℕ
  pub parts : from.pending ++ text ≡ prefix ++ rest
  pub grew : Grew (holds old) prefix (holds new)
  pub waits : to.going ≡ true → to.pending ≡ rest
  pub stopped : from.going ≡ false → (to.going ≡ false) × (holds new ≡ holds old)
  pub later : faults old ≤ faults new
  pub calm : to.going ≡ true → faults new ≡ faults old
  pub cause : from.going ≡ true → to.going ≡ false → Rose (faults old) (faults new)

-- a whole text was written and the count stayed, or a prefix of it and the count rose
pub record Wrote {K T E : Type 0} (holds : K → Option (List ℕ)) (faults : K → ℕ) (old : K) (text : List ℕ) (result : Result T E) (new : K) : Type 0 where
  pub whole : OnOk result (Grew (holds old) text (holds new))
  pub part : OnErr result (GrewPart (holds old) text (holds new))
  pub cause : OnErr result (Rose (faults old) (faults new))
  pub calm : OnOk result (faults new ≡ faults old)
  pub later : faults old ≤ faults new
