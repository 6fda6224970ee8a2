-- A list that was changed place by place, and a job that was run.
use Rattle.std.specs.Prelude.{◌≡◌, ◌<◌, ℕ, List, length, slice_index_or}

-- as many items, each related to the one that stood in its place
pub record InPlace {A : Type 0} (R : A → A → Type 0) (old new : List A) : Type 0 where
  pub many : length new ≡ length old
  pub each : (k : ℕ) (d : A) → k < length old → R (slice_index_or old k d) (slice_index_or new k d)

-- a job is as after its run, and keeps its number
pub record Ran {J : Type 0} (ran : J → J → Type 0) (number_of : J → ℕ) (old new : J) : Type 0 where
  pub left : ran old new
  pub kept : number_of new ≡ number_of old
