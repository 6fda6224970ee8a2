-- A list within a room: what it holds, and how many items it may hold at most.
use Rattle.std.specs.Prelude.{ℕ, List}

pub record Held (A : Type 0) : Type 0 where
  pub list : List A
  pub most : ℕ
