-- A list as a function of an index.
use Rattle.std.specs.Prelude.{ℕ, cond, nat_lt}

-- f below n, and `none` elsewhere: what a list of n entries holds
abbrev pub below : {A : Type 0} → A → ℕ → (ℕ → A) → ℕ → A
below none n f k = cond (nat_lt k n) (f k) none
