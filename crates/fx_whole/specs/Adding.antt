-- Sums of anything that is added up: integers, naturals, vectors, inertias. The usual definitions.
use Rattle.std.specs.Prelude.{◌≡◌, ℕ, zero, suc, ◌+◌, ℤ, pos, ◌+ℤ◌, Bool, cond}

-- what is added up: the empty sum, and the sum of two
pub record Adding (A : Type 0) : Type 0 where
  pub empty : A
  pub plus : A → A → A

-- f 0 + .. + f (n - 1)
abbrev pub sum_in : {A : Type 0} → Adding A → ℕ → (ℕ → A) → A
sum_in m zero f = m.empty
sum_in m (suc n) f = m.plus (sum_in m n f) (f n)

-- x where b holds, and the empty sum elsewhere
abbrev pub when_in : {A : Type 0} → Adding A → Bool → A → A
when_in m b x = cond b x m.empty

-- the order and the grouping of the terms don't matter
pub record IsAdding {A : Type 0} (m : Adding A) : Type 0 where
  pub alone : (a : A) → m.plus a m.empty ≡ a
  pub swap : (a b : A) → m.plus a b ≡ m.plus b a
  pub group : (a b c : A) → m.plus (m.plus a b) c ≡ m.plus a (m.plus b c)

abbrev pub integers : Adding ℤ
integers = record { empty = pos 0; plus = λ a b. a +ℤ b }

abbrev pub naturals : Adding ℕ
naturals = record { empty = 0; plus = λ a b. a + b }
