-- Sums over an index, and terms under a condition. The usual definitions.
use Rattle.std.specs.Prelude.{ℕ, zero, suc, ◌+◌, ℤ, pos, ◌+ℤ◌, Bool, cond}

-- f 0 + .. + f (n - 1)
abbrev pub sum_to : ℕ → (ℕ → ℤ) → ℤ
sum_to zero f = pos 0
sum_to (suc n) f = sum_to n f +ℤ f n

-- the same of naturals
abbrev pub sum_ℕ_to : ℕ → (ℕ → ℕ) → ℕ
sum_ℕ_to zero f = 0
sum_ℕ_to (suc n) f = sum_ℕ_to n f + f n

-- x where b holds, and 0 elsewhere
abbrev pub when : Bool → ℤ → ℤ
when b x = cond b x (pos 0)
