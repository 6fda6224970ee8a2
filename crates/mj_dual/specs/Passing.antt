-- Which of the places that pass a test comes after k others. The usual definition.
use Rattle.std.specs.Prelude.{ℕ, zero, suc, Bool, ◌&&◌, ◌==◌, cond}
use Rattle.fx_whole.specs.Counting.{count_to}

-- among the places below n; 0 where there is none
unfoldable pub passing : ℕ → (ℕ → Bool) → ℕ → ℕ
passing zero p k = 0
passing (suc n) p k = cond (p n && count_to n p == k) n (passing n p k)
