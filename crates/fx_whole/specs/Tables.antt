-- Tables filled one place after another, each place from those that were filled before it.
use Rattle.std.specs.Prelude.{◌≡◌, ℕ, zero, suc, ◌-◌, ◌<◌, ◌==◌, nat_lt, cond, ℤ}
use Rattle.fx_whole.specs.Sums.{sum_to, when}

-- ---- from 0 upwards: `base` at 0, and at each i + 1 what `next i` makes of the places up to i
unfoldable pub made : {A : Type 0} → A → (ℕ → (ℕ → A) → A) → ℕ → ℕ → A
made base next zero k = base
made base next (suc n) k = cond (k == suc n) (next n (made base next n)) (made base next n k)

-- the place k of that table
unfoldable pub value : {A : Type 0} → A → (ℕ → (ℕ → A) → A) → ℕ → A
value base next k = made base next k k

-- ---- from n - 1 downwards: at each k below n what `step` makes of the later places;
-- `none` elsewhere
-- after s places: those from n - s on
unfoldable pub filled_down : {A : Type 0} → ℕ → A → ((ℕ → A) → ℕ → A) → ℕ → ℕ → A
filled_down n none step zero k = none
filled_down n none step (suc s) k =
    cond (k == n - 1 - s) (step (filled_down n none step s) k) (filled_down n none step s k)

unfoldable pub down : {A : Type 0} → ℕ → A → ((ℕ → A) → ℕ → A) → ℕ → A
down n none step k = filled_down n none step n k

-- `step` at k reads the places between k and n alone
abbrev pub LooksLater : {A : Type 0} → ℕ → ((ℕ → A) → ℕ → A) → Type 0
LooksLater {A = A} n step =
    (f g : ℕ → A) (k : ℕ) → k < n → ((l : ℕ) → k < l → l < n → f l ≡ g l) → step f k ≡ step g k

-- f (k + 1) + .. + f (n - 1)
abbrev pub sum_after : ℕ → ℕ → (ℕ → ℤ) → ℤ
sum_after k n f = sum_to n (λ l. when (nat_lt k l) (f l))
