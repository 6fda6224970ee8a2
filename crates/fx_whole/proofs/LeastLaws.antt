-- The laws of least numbers.
use Rattle.std.proofs.Common.{◌≡◌, ℕ, ◌+◌, ◌-◌, ◌*◌, ◌/◌, ◌%◌, ◌<◌, ◌≤◌, arith, div-add-mod', mod-lt, lt_of_mul-lt-mul_right}
use Rattle.fx_whole.specs.Least.{IsLeast, ceil_div}

pub ceil_div-least : (a b : ℕ) → 0 < b → IsLeast (λ q. a ≤ q * b) (ceil_div a b)
ceil_div-least a b h =
    let whole : (a + (b - 1)) / b * b + (a + (b - 1)) % b ≡ a + (b - 1) = div-add-mod' (a + (b - 1)) b in
    let rest : (a + (b - 1)) % b < b = mod-lt (a + (b - 1)) h in
    record { holds = omega arith; least = λ q p. (let below : ceil_div a b * b < (q + 1) * b = omega arith in let lt : ceil_div a b < q + 1 = lt_of_mul-lt-mul_right b below in omega arith) }

-- above the quotient by less than 1
pub ceil_div-past : (a b : ℕ) → 0 < b → ceil_div a b * b < a + b
ceil_div-past a b h =
    let whole : (a + (b - 1)) / b * b + (a + (b - 1)) % b ≡ a + (b - 1) = div-add-mod' (a + (b - 1)) b in
    omega arith
