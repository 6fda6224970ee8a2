-- What the bounds of a dual's rows give.
use Rattle.std.proofs.Common.{◌≡◌, ℕ, ◌^◌, ◌<◌, Bool, true, false, ◌&&◌, ℤ, pos, ◌*ℤ◌, ◌≤ℤ◌, unsigned_abs, IsTrue, Option, Some, None, refl, arith, rules}
use Rattle.std.specs.Prelude.{int_le, nat_le}
use Rattle.std.proofs.lemmas.Int.{ints}
use Rattle.mj_optimum.specs.Feasible.{IsAbove, IsBelow}
use Rattle.mj_types.specs.Duals.{is_low, is_high}

first_of : (a b : Bool) → IsTrue (a && b) → IsTrue a
first_of true b h = search rules
first_of false b h = absurd (search rules)

low_size : (x : ℤ) → IsTrue (is_low (Some x)) → x ≤ℤ pos 0
low_size x h = let l : IsTrue (int_le x (pos 0)) = first_of (int_le x (pos 0)) (nat_le (unsigned_abs x) (2 ^ 50)) h in search (rules, l)

high_size : (y : ℤ) → IsTrue (is_high (Some y)) → pos 0 ≤ℤ y
high_size y h = let l : IsTrue (int_le (pos 0) y) = first_of (int_le (pos 0) y) (nat_le (unsigned_abs y) (2 ^ 50)) h in search (rules, l)

-- a low bound is below each high one
pub low_below_high : (x : ℤ) (high : Option ℤ) → IsTrue (is_low (Some x)) → IsTrue (is_high high) → IsBelow high x (pos 1)
low_below_high x None l h = tt
low_below_high x (Some y) l h =
    let a : x ≤ℤ pos 0 = low_size x l in
    let b : pos 0 ≤ℤ y = high_size y h in
    omega (arith, ints)

-- 0 is within a row's bounds
pub zero_above : (low : Option ℤ) → IsTrue (is_low low) → IsAbove low (pos 0) (pos 1)
zero_above None h = tt
zero_above (Some x) h = let l : x ≤ℤ pos 0 = low_size x h in omega (arith, ints)

pub zero_below : (high : Option ℤ) → IsTrue (is_high high) → IsBelow high (pos 0) (pos 1)
zero_below None h = tt
zero_below (Some y) h = let l : pos 0 ≤ℤ y = high_size y h in omega (arith, ints)
