-- The laws of the clamp, by bounds of which either may be missing.
use Rattle.std.proofs.Common.{◌≡◌, ℤ, pos, ◌+ℤ◌, ◌-ℤ◌, ◌*ℤ◌, ◌<ℤ◌, ◌≤ℤ◌, ◌⊎◌, Bool, true, false, cond, Option, Some, None, refl, arith, inl, inr}
use Rattle.std.specs.Prelude.{int_lt}
use Rattle.std.proofs.lemmas.Int.{ints}
use Rattle.mj_optimum.specs.Feasible.{IsAbove, IsBelow}
use Rattle.mj_optimum.specs.Sweep.{at_least, at_most, clamp, LiesBetween}
use Rattle.mj_optimum.proofs.Tests.{int_lt_true, int_lt_false}

-- ---- the clamp, from a force f within the bounds
above_one : (low f : ℤ) → IsAbove (Some low) f (pos 1) → low ≤ℤ f
above_one low f h = omega (arith, ints)

below_one : (high f : ℤ) → IsBelow (Some high) f (pos 1) → f ≤ℤ high
below_one high f h = omega (arith, ints)

at_least_grows : (low : Option ℤ) (x : ℤ) → x ≤ℤ at_least low x
at_least_grows None x = omega (arith, ints)
at_least_grows (Some low) x = pick (int_lt x low) refl
  where
    pick : (b : Bool) → int_lt x low ≡ b → x ≤ℤ cond b low x
    pick true e = let h : x <ℤ low = int_lt_true x low e in omega (arith, ints)
    pick false e = omega (arith, ints)

at_most_falls : (high : Option ℤ) (x : ℤ) → at_most high x ≤ℤ x
at_most_falls None x = omega (arith, ints)
at_most_falls (Some high) x = pick (int_lt high x) refl
  where
    pick : (b : Bool) → int_lt high x ≡ b → cond b high x ≤ℤ x
    pick true e = let h : high <ℤ x = int_lt_true high x e in omega (arith, ints)
    pick false e = omega (arith, ints)

at_least_stays : (low : Option ℤ) (f x : ℤ) → IsAbove low f (pos 1) → (at_least low x ≤ℤ x) ⊎ (at_least low x ≤ℤ f)
at_least_stays None f x h = inl (omega (arith, ints))
at_least_stays (Some low) f x h = pick (int_lt x low)
  where
    pick : (b : Bool) → (cond b low x ≤ℤ x) ⊎ (cond b low x ≤ℤ f)
    pick true = inr (above_one low f h)
    pick false = inl (omega (arith, ints))

at_most_stays : (high : Option ℤ) (f x : ℤ) → IsBelow high f (pos 1) → (x ≤ℤ at_most high x) ⊎ (f ≤ℤ at_most high x)
at_most_stays None f x h = inl (omega (arith, ints))
at_most_stays (Some high) f x h = pick (int_lt high x)
  where
    pick : (b : Bool) → (x ≤ℤ cond b high x) ⊎ (f ≤ℤ cond b high x)
    pick true = inr (below_one high f h)
    pick false = inl (omega (arith, ints))

at_least_above : (low : Option ℤ) (x : ℤ) → IsAbove low (at_least low x) (pos 1)
at_least_above None x = tt
at_least_above (Some low) x = pick (int_lt x low) refl
  where
    pick : (b : Bool) → int_lt x low ≡ b → (pos 1 *ℤ low) ≤ℤ cond b low x
    pick true e = omega (arith, ints)
    pick false e = let h : low ≤ℤ x = int_lt_false x low e in omega (arith, ints)

at_most_below : (high : Option ℤ) (x : ℤ) → IsBelow high (at_most high x) (pos 1)
at_most_below None x = tt
at_most_below (Some high) x = pick (int_lt high x) refl
  where
    pick : (b : Bool) → int_lt high x ≡ b → cond b high x ≤ℤ (pos 1 *ℤ high)
    pick true e = omega (arith, ints)
    pick false e = let h : x ≤ℤ high = int_lt_false high x e in omega (arith, ints)

is_above_grows : (low : Option ℤ) (x y : ℤ) → x ≤ℤ y → IsAbove low x (pos 1) → IsAbove low y (pos 1)
is_above_grows None x y h k = tt
is_above_grows (Some low) x y h k = omega (arith, ints)

pub clamp_above : (low high : Option ℤ) (f x : ℤ) → IsAbove low f (pos 1) → IsBelow high f (pos 1) → IsAbove low (clamp low high x) (pos 1)
clamp_above low high f x above below =
    elim (at_most_stays high f (at_least low x) below) [
      | inl h ↦ is_above_grows low (at_least low x) (clamp low high x) h (at_least_above low x)
      | inr h ↦ is_above_grows low f (clamp low high x) h above
    ]

pub clamp_below : (low high : Option ℤ) (x : ℤ) → IsBelow high (clamp low high x) (pos 1)
clamp_below low high x = at_most_below high (at_least low x)

-- the clamped step is between none and the whole step
pub clamp_between : (low high : Option ℤ) (f q : ℤ) → IsAbove low f (pos 1) → IsBelow high f (pos 1) → LiesBetween q (clamp low high (f +ℤ q) -ℤ f)
clamp_between low high f q above below =
    record {
      up = λ h. elim (at_least_stays low f (f +ℤ q) above) [
        | inl l ↦ up_whole f q (at_least low (f +ℤ q)) (clamp low high (f +ℤ q)) (at_most_falls high (at_least low (f +ℤ q))) l
        | inr l ↦ absurd (up_none f (at_least low (f +ℤ q)) (clamp low high (f +ℤ q)) (at_most_falls high (at_least low (f +ℤ q))) l h)
      ];
      down = λ h. elim (at_most_stays high f (at_least low (f +ℤ q)) below) [
        | inl l ↦ down_whole f q (at_least low (f +ℤ q)) (clamp low high (f +ℤ q)) (at_least_grows low (f +ℤ q)) l
        | inr l ↦ absurd (down_none f (clamp low high (f +ℤ q)) l h)
      ];
    }
  where
    up_whole : (f q y c : ℤ) → c ≤ℤ y → y ≤ℤ (f +ℤ q) → (c -ℤ f) ≤ℤ q
    up_whole f q y c h l = omega (arith, ints)

    up_none : (f y c : ℤ) → c ≤ℤ y → y ≤ℤ f → pos 0 <ℤ (c -ℤ f) → ⊥
    up_none f y c h l k = omega (arith, ints)

    down_whole : (f q y c : ℤ) → (f +ℤ q) ≤ℤ y → y ≤ℤ c → q ≤ℤ (c -ℤ f)
    down_whole f q y c h l = omega (arith, ints)

    down_none : (f c : ℤ) → f ≤ℤ c → (c -ℤ f) <ℤ pos 0 → ⊥
    down_none f c h k = omega (arith, ints)

-- ---- at a bound, and past it
pub at_least_low : (low x : ℤ) → x ≤ℤ low → at_least (Some low) x ≡ low
at_least_low low x h = pick (int_lt x low) refl
  where
    pick : (b : Bool) → int_lt x low ≡ b → cond b low x ≡ low
    pick true e = refl
    pick false e = let l : low ≤ℤ x = int_lt_false x low e in omega (arith, ints)

pub at_most_below_high : (high x : ℤ) → x ≤ℤ high → at_most (Some high) x ≡ x
at_most_below_high high x h = pick (int_lt high x) refl
  where
    pick : (b : Bool) → int_lt high x ≡ b → cond b high x ≡ x
    pick true e = let l : high <ℤ x = int_lt_true high x e in omega (arith, ints)
    pick false e = refl

-- a force that no high bound is below is not moved by it
pub at_most_rests : (high : Option ℤ) (x : ℤ) → IsBelow high x (pos 1) → at_most high x ≡ x
at_most_rests None x h = refl
at_most_rests (Some high) x h = at_most_below_high high x (below_one high x h)

-- ---- a bound of n / d, raised to the low bound or lowered to the high one
pub at_least_keeps : (low : Option ℤ) (x n d : ℤ) → IsAbove low n d → (d *ℤ x) ≤ℤ n → (d *ℤ at_least low x) ≤ℤ n
at_least_keeps None x n d h l = l
at_least_keeps (Some low) x n d h l = pick (int_lt x low)
  where
    pick : (b : Bool) → (d *ℤ cond b low x) ≤ℤ n
    pick true = h
    pick false = l

pub at_most_keeps : (high : Option ℤ) (x n d : ℤ) → IsBelow high n d → n ≤ℤ (d *ℤ x) → n ≤ℤ (d *ℤ at_most high x)
at_most_keeps None x n d h l = l
at_most_keeps (Some high) x n d h l = pick (int_lt high x)
  where
    pick : (b : Bool) → n ≤ℤ (d *ℤ cond b high x)
    pick true = h
    pick false = l
