-- What a good shift proves, and the ball that follows.
use Rattle.std.proofs.Common.{◌≡◌, ℕ, zero, suc, ◌+◌, ◌-◌, ◌*◌, ◌/◌, ◌^◌, ◌<◌, ◌≤◌, nat_le, Bool, ◌&&◌, ◌%◌, true, false, cond, ℤ, pos, ◌≤ℤ◌, Option, Some, None, option_map, refl, sym, subst, arith, div-add-mod', pow-add}
use Rattle.std.specs.Prelude.{int_le, IfSome}
use Rattle.std.proofs.lemmas.Bool.{leb-true}
use Rattle.std.proofs.lemmas.Int.{ints}
use Rattle.fx_whole.specs.First.{first_to}
use Rattle.fx_whole.specs.Least.{ceil_div}
use Rattle.fx_whole.proofs.FirstLaws.{or_both, first_none, first_some}
use Rattle.fx_whole.proofs.LeastLaws.{ceil_div-least}
use Rattle.mj_types.specs.Ranges.{is_between, unless}
use Rattle.mj_types.specs.declared.range.Quantity.{Quantity}
use Rattle.mj_types.specs.declared.range.Quantity.TheVariants as kind
use Rattle.mj_optimum.proofs.Tests.{int_le_true}
use Rattle.mj_factor.specs.Factors.{work, lower, pivot, pivot_fault, entry_fault, row_fault as factor_row_fault, factor_fault}
use Rattle.mj_factor.proofs.ReadLaws.{greatest-above}
use Rattle.mj_quadratic.specs.Balls.{Encloses}
use Rattle.mj_quadratic.specs.Forms.{row_size, IsSymmetric}
use Rattle.mj_quadratic.proofs.BallLaws.{form_at_least, ball_holds}
use Rattle.mj_ball.specs.Shifts.{too_large, error_at, largest_row, errors_fault, shifted, lower_at, least_part, unless_fault, at_least_one, low_at, missed, total_missed, ball_from, ball_at, greatest_ball, ball_of}
use Rattle.mj_types.specs.declared.wants.Ball.{Ball}

-- ---- options
pub no_fault : {F A : Type 0} → (f : Option F) (x : Option A) (y : A) → unless_fault f x ≡ Some y → (f ≡ None) × (x ≡ Some y)
no_fault None x y h = (refl, h)
no_fault (Some e) x y h = cc

some_low : (low y : ℕ) → at_least_one low ≡ Some y → (low ≡ y) × (1 ≤ low)
some_low low y h = pick (nat_le 1 low) refl h
  where
    same : Some low ≡ Some y → low ≡ y
    same e = cc

    pick : (b : Bool) → nat_le 1 low ≡ b → cond b (Some low) None ≡ Some y → (low ≡ y) × (1 ≤ low)
    pick true t e = (same e, leb-true 1 low t)
    pick false t e = cc

mapped : (k total : ℕ) (x : Option ℕ) (b : Ball) → option_map (ball_from k total) x ≡ Some b → (low : ℕ) × (x ≡ Some low) × (ball_from k total low ≡ b)
mapped k total None b h = cc
mapped k total (Some low) b h = (low, refl, cc)

-- ---- a pivot that isn't out of range isn't negative
unless_none : (b : Bool) (what : Quantity) (i : ℕ) → unless b what i ≡ None → b ≡ true
unless_none true what i h = refl
unless_none false what i h = cc

low_of_between : (x : ℤ) → is_between (pos (2 ^ 10)) (pos (2 ^ 60)) x ≡ true → pos (2 ^ 10) ≤ℤ x
low_of_between x h = int_le_true (pos (2 ^ 10)) x (and_left (int_le (pos (2 ^ 10)) x) (int_le x (pos (2 ^ 60))) h)
  where
    and_left : (a b : Bool) → (a && b) ≡ true → a ≡ true
    and_left true b e = refl
    and_left false b e = cc

pub pivots_least : (n : ℕ) (m : ℕ → ℕ → ℤ) → factor_fault n m ≡ None → (r : ℕ) → r < n → pos (2 ^ 10) ≤ℤ pivot n m r
pivots_least n m h r p =
    let s = n - 1 - r in
    let there : n - 1 - s ≡ r = omega arith in
    let at_s : factor_row_fault n m (n - 1 - s) ≡ None = (first_none n (λ s. factor_row_fault n m (n - 1 - s))).0 h s (omega arith) in
    let at_r : factor_row_fault n m r ≡ None = subst (λ (k : ℕ). factor_row_fault n m k ≡ None) there at_s in
    let pivot_none = (or_both (pivot_fault r (pivot n m r)) (first_to r (λ i. entry_fault r (work n m r i) (lower n m r i))) at_r).0 in
    low_of_between (pivot n m r) (unless_none (is_between (pos (2 ^ 10)) (pos (2 ^ 60)) (pivot n m r)) kind.Pivot (r + 1) pivot_none)

pub pivots_nonneg : (n : ℕ) (m : ℕ → ℕ → ℤ) → factor_fault n m ≡ None → (r : ℕ) → r < n → pos 0 ≤ℤ pivot n m r
pivots_nonneg n m h r p = from_least (2 ^ 10) (pivot n m r) (pivots_least n m h r p)
  where
    from_least : (n : ℕ) (x : ℤ) → pos n ≤ℤ x → pos 0 ≤ℤ x
    from_least n x h = omega (arith, ints)

-- ---- the least part
part_step : (whole g w low : ℕ) → 0 < w → (whole - g) / w ≡ low → 1 ≤ low → low * w + g ≤ whole
part_step whole g w low some e h =
    let q : (whole - g) / w * w + (whole - g) % w ≡ whole - g = div-add-mod' (whole - g) w in
    let q' : low * w + (whole - g) % w ≡ whole - g = subst (λ (x : ℕ). x * w + (whole - g) % w ≡ whole - g) e q in
    let least : w ≤ low * w = at_least_once low w h in
    omega (arith, q', least, some)
  where
    at_least_once : (low w : ℕ) → 1 ≤ low → w ≤ low * w
    at_least_once zero w h = absurd (omega arith)
    at_least_once (suc low) w h = omega arith

part_enough : (k g low : ℕ) → least_part k g ≡ low → 1 ≤ low → low * 2 ^ 64 + g ≤ 2 ^ k * 2 ^ 64
part_enough k g low e h = rw (← pow-add 2 k 64) (part_step (2 ^ (k + 64)) g (2 ^ 64) low (omega arith) e h)

-- ---- the ball
module _ (n : ℕ) (m : ℕ → ℕ → ℤ) (same : IsSymmetric n m) (a s : ℕ → ℤ) where
  good_encloses : (k low : ℕ) → low_at n m k ≡ Some low → Encloses n m a s (pos (2 ^ 40)) (pos (ceil_div (total_missed n m a s) low))
  unfolding low_at
  good_encloses k low h =
      let x = shifted k m in
      let d = pivot n x in
      let l = lower_at n k m in
      let g = largest_row n x d l in
      let first = no_fault (factor_fault n x) (unless_fault (errors_fault n x d l) (at_least_one (least_part k g))) low h in
      let second = no_fault (errors_fault n x d l) (at_least_one (least_part k g)) low first.1 in
      let third = some_low (least_part k g) low second.1 in
      ball_holds n m a s (pos (2 ^ 40)) low (ceil_div (total_missed n m a s) low) (omega (arith, third.0, third.1))
      (form_at_least n m same (2 ^ k) (2 ^ 64) g low d l (pivots_nonneg n x first.0) (λ i p. greatest-above n (row_size n (error_at n x d l)) i p) (omega arith)
      (part_enough k g low third.0 (omega (arith, third.0, third.1))))
      (ceil_div-least (total_missed n m a s) low (omega (arith, third.0, third.1))).holds

  pub ball_encloses : (b : Ball) → ball_of n m a s ≡ Some b → Encloses n m a s (pos (2 ^ 40)) b.radius
  ball_encloses b h =
      let total = total_missed n m a s in
      let first = no_fault (first_to n (λ i. too_large (missed n m a s i))) (greatest_ball n m total) b h in
      let found = first_some 51 (λ t. ball_at n m total (50 - t)) b first.1 in
      let here = mapped (50 - found.0) total (low_at n m (50 - found.0)) b found.2 in
      subst (λ (y : Ball). Encloses n m a s (pos (2 ^ 40)) y.radius) here.2 (good_encloses (50 - found.0) here.0 here.1)

  pub ball_if_some : (o : Option Ball) → o ≡ ball_of n m a s → IfSome o (λ b. Encloses n m a s (pos (2 ^ 40)) b.radius)
  ball_if_some None e = tt
  ball_if_some (Some b) e = ball_encloses b (sym e)
