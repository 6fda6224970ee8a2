-- A row's force is within one unit of its rational optimum: past a unit the row's parabola is above 0.
use Rattle.std.proofs.Common.{◌≡◌, ◌*◌, ◌^◌, ◌≤◌, ℤ, pos, ◌+ℤ◌, ◌-ℤ◌, ◌*ℤ◌, neg_ℤ, ◌<ℤ◌, ◌≤ℤ◌, unsigned_abs, Bool, true, false, cond, Option, Some, None, refl, sym, ap, subst, arith}
use Rattle.std.specs.Prelude.{int_lt}
use Rattle.std.proofs.lemmas.Int.{ints, by_lt_z}
use Rattle.fx_whole.specs.Nearest.{nearest}
use Rattle.fx_whole.proofs.NearestLaws.{nearest-is_nearest}
use lib.IntN.{*ℤ_comm}
use Rattle.fx_whole.proofs.Ring.{ring, mul_pos, mul_nonneg, mul_mono}
use Rattle.mj_optimum.specs.Feasible.{IsAbove, IsBelow}
use Rattle.mj_optimum.specs.Sweep.{at_least, at_most, clamp}
use Rattle.mj_optimum.proofs.Tests.{int_lt_true}
use Rattle.mj_inverse.specs.Rows.{row_cost, row_force}

-- ---- by how much the cost changes, s past x: c is 2^36
moved : (r w c n d x : ℤ) → (r *ℤ (n *ℤ n) -ℤ (c +ℤ c) *ℤ (w *ℤ (d *ℤ n))) -ℤ (d *ℤ d) *ℤ (r *ℤ (x *ℤ x) -ℤ (c +ℤ c) *ℤ (w *ℤ (pos 1 *ℤ x)))
    ≡ (n -ℤ d *ℤ x) *ℤ (r *ℤ (n -ℤ d *ℤ x) +ℤ pos 2 *ℤ (d *ℤ (r *ℤ x -ℤ w *ℤ c)))
moved r w c n d x = simp ring (omega (arith, ints))

turned : (r s d g : ℤ) → s *ℤ (r *ℤ s +ℤ pos 2 *ℤ (d *ℤ g)) ≡ neg_ℤ s *ℤ (r *ℤ neg_ℤ s +ℤ pos 2 *ℤ (d *ℤ neg_ℤ g))
turned r s d g = simp ring (omega (arith, ints))

-- no step past a unit is downhill, where the slope is at most half a width downhill
no_further : (r s d g : ℤ) → pos 0 <ℤ r → pos 0 <ℤ d → neg_ℤ r ≤ℤ (g +ℤ g) → (s *ℤ (r *ℤ s +ℤ pos 2 *ℤ (d *ℤ g))) ≤ℤ pos 0 → s ≤ℤ d
no_further r s d g hr hd slope low = by_lt_z d s (λ h. absurd (beyond h)) (λ h. h)
  where
    opened : (r s d g : ℤ) → r *ℤ s +ℤ pos 2 *ℤ (d *ℤ g) ≡ r *ℤ (s -ℤ d) +ℤ d *ℤ (g +ℤ g +ℤ r)
    opened r s d g = simp ring (omega (arith, ints))

    both : (x y : ℤ) → pos 0 <ℤ x → pos 0 ≤ℤ y → pos 0 <ℤ (x +ℤ y)
    both x y h k = omega (arith, ints)

    not_both : (x : ℤ) → pos 0 <ℤ x → x ≤ℤ pos 0 → ⊥
    not_both x h k = omega (arith, ints)

    beyond : d <ℤ s → ⊥
    beyond h =
        let grown : pos 0 <ℤ (r *ℤ (s -ℤ d)) = mul_pos r (s -ℤ d) hr (omega (arith, ints)) in
        let rest : pos 0 ≤ℤ (d *ℤ (g +ℤ g +ℤ r)) = mul_nonneg d (g +ℤ g +ℤ r) (omega (arith, ints)) (omega (arith, ints)) in
        let up : pos 0 <ℤ (r *ℤ s +ℤ pos 2 *ℤ (d *ℤ g)) = rw (opened r s d g) (both (r *ℤ (s -ℤ d)) (d *ℤ (g +ℤ g +ℤ r)) grown rest) in
        not_both (s *ℤ (r *ℤ s +ℤ pos 2 *ℤ (d *ℤ g))) (mul_pos s (r *ℤ s +ℤ pos 2 *ℤ (d *ℤ g)) (omega (arith, ints)) up) low

-- ---- where the clamp moves a number, it stands at a bound
clamped_down : (low high : Option ℤ) (q : ℤ) → clamp low high q <ℤ q → high ≡ Some (clamp low high q)
clamped_down low None q h = absurd (at_least_falls low q h)
  where
    at_least_falls : (low : Option ℤ) (q : ℤ) → at_least low q <ℤ q → ⊥
    at_least_falls None q h = omega (arith, ints)
    at_least_falls (Some l) q h = pick (int_lt q l) refl h
      where
        pick : (b : Bool) → int_lt q l ≡ b → cond b l q <ℤ q → ⊥
        pick true e h = (let p : q <ℤ l = int_lt_true q l e in omega (arith, ints))
        pick false e h = omega (arith, ints)
clamped_down low (Some u) q h = pick (int_lt u (at_least low q)) refl h
  where
    falls : (low : Option ℤ) (q : ℤ) → at_least low q <ℤ q → ⊥
    falls None q h = omega (arith, ints)
    falls (Some l) q h = pick (int_lt q l) refl h
      where
        pick : (b : Bool) → int_lt q l ≡ b → cond b l q <ℤ q → ⊥
        pick true e h = (let p : q <ℤ l = int_lt_true q l e in omega (arith, ints))
        pick false e h = omega (arith, ints)

    pick : (b : Bool) → int_lt u (at_least low q) ≡ b → cond b u (at_least low q) <ℤ q → Some u ≡ Some (cond b u (at_least low q))
    pick true e h = refl
    pick false e h = absurd (falls low q h)

clamped_up : (low high : Option ℤ) (q : ℤ) → IsAbove low (pos 0) (pos 1) → IsBelow high (pos 0) (pos 1) → q <ℤ clamp low high q → low ≡ Some (clamp low high q)
clamped_up low high q above below h = none high (at_least low q) refl below h
  where
    grown : (low : Option ℤ) (q y : ℤ) → y ≡ at_least low q → IsAbove low (pos 0) (pos 1) → q <ℤ y → (low ≡ Some y) × (y ≤ℤ pos 0)
    grown None q y e above h = absurd (omega (arith, ints))
    grown (Some l) q y e above h = pick (int_lt q l) e
      where
        pick : (b : Bool) → y ≡ cond b l q → (Some l ≡ Some y) × (y ≤ℤ pos 0)
        pick true e = (ap Some (sym e), omega (arith, ints))
        pick false e = absurd (omega (arith, ints))

    none : (high : Option ℤ) (y : ℤ) → y ≡ at_least low q → IsBelow high (pos 0) (pos 1) → q <ℤ at_most high y → low ≡ Some (at_most high y)
    none None y e below h = (grown low q y e above h).0
    none (Some u) y e below h = pick (int_lt u y) refl h
      where
        pick : (b : Bool) → int_lt u y ≡ b → q <ℤ cond b u y → low ≡ Some (cond b u y)
        pick true t h =
            let p : u <ℤ y = int_lt_true u y t in
            let g = grown low q y e above (omega (arith, ints)) in
            absurd (omega (arith, ints, g.1))
        pick false t h = (grown low q y e above h).0

-- ---- the row
module _ (low high : Option ℤ) (r w n d : ℤ) (hr : pos 0 <ℤ r) (above : IsAbove low (pos 0) (pos 1)) (below : IsBelow high (pos 0) (pos 1))
    (hd : pos 0 <ℤ d) (from_low : IsAbove low n d) (to_high : IsBelow high n d) where
  q : ℤ
  q = nearest (w *ℤ pos (2 ^ 36)) r

  close : (c : ℤ) → 2 * unsigned_abs (c -ℤ nearest c r *ℤ r) ≤ unsigned_abs r
  close c = (nearest-is_nearest c r hr).close

  at_most_there : (x y : ℤ) → high ≡ Some x → y ≡ n -ℤ d *ℤ x → y ≤ℤ d
  at_most_there x y e h = there high to_high e
    where
      there : (high : Option ℤ) → IsBelow high n d → high ≡ Some x → y ≤ℤ d
      there None k e = cc
      there (Some u) k e = (let s : u ≡ x = some_same e in let k' : n ≤ℤ (d *ℤ x) = subst (λ (v : ℤ). n ≤ℤ (d *ℤ v)) s k in omega (arith, ints))
        where
          some_same : Some u ≡ Some x → u ≡ x
          some_same e = cc

  at_least_there : (x y : ℤ) → low ≡ Some x → y ≡ n -ℤ d *ℤ x → neg_ℤ d ≤ℤ y
  at_least_there x y e h = there low from_low e
    where
      there : (low : Option ℤ) → IsAbove low n d → low ≡ Some x → neg_ℤ d ≤ℤ y
      there None k e = cc
      there (Some l) k e = (let s : l ≡ x = some_same e in let k' : (d *ℤ x) ≤ℤ n = subst (λ (v : ℤ). (d *ℤ v) ≤ℤ n) s k in omega (arith, ints))
        where
          some_same : Some l ≡ Some x → l ≡ x
          some_same e = cc

  -- the slope at x, of what is divided c
  slope_up : (c x : ℤ) → nearest c r ≤ℤ x → neg_ℤ r ≤ℤ ((r *ℤ x -ℤ c) +ℤ (r *ℤ x -ℤ c))
  slope_up c x h =
      sloped c (nearest c r *ℤ r) (r *ℤ x) (rw (*ℤ_comm r x) (mul_mono (nearest c r) x r (omega (arith, ints)) h)) (close c)
    where
      sloped : (c p y : ℤ) → p ≤ℤ y → 2 * unsigned_abs (c -ℤ p) ≤ unsigned_abs r → neg_ℤ r ≤ℤ ((y -ℤ c) +ℤ (y -ℤ c))
      sloped c p y h k = omega (arith, ints)

  slope_down : (c x : ℤ) → x ≤ℤ nearest c r → neg_ℤ r ≤ℤ (neg_ℤ (r *ℤ x -ℤ c) +ℤ neg_ℤ (r *ℤ x -ℤ c))
  slope_down c x h =
      sloped c (nearest c r *ℤ r) (r *ℤ x) (rw (*ℤ_comm r x) (mul_mono x (nearest c r) r (omega (arith, ints)) h)) (close c)
    where
      sloped : (c p y : ℤ) → y ≤ℤ p → 2 * unsigned_abs (c -ℤ p) ≤ unsigned_abs r → neg_ℤ r ≤ℤ (neg_ℤ (y -ℤ c) +ℤ neg_ℤ (y -ℤ c))
      sloped c p y h k = omega (arith, ints)

  pub row_is_best : row_cost r w n d ≤ℤ ((d *ℤ d) *ℤ row_cost r w (row_force low high r w) (pos 1))
      → unsigned_abs (n -ℤ d *ℤ row_force low high r w) ≤ unsigned_abs d
  row_is_best cheap =
      let x = row_force low high r w in
      let s = n -ℤ d *ℤ x in
      let c = w *ℤ pos (2 ^ 36) in
      let g = r *ℤ x -ℤ c in
      let down : (s *ℤ (r *ℤ s +ℤ pos 2 *ℤ (d *ℤ g))) ≤ℤ pos 0 = fallen (row_cost r w n d) ((d *ℤ d) *ℤ row_cost r w x (pos 1)) (s *ℤ (r *ℤ s +ℤ pos 2 *ℤ (d *ℤ g))) cheap (moved r w (pos (2 ^ 36)) n d x) in
      let most : s ≤ℤ d = by_lt_z x (nearest c r) (λ h. at_most_there x s (clamped_down low high (nearest c r) h) refl) (λ h. no_further r s d g hr hd (slope_up c x h) down) in
      let least : neg_ℤ d ≤ℤ s =
      by_lt_z (nearest c r) x (λ h. at_least_there x s (clamped_up low high (nearest c r) above below h) refl)
      (λ h. negated s (no_further r (neg_ℤ s) d (neg_ℤ g) hr hd (slope_down c x h) (subst (λ (v : ℤ). v ≤ℤ pos 0) (turned r s d g) down))) in
      within s most least
    where
      fallen : (a b t : ℤ) → a ≤ℤ b → a -ℤ b ≡ t → t ≤ℤ pos 0
      fallen a b t h e = omega (arith, ints)

      negated : (s : ℤ) → neg_ℤ s ≤ℤ d → neg_ℤ d ≤ℤ s
      negated s h = omega (arith, ints)

      within : (s : ℤ) → s ≤ℤ d → neg_ℤ d ≤ℤ s → unsigned_abs s ≤ unsigned_abs d
      within s h k = omega (arith, ints)
