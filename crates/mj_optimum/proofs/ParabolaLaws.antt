-- The laws of one row's parabola: how far it falls within the row's bounds, and that it rises past its vertex.
use Rattle.std.proofs.Common.{◌≡◌, ℕ, ◌*◌, ◌<◌, ◌≤◌, ℤ, pos, ◌+ℤ◌, ◌-ℤ◌, ◌*ℤ◌, neg_ℤ, ◌<ℤ◌, ◌≤ℤ◌, unsigned_abs, Bool, true, false, cond, Option, Some, None, refl, sym, ap, ◌∙◌, subst, arith}
use Rattle.std.specs.Prelude.{int_le}
use Rattle.std.proofs.lemmas.Int.{ints, by_lt_z}
use lib.IntN.{*ℤ_comm}
use Rattle.fx_whole.specs.Least.{ceil_div}
use Rattle.fx_whole.proofs.LeastLaws.{ceil_div-least}
use Rattle.fx_whole.proofs.Ring.{ring, mul_nonneg, mul_pos, mul_mono, square_nonneg, nonneg_of_mul, *ℤ_distrib_left, *ℤ-neg_ℤ}
use Rattle.mj_optimum.specs.Feasible.{IsAbove, IsBelow}
use Rattle.mj_optimum.specs.Enclosure.{parabola}
use Rattle.mj_optimum.specs.Shortfall.{room_below, room_above, room, depth, fall}
use Rattle.mj_optimum.specs.Box.{HasRisen}
use Rattle.mj_optimum.proofs.Tests.{int_le_true, int_le_false}

-- ---- ring steps
bound_ring : (a r t v d : ℤ) → parabola a r (v -ℤ d *ℤ t) d +ℤ (d *ℤ d) *ℤ (t *ℤ (pos 2 *ℤ a -ℤ r *ℤ t)) ≡ pos 2 *ℤ (d *ℤ (v *ℤ (a -ℤ r *ℤ t))) +ℤ r *ℤ (v *ℤ v)
bound_ring a r t v d = simp ring (omega (arith, ints))

vertex_ring : (a r s q d : ℤ) → (parabola a r s d +ℤ (d *ℤ d) *ℤ (a *ℤ q)) *ℤ r ≡ (r *ℤ s +ℤ d *ℤ a) *ℤ (r *ℤ s +ℤ d *ℤ a) +ℤ (d *ℤ d) *ℤ (a *ℤ (q *ℤ r -ℤ a))
vertex_ring a r s q d = simp ring (omega (arith, ints))

past_ring : (g r k v d : ℤ) → parabola g r (v +ℤ d *ℤ k) d ≡ (d *ℤ d) *ℤ (k *ℤ (pos 2 *ℤ g +ℤ r *ℤ k)) +ℤ pos 2 *ℤ (d *ℤ (v *ℤ (r *ℤ k +ℤ g))) +ℤ r *ℤ (v *ℤ v)
past_ring g r k v d = simp ring (omega (arith, ints))

-- a parabola of the opposite slope, seen the other way
pub parabola_turned : (g r s d : ℤ) → parabola (neg_ℤ g) r (neg_ℤ s) d ≡ parabola g r s d
parabola_turned g r s d = simp ring (omega (arith, ints))

-- ---- how far it falls
-- where it meets a bound before its vertex: s is v past the bound
at_bound : (a r t v d : ℤ) → pos 0 <ℤ r → pos 0 <ℤ d → (r *ℤ t) ≤ℤ a → pos 0 ≤ℤ v → pos 0 ≤ℤ (parabola a r (v -ℤ d *ℤ t) d +ℤ (d *ℤ d) *ℤ (t *ℤ (pos 2 *ℤ a -ℤ r *ℤ t)))
at_bound a r t v d hr hd l hv =
    let p : pos 0 ≤ℤ (v *ℤ (a -ℤ r *ℤ t)) = mul_nonneg v (a -ℤ r *ℤ t) hv (omega (arith, ints)) in
    let q : pos 0 ≤ℤ (d *ℤ (v *ℤ (a -ℤ r *ℤ t))) = mul_nonneg d (v *ℤ (a -ℤ r *ℤ t)) (omega (arith, ints)) p in
    let w : pos 0 ≤ℤ (r *ℤ (v *ℤ v)) = mul_nonneg r (v *ℤ v) (omega (arith, ints)) (square_nonneg v) in
    rw (bound_ring a r t v d) (both (d *ℤ (v *ℤ (a -ℤ r *ℤ t))) (r *ℤ (v *ℤ v)) q w)
  where
    both : (x y : ℤ) → pos 0 ≤ℤ x → pos 0 ≤ℤ y → pos 0 ≤ℤ (pos 2 *ℤ x +ℤ y)
    both x y h k = omega (arith, ints)

-- and anywhere
at_vertex : (a r s q d : ℤ) → pos 0 ≤ℤ a → pos 0 <ℤ r → a ≤ℤ (q *ℤ r) → pos 0 ≤ℤ (parabola a r s d +ℤ (d *ℤ d) *ℤ (a *ℤ q))
at_vertex a r s q d ha hr l =
    let x : ℤ = r *ℤ s +ℤ d *ℤ a in
    let p : pos 0 ≤ℤ (a *ℤ (q *ℤ r -ℤ a)) = mul_nonneg a (q *ℤ r -ℤ a) ha (omega (arith, ints)) in
    let w : pos 0 ≤ℤ ((d *ℤ d) *ℤ (a *ℤ (q *ℤ r -ℤ a))) = mul_nonneg (d *ℤ d) (a *ℤ (q *ℤ r -ℤ a)) (square_nonneg d) p in
    nonneg_of_mul (parabola a r s d +ℤ (d *ℤ d) *ℤ (a *ℤ q)) r hr (rw (vertex_ring a r s q d) (both (x *ℤ x) ((d *ℤ d) *ℤ (a *ℤ (q *ℤ r -ℤ a))) (square_nonneg x) w))
  where
    both : (x y : ℤ) → pos 0 ≤ℤ x → pos 0 ≤ℤ y → pos 0 ≤ℤ (x +ℤ y)
    both x y h k = omega (arith, ints)

deep_enough : (a : ℕ) (r s d : ℤ) → pos 0 <ℤ r → pos 0 ≤ℤ (parabola (pos a) r s d +ℤ (d *ℤ d) *ℤ depth a (unsigned_abs r))
deep_enough a r s d hr =
    let some : 0 < unsigned_abs r = omega (arith, ints) in
    let past : a ≤ ceil_div a (unsigned_abs r) * unsigned_abs r = (ceil_div-least a (unsigned_abs r) some).holds in
    let size : pos (unsigned_abs r) ≡ r = omega (arith, ints) in
    at_vertex (pos a) r s (pos (ceil_div a (unsigned_abs r))) d (omega (arith, ints)) hr (subst (λ (x : ℤ). pos a ≤ℤ (pos (ceil_div a (unsigned_abs r)) *ℤ x)) size (lifted a (ceil_div a (unsigned_abs r)) (unsigned_abs r) past))
  where
    lifted : (a q k : ℕ) → a ≤ q * k → pos a ≤ℤ (pos q *ℤ pos k)
    lifted a q k h = omega (arith, ints)

-- the step s / d goes no further downhill than the room
abbrev pub KeepsRoom : Option ℤ → ℤ → ℤ → Type 0
KeepsRoom None s d = Unit {0}
KeepsRoom (Some t) s d = pos 0 ≤ℤ (s +ℤ d *ℤ t)

pub fall_covers : (a : ℕ) (r s d : ℤ) (t : Option ℤ) → pos 0 <ℤ r → pos 0 <ℤ d → KeepsRoom t s d → pos 0 ≤ℤ (parabola (pos a) r s d +ℤ (d *ℤ d) *ℤ fall a r t)
fall_covers a r s d None hr hd k = deep_enough a r s d hr
fall_covers a r s d (Some t) hr hd k = pick (int_le (r *ℤ t) (pos a)) refl
  where
    step : s ≡ (s +ℤ d *ℤ t) -ℤ d *ℤ t
    step = omega (arith, ints)

    pick : (b : Bool) → int_le (r *ℤ t) (pos a) ≡ b → pos 0 ≤ℤ (parabola (pos a) r s d +ℤ (d *ℤ d) *ℤ cond b (t *ℤ (pos 2 *ℤ pos a -ℤ r *ℤ t)) (depth a (unsigned_abs r)))
    pick true e =
        subst (λ (x : ℤ). pos 0 ≤ℤ (parabola (pos a) r x d +ℤ (d *ℤ d) *ℤ (t *ℤ (pos 2 *ℤ pos a -ℤ r *ℤ t)))) (sym step)
        (at_bound (pos a) r t (s +ℤ d *ℤ t) d hr hd (int_le_true (r *ℤ t) (pos a) e) k)
    pick false e = deep_enough a r s d hr

room_kept_below : (low : Option ℤ) (f n d : ℤ) → IsAbove low n d → KeepsRoom (room_below low f) (n -ℤ d *ℤ f) d
room_kept_below None f n d h = tt
room_kept_below (Some low) f n d h = omega (arith, ints, *ℤ_distrib_left d f (neg_ℤ low), *ℤ-neg_ℤ d low)

room_kept_above : (high : Option ℤ) (f n d : ℤ) → IsBelow high n d → KeepsRoom (room_above high f) (neg_ℤ (n -ℤ d *ℤ f)) d
room_kept_above None f n d h = tt
room_kept_above (Some high) f n d h = omega (arith, ints, *ℤ_distrib_left d high (neg_ℤ f), *ℤ-neg_ℤ d f)

-- a force n / d within the bounds is no lower on the parabola at f than its fall, whether or not f is within them
pub row_covers : (low high : Option ℤ) (f g r n d : ℤ) → pos 0 <ℤ r → pos 0 <ℤ d → IsAbove low n d → IsBelow high n d
    → pos 0 ≤ℤ (parabola g r (n -ℤ d *ℤ f) d +ℤ (d *ℤ d) *ℤ fall (unsigned_abs g) r (room low high f g))
row_covers low high f g r n d hr hd above below = pick (int_le (pos 0) g) refl
  where
    s : ℤ
    s = n -ℤ d *ℤ f

    up : pos 0 ≤ℤ g → pos (unsigned_abs g) ≡ g
    up h = omega (arith, ints)

    down : g <ℤ pos 0 → pos (unsigned_abs g) ≡ neg_ℤ g
    down h = omega (arith, ints)

    pick : (b : Bool) → int_le (pos 0) g ≡ b → pos 0 ≤ℤ (parabola g r (n -ℤ d *ℤ f) d +ℤ (d *ℤ d) *ℤ fall (unsigned_abs g) r (cond b (room_below low f) (room_above high f)))
    pick true e =
        subst (λ (x : ℤ). pos 0 ≤ℤ (parabola x r (n -ℤ d *ℤ f) d +ℤ (d *ℤ d) *ℤ fall (unsigned_abs g) r (room_below low f))) (up (int_le_true (pos 0) g e))
        (fall_covers (unsigned_abs g) r (n -ℤ d *ℤ f) d (room_below low f) hr hd (room_kept_below low f n d above))
    pick false e =
        subst (λ (x : ℤ). pos 0 ≤ℤ (x +ℤ (d *ℤ d) *ℤ fall (unsigned_abs g) r (room_above high f)))
        (ap (λ x. parabola x r (neg_ℤ (n -ℤ d *ℤ f)) d) (down (int_le_false (pos 0) g e)) ∙ parabola_turned g r (n -ℤ d *ℤ f) d)
        (fall_covers (unsigned_abs g) r (neg_ℤ (n -ℤ d *ℤ f)) d (room_above high f) hr hd (room_kept_above high f n d below))

-- ---- how it rises
-- a step of s / d that is no higher than t, d d times, is at most a step k past the vertex that is at least t
pub risen_covers : (g r t s d : ℤ) (k : ℕ) → pos 0 <ℤ r → pos 0 <ℤ d → HasRisen g r t k → parabola g r s d ≤ℤ ((d *ℤ d) *ℤ t) → s ≤ℤ (d *ℤ pos k)
risen_covers g r t s d k hr hd risen low = by_lt_z (d *ℤ pos k) s (λ h. absurd (beyond h)) (λ h. h)
  where
    split : s ≡ (s -ℤ d *ℤ pos k) +ℤ d *ℤ pos k
    split = omega (arith, ints)

    beyond : (d *ℤ pos k) <ℤ s → ⊥
    beyond h =
        let v : ℤ = s -ℤ d *ℤ pos k in
        let hv : pos 0 <ℤ v = omega (arith, ints) in
        let base : ((d *ℤ d) *ℤ t) ≤ℤ ((d *ℤ d) *ℤ (pos k *ℤ (pos 2 *ℤ g +ℤ r *ℤ pos k))) = scaled (d *ℤ d) t (pos k *ℤ (pos 2 *ℤ g +ℤ r *ℤ pos k)) (square_nonneg d) risen.high in
        let p : pos 0 ≤ℤ (v *ℤ (r *ℤ pos k +ℤ g)) = mul_nonneg v (r *ℤ pos k +ℤ g) (omega (arith, ints)) risen.past in
        let q : pos 0 ≤ℤ (d *ℤ (v *ℤ (r *ℤ pos k +ℤ g))) = mul_nonneg d (v *ℤ (r *ℤ pos k +ℤ g)) (omega (arith, ints)) p in
        let w : pos 0 <ℤ (r *ℤ (v *ℤ v)) = mul_pos r (v *ℤ v) hr (mul_pos v v hv hv) in
        let whole : parabola g r s d ≡ (d *ℤ d) *ℤ (pos k *ℤ (pos 2 *ℤ g +ℤ r *ℤ pos k)) +ℤ pos 2 *ℤ (d *ℤ (v *ℤ (r *ℤ pos k +ℤ g))) +ℤ r *ℤ (v *ℤ v) = ap (λ x. parabola g r x d) split ∙ past_ring g r (pos k) v d in
        sum_is_above ((d *ℤ d) *ℤ t) ((d *ℤ d) *ℤ (pos k *ℤ (pos 2 *ℤ g +ℤ r *ℤ pos k))) (d *ℤ (v *ℤ (r *ℤ pos k +ℤ g))) (r *ℤ (v *ℤ v)) (parabola g r s d) base q w whole low
      where
        scaled : (c x y : ℤ) → pos 0 ≤ℤ c → x ≤ℤ y → (c *ℤ x) ≤ℤ (c *ℤ y)
        scaled c x y h l = rw (*ℤ_comm c x, *ℤ_comm c y) (mul_mono x y c h l)

        sum_is_above : (t x y z w : ℤ) → t ≤ℤ x → pos 0 ≤ℤ y → pos 0 <ℤ z → w ≡ x +ℤ pos 2 *ℤ y +ℤ z → w ≤ℤ t → ⊥
        sum_is_above t x y z w h i j e l = omega (arith, ints)

-- past the vertex it rises: beyond such a step it is above t
pub rise_past_vertex : (g r t s d : ℤ) (k : ℕ) → pos 0 <ℤ r → pos 0 <ℤ d → HasRisen g r t k → (d *ℤ pos k) <ℤ s → ((d *ℤ d) *ℤ t) <ℤ parabola g r s d
rise_past_vertex g r t s d k hr hd risen h =
    by_lt_z ((d *ℤ d) *ℤ t) (parabola g r s d) (λ l. l) (λ l. absurd (turned s (d *ℤ pos k) h (risen_covers g r t s d k hr hd risen l)))
  where
    turned : (x y : ℤ) → y <ℤ x → x ≤ℤ y → ⊥
    turned x y h l = omega (arith, ints)
