-- The root of a covered number is covered.
use Rattle.std.proofs.Common.{◌≡◌, ℕ, ◌+◌, ◌*◌, ◌^◌, ◌≤◌, ℤ, pos, negsuc, ◌+ℤ◌, ◌-ℤ◌, ◌*ℤ◌, ◌<ℤ◌, ◌≤ℤ◌, unsigned_abs, ap, ◌∙◌, arith}
use Rattle.std.proofs.lemmas.Int.{ints, by_lt_z}
use Rattle.fx_whole.proofs.Powers.{pow-add_ℤ, pow_positive}
use Rattle.fx_whole.proofs.Ring.{ring, mul_mono, mul_nonneg, mul_pos, square_nonneg}
use Rattle.fx_whole.proofs.RootLaws.{isqrt-root}
use Rattle.fx_whole.specs.Roots.{IsRoot}
use Rattle.fx_near.specs.Widths.{root_mid, root_radius}
use Rattle.fx_near.specs.Covers.{Covers, CoversRoot}
use Rattle.fx_near.proofs.CoverLaws.{ceil_div_holds}

-- the root of what is at least 1
root_positive : (n m : ℤ) → pos 0 <ℤ n → IsRoot n m → pos 0 <ℤ m
root_positive n m h r =
    by_lt_z (pos 0) m
    (λ p. p)
    (λ p. absurd (none (let e : m ≡ pos 0 = omega (arith, ints, r.not_negative) in rw e at r.above)))
  where
    none : n <ℤ pos 1 → ⊥
    none l = omega (arith, ints)

square_up : (m r : ℤ) → (m +ℤ r) *ℤ (m +ℤ r) ≡ m *ℤ m +ℤ r *ℤ m +ℤ r *ℤ m +ℤ r *ℤ r
square_up m r = simp ring (omega (arith, ints))

square_down : (m r : ℤ) → (m -ℤ r) *ℤ (m -ℤ r) ≡ m *ℤ m -ℤ r *ℤ m -ℤ r *ℤ m +ℤ r *ℤ r
square_down m r = simp ring (omega (arith, ints))

regroup_up : (a r d s : ℤ) → ((a +ℤ r) *ℤ d) *ℤ s ≡ (a *ℤ s +ℤ r *ℤ s) *ℤ d
regroup_up a r d s = simp ring (omega (arith, ints))

regroup_down : (a r d s : ℤ) → ((a -ℤ r) *ℤ d) *ℤ s ≡ (a *ℤ s -ℤ r *ℤ s) *ℤ d
regroup_down a r d s = simp ring (omega (arith, ints))

-- x = n 2^f, the operand's bounds times d, and the error r s + (a s - m m) <= radius m
upper : (x a r d s m radius : ℤ) → pos 0 ≤ℤ s → pos 0 ≤ℤ d → pos 0 ≤ℤ m → pos 0 ≤ℤ radius → x ≤ℤ ((a +ℤ r) *ℤ d) → (r *ℤ s +ℤ (a *ℤ s -ℤ m *ℤ m)) ≤ℤ (radius *ℤ m)
    → (x *ℤ s) ≤ℤ ((m +ℤ radius) *ℤ (m +ℤ radius) *ℤ d)
upper x a r d s m radius hs hd hm hr h k =
    let one : (x *ℤ s) ≤ℤ (((a +ℤ r) *ℤ d) *ℤ s) = mul_mono x ((a +ℤ r) *ℤ d) s hs h in
    let big : (a *ℤ s +ℤ r *ℤ s) ≤ℤ ((m +ℤ radius) *ℤ (m +ℤ radius)) = rw (square_up m radius) (omega (arith, ints, mul_nonneg radius m hr hm, square_nonneg radius)) in
    let two : ((a *ℤ s +ℤ r *ℤ s) *ℤ d) ≤ℤ ((m +ℤ radius) *ℤ (m +ℤ radius) *ℤ d) = mul_mono (a *ℤ s +ℤ r *ℤ s) ((m +ℤ radius) *ℤ (m +ℤ radius)) d hd big in
    let e = regroup_up a r d s in
    omega (arith, ints)

lower : (x a r d s m radius : ℤ) → pos 0 ≤ℤ s → pos 0 ≤ℤ d → pos 0 ≤ℤ radius → radius ≤ℤ m → ((a -ℤ r) *ℤ d) ≤ℤ x → (m *ℤ m) ≤ℤ (a *ℤ s) → (r *ℤ s +ℤ (a *ℤ s -ℤ m *ℤ m)) ≤ℤ (radius *ℤ m)
    → ((m -ℤ radius) *ℤ (m -ℤ radius) *ℤ d) ≤ℤ (x *ℤ s)
lower x a r d s m radius hs hd hr hm h b k =
    let one : (((a -ℤ r) *ℤ d) *ℤ s) ≤ℤ (x *ℤ s) = mul_mono ((a -ℤ r) *ℤ d) x s hs h in
    let square : (radius *ℤ radius) ≤ℤ (m *ℤ radius) = mul_mono radius m radius hr hm in
    let turned : m *ℤ radius ≡ radius *ℤ m = simp ring in
    let small : ((m -ℤ radius) *ℤ (m -ℤ radius)) ≤ℤ (a *ℤ s -ℤ r *ℤ s) = rw (square_down m radius) (omega (arith, ints)) in
    let two : ((m -ℤ radius) *ℤ (m -ℤ radius) *ℤ d) ≤ℤ ((a *ℤ s -ℤ r *ℤ s) *ℤ d) = mul_mono ((m -ℤ radius) *ℤ (m -ℤ radius)) (a *ℤ s -ℤ r *ℤ s) d hd small in
    let e = regroup_down a r d s in
    omega (arith, ints)

-- the operand's bounds
within_up : (x a : ℤ) (r d : ℕ) → unsigned_abs (x -ℤ a *ℤ pos d) ≤ r * d → x ≤ℤ ((a +ℤ pos r) *ℤ pos d)
within_up x a r d h = let e : (a +ℤ pos r) *ℤ pos d ≡ a *ℤ pos d +ℤ pos r *ℤ pos d = simp ring in rw e (omega (arith, ints))

within_down : (x a : ℤ) (r d : ℕ) → unsigned_abs (x -ℤ a *ℤ pos d) ≤ r * d → ((a -ℤ pos r) *ℤ pos d) ≤ℤ x
within_down x a r d h = let e : (a -ℤ pos r) *ℤ pos d ≡ a *ℤ pos d -ℤ pos r *ℤ pos d = simp ring in rw e (omega (arith, ints))

-- the error over ℤ
error_over : (a m : ℤ) (ra s radius : ℕ) → pos 0 ≤ℤ m → (m *ℤ m) ≤ℤ (a *ℤ pos s) → ra * s + unsigned_abs (a *ℤ pos s -ℤ m *ℤ m) ≤ radius * unsigned_abs m → (pos ra *ℤ pos s +ℤ (a *ℤ pos s -ℤ m *ℤ m)) ≤ℤ (pos radius *ℤ m)
error_over a (negsuc m) ra s radius h b k = absurd (omega (arith, ints))
error_over a (pos m) ra s radius h b k = omega (arith, ints)

root_bounds : (n a m : ℤ) (ra f d radius : ℕ) → pos 0 <ℤ m → (m *ℤ m) ≤ℤ (a *ℤ pos (2 ^ f)) → Covers a ra f n d → ra * 2 ^ f + unsigned_abs (a *ℤ pos (2 ^ f) -ℤ m *ℤ m) ≤ radius * unsigned_abs m → CoversRoot m radius f n d
root_bounds n a m ra f d radius hm b p k =
    let s : ℤ = pos (2 ^ f) in
    let double : 2 * f ≡ f + f = omega arith in
    let power : pos (2 ^ (2 * f)) ≡ s *ℤ s = ap (λ (x : ℕ). pos (2 ^ x)) double ∙ pow-add_ℤ f f in
    let top : n *ℤ pos (2 ^ (2 * f)) ≡ (n *ℤ s) *ℤ s = ap (λ x. n *ℤ x) power ∙ regroup n s in
    let over = error_over a m ra (2 ^ f) radius (omega (arith, ints)) b k in
    record {
      above = rw top (upper (n *ℤ s) a (pos ra) (pos d) s m (pos radius) (omega (arith, ints)) (omega (arith, ints)) (omega (arith, ints)) (omega (arith, ints)) (within_up (n *ℤ s) a ra d p.bound) over);
      below = λ h. rw top (lower (n *ℤ s) a (pos ra) (pos d) s m (pos radius) (omega (arith, ints)) (omega (arith, ints)) (omega (arith, ints)) h (within_down (n *ℤ s) a ra d p.bound) b over);
    }
  where
    regroup : (n s : ℤ) → n *ℤ (s *ℤ s) ≡ (n *ℤ s) *ℤ s
    regroup n s = simp ring

-- a number above zero, scaled
scaled_positive : (a : ℤ) (ra f : ℕ) → pos ra <ℤ a → pos 0 <ℤ (a *ℤ pos (2 ^ f))
scaled_positive a ra f h = mul_pos a (pos (2 ^ f)) (omega (arith, ints)) (pow_positive f)

pub root_mid-positive : (a : ℤ) (ra f : ℕ) → pos ra <ℤ a → pos 0 <ℤ root_mid f a
root_mid-positive a ra f h =
    let whole : pos 0 <ℤ (a *ℤ pos (2 ^ f)) = scaled_positive a ra f h in
    root_positive (a *ℤ pos (2 ^ f)) (root_mid f a) whole (isqrt-root (a *ℤ pos (2 ^ f)) (omega (arith, ints)))

pub root-covers : (a n : ℤ) (ra f d : ℕ) → pos ra <ℤ a → Covers a ra f n d → CoversRoot (root_mid f a) (root_radius f a ra) f n d
root-covers a n ra f d h p =
    let whole : pos 0 <ℤ (a *ℤ pos (2 ^ f)) = scaled_positive a ra f h in
    let root : IsRoot (a *ℤ pos (2 ^ f)) (root_mid f a) = isqrt-root (a *ℤ pos (2 ^ f)) (omega (arith, ints)) in
    let positive : pos 0 <ℤ root_mid f a = root_mid-positive a ra f h in
    root_bounds n a (root_mid f a) ra f d (root_radius f a ra) positive root.below p
    (ceil_div_holds (ra * 2 ^ f + unsigned_abs (a *ℤ pos (2 ^ f) -ℤ root_mid f a *ℤ root_mid f a)) (unsigned_abs (root_mid f a)) (omega (arith, ints)))
