-- Geoms that are apart in a coordinate by more than they reach and the margin don't meet.
use Rattle.std.proofs.Common.{◌≡◌, ℕ, ◌+◌, ◌*◌, ◌^◌, ◌≤◌, true, false, cond, ◌||◌, ℤ, pos, ◌+ℤ◌, ◌-ℤ◌, ◌*ℤ◌, neg_ℤ, ◌≤ℤ◌, ◌<ℤ◌, int_lt, unsigned_abs, Option, Some, None, refl, ap, arith, inl, inr}
use Rattle.std.proofs.lemmas.Int.{ints}
use Rattle.std.proofs.lemmas.Bool.{or_cases, cond-false, cond_both}
use Rattle.mj_types.specs.declared.parts.GeomKind.{GeomKind}
use Rattle.mj_types.specs.declared.parts.GeomKind.TheVariants as kind
use Rattle.mj_types.specs.Lawful.{is_plane}
use Rattle.fx_whole.proofs.Ring.{abs_mul_le}
use Rattle.fx_whole.proofs.NearestLaws.{nearest-is_nearest}
use Rattle.fx_vec.specs.Vectors.{Triple, minus}
use Rattle.fx_vec.specs.Settling.{moved, moved_one}
use Rattle.mj_quat.specs.Rotation.{vector_length}
use Rattle.mj_quat.proofs.LengthLaws.{vector_covered, vector_length-nonneg}
use Rattle.mj_touch.specs.Balls.{balls, gap}
use Rattle.mj_touch.specs.Capsules.{held, second_place, first_place, place_on_first, place_on_second, foot}
use Rattle.mj_touch.specs.Culling.{limit, is_apart, are_apart}
use Rattle.mj_touch.specs.Meetings.{Meeting, standing, none_met, one_met}
use Rattle.mj_touch.specs.Pairs.{meetings_by}
use Rattle.mj_touch.specs.Solids.{Solid, IsDirection}

-- ---- points of an axis
moved_one-near : (c n k : ℤ) (h : ℕ) → unsigned_abs n ≤ 2 ^ 32 + 16 → unsigned_abs k ≤ h → h ≤ 2 ^ 42 → unsigned_abs (moved_one c n k -ℤ c) ≤ h + 2 ^ 15
moved_one-near c n k h i j l =
    let p : unsigned_abs (n *ℤ k) ≤ (2 ^ 32 + 16) * h = abs_mul_le n k (2 ^ 32 + 16) h i j in
    let close = (nearest-is_nearest (c *ℤ pos (2 ^ 32) +ℤ n *ℤ k) (pos (2 ^ 32)) (omega (arith, ints))).close in
    omega (arith, ints, p, close)

int_lt_true : (a b : ℤ) → int_lt a b ≡ true → a <ℤ b
int_lt_true a b e = grind (arith, ints)

le_int_lt : (a b : ℤ) → b ≤ℤ a → int_lt a b ≡ false
le_int_lt a b h = grind (arith, ints)

-- within a length and 2^-17 of a point in each coordinate
record Near (p c : Triple ℤ) (h : ℤ) : Type 0 where
  x : pos (unsigned_abs (p.x -ℤ c.x)) ≤ℤ (h +ℤ pos (2 ^ 15))
  y : pos (unsigned_abs (p.y -ℤ c.y)) ≤ℤ (h +ℤ pos (2 ^ 15))
  z : pos (unsigned_abs (p.z -ℤ c.z)) ≤ℤ (h +ℤ pos (2 ^ 15))

-- 0 to 2^42: half the length of an axis
record IsHalf (h : ℤ) : Type 0 where
  least : pos 0 ≤ℤ h
  most : h ≤ℤ pos (2 ^ 42)

itself : (c : Triple ℤ) (h : ℤ) → IsHalf h → Near c c h
itself c h i = record { x = omega (arith, ints, i.least); y = omega (arith, ints, i.least); z = omega (arith, ints, i.least) }

moved-near : (c n : Triple ℤ) (k h : ℤ) → IsDirection n → pos (unsigned_abs k) ≤ℤ h → IsHalf h → Near (moved c n k) c h
moved-near c n k h i j l =
    let most : unsigned_abs k ≤ 2 ^ 42 = omega (arith, ints, l.most) in
    record {
      x = omega (arith, ints, moved_one-near c.x n.x k (unsigned_abs k) i.x (omega arith) most);
      y = omega (arith, ints, moved_one-near c.y n.y k (unsigned_abs k) i.y (omega arith) most);
      z = omega (arith, ints, moved_one-near c.z n.z k (unsigned_abs k) i.z (omega arith) most);
    }

held-le : (h n : ℤ) → IsHalf h → pos (unsigned_abs (held h n)) ≤ℤ h
held-le h n i =
    cond_both (int_lt n (neg_ℤ h)) (neg_ℤ h) (cond (int_lt h n) h n) (λ v. pos (unsigned_abs v) ≤ℤ h)
    (λ e. omega (arith, ints, i.least))
    (λ e. cond_both (int_lt h n) h n (λ v. pos (unsigned_abs v) ≤ℤ h) (λ f. omega (arith, ints, i.least)) (λ f. grind (arith, ints)))

-- ---- balls
-- past the limit in a coordinate, the centres stay past the radii and the margin
past_one : (c e p q h l r s margin : ℤ) → is_apart (r +ℤ h +ℤ pos (2 ^ 15) +ℤ (s +ℤ l +ℤ pos (2 ^ 15)) +ℤ margin) c e ≡ true
    → pos (unsigned_abs (p -ℤ c)) ≤ℤ (h +ℤ pos (2 ^ 15)) → pos (unsigned_abs (q -ℤ e)) ≤ℤ (l +ℤ pos (2 ^ 15)) → (r +ℤ s +ℤ margin) <ℤ pos (unsigned_abs (q -ℤ p))
past_one c e p q h l r s margin i j k =
    let apart = int_lt_true (r +ℤ h +ℤ pos (2 ^ 15) +ℤ (s +ℤ l +ℤ pos (2 ^ 15)) +ℤ margin) (pos (unsigned_abs (e -ℤ c))) i in
    omega (arith, ints, apart)

-- so the length is, and the balls don't meet
beyond : (p q : Triple ℤ) (r s margin n : ℤ) → unsigned_abs n ≤ unsigned_abs (vector_length (minus q p)) → (r +ℤ s +ℤ margin) <ℤ pos (unsigned_abs n) → standing margin (balls p r q s) ≡ None
unfolding balls
beyond p q r s margin n h i =
    let some = vector_length-nonneg (minus q p) in
    cond-false (int_lt (gap p r q s) margin) (Some (balls p r q s)) None (le_int_lt (gap p r q s) margin (omega (arith, ints, some)))

apart-balls : (a b : Solid) (margin : ℤ) (p q : Triple ℤ) → Near p a.center a.half → Near q b.center b.half → are_apart (limit a b margin) a.center b.center ≡ true
    → standing margin (balls p a.radius q b.radius) ≡ None
apart-balls a b margin p q h k e =
    let l = limit a b margin in
    let d = minus q p in
    let covered = vector_covered d in
    elim (or_cases (is_apart l a.center.x b.center.x) (is_apart l a.center.y b.center.y || is_apart l a.center.z b.center.z) e) [
      | inl x ↦ beyond p q a.radius b.radius margin d.x covered.x (past_one a.center.x b.center.x p.x q.x a.half b.half a.radius b.radius margin x h.x k.x)
      | inr o ↦ elim (or_cases (is_apart l a.center.y b.center.y) (is_apart l a.center.z b.center.z) o) [
        | inl y ↦ beyond p q a.radius b.radius margin d.y covered.y (past_one a.center.y b.center.y p.y q.y a.half b.half a.radius b.radius margin y h.y k.y)
        | inr z ↦ beyond p q a.radius b.radius margin d.z covered.z (past_one a.center.z b.center.z p.z q.z a.half b.half a.radius b.radius margin z h.z k.z)
      ]
    ]

-- ---- geoms
pub record IsSolid (a : Solid) : Type 0 where
  pub axis : IsDirection a.axis
  pub least : pos 0 ≤ℤ a.half
  pub most : a.half ≤ℤ pos (2 ^ 42)

place-near : (a : Solid) (n : ℤ) → IsSolid a → Near (moved a.center a.axis (held a.half n)) a.center a.half
place-near a n i = moved-near a.center a.axis (held a.half n) a.half i.axis (held-le a.half n (record { least = i.least; most = i.most })) (record { least = i.least; most = i.most })

center-near : (a : Solid) → IsSolid a → Near a.center a.center a.half
center-near a i = itself a.center a.half (record { least = i.least; most = i.most })

capsules-none : (a b : Solid) (margin : ℤ) → IsSolid a → IsSolid b → are_apart (limit a b margin) a.center b.center ≡ true
    → standing margin (balls (moved a.center a.axis (place_on_first a b)) a.radius (moved b.center b.axis (place_on_second a b)) b.radius) ≡ None
unfolding first_place second_place
capsules-none a b margin i j e =
    apart-balls a b margin (moved a.center a.axis (place_on_first a b)) (moved b.center b.axis (place_on_second a b)) (place-near a _ i) (place-near b _ j) e

alone : {m : Option Meeting} → m ≡ None → one_met m ≡ none_met
alone e = ap one_met e

pub skipped : (k l : GeomKind) (a b : Solid) (margin : ℤ) → is_plane k ≡ false → IsSolid a → IsSolid b → are_apart (limit a b margin) a.center b.center ≡ true
    → meetings_by k l a b margin ≡ none_met
skipped kind.Plane l a b margin p i j e = cc
skipped kind.Sphere kind.Plane a b margin p i j e = refl
skipped kind.Sphere kind.Sphere a b margin p i j e = alone (apart-balls a b margin a.center b.center (center-near a i) (center-near b j) e)
skipped kind.Sphere kind.Capsule a b margin p i j e =
    alone (apart-balls a b margin a.center (moved b.center b.axis (foot b a.center)) (center-near a i) (place-near b _ j) e)
skipped kind.Capsule kind.Plane a b margin p i j e = refl
skipped kind.Capsule kind.Sphere a b margin p i j e = refl
skipped kind.Capsule kind.Capsule a b margin p i j e = alone (capsules-none a b margin i j e)
