-- What is lost where a sum is rounded: it is formed from sizes, and it fits.
use Rattle.std.proofs.Common.{◌≡◌, ℕ, ◌+◌, ◌-◌, ◌*◌, ◌/◌, ◌%◌, ◌^◌, ◌<◌, ◌≤◌, ℤ, pos, negsuc, to_z, ◌-ℤ◌, ◌*ℤ◌, ◌<ℤ◌, unsigned_abs, ap, ◌∙◌, arith, pow_mono}
use Rattle.std.proofs.lemmas.Int.{ints, to_z_pos}
use Rattle.std.specs.Int.{abs_diff}
use mir.Syntax.{w128}
use Rattle.fx_whole.specs.Nearest.{with_sign, nearest, IsNearest}
use Rattle.fx_whole.proofs.NearestLaws.{nearest-at, nearest-size_product, nearest-is_nearest, with_sign-size}
use Rattle.fx_whole.proofs.Powers.{pow_positive}
use Rattle.fx_whole.proofs.Ring.{neg_ℤ-*ℤ}

-- a rounded product and what was rounded are on one side of zero, so their sizes may be subtracted
signed_loss : (n : ℤ) (q d : ℕ) → abs_diff (q * d) (unsigned_abs n) ≡ unsigned_abs (n -ℤ with_sign n q *ℤ pos d)
signed_loss (pos n) q d = omega (arith, ints)
signed_loss (negsuc n) q d = let e = neg_ℤ-*ℤ (pos q) (pos d) in omega (arith, ints)

loss_from_sizes : (n v : ℤ) (d : ℕ) → pos 0 <ℤ pos d → v ≡ nearest n (pos d) → abs_diff (unsigned_abs v * d) (unsigned_abs n) ≡ unsigned_abs (n -ℤ v *ℤ pos d)
loss_from_sizes n v d h e =
    let q : ℕ = (2 * unsigned_abs n + (d - 1)) / (2 * d) in
    let f : v ≡ with_sign n q = e ∙ nearest-at n (pos d) h in
    rw (f, with_sign-size) (signed_loss n q d)

-- the product needs no more than 128 bits
whole_fits : (n v : ℤ) (s : ℕ) → s ≤ 126 → unsigned_abs n ≤ 2 ^ 127 → v ≡ nearest n (pos (2 ^ s)) → unsigned_abs v * 2 ^ s < 2 ^ 128
whole_fits n v s h k e =
    let p : 2 ^ s ≤ 2 ^ 126 = pow_mono h in
    rw e (omega (arith, nearest-size_product n (pos (2 ^ s)) (pow_positive s)))

-- and the loss no more than 126
loss_small : (n v : ℤ) (s : ℕ) → s ≤ 126 → v ≡ nearest n (pos (2 ^ s)) → unsigned_abs (n -ℤ v *ℤ pos (2 ^ s)) < 2 ^ 127
loss_small n v s h e =
    let p : 2 ^ s ≤ 2 ^ 126 = pow_mono h in
    let near : IsNearest n (pos (2 ^ s)) (nearest n (pos (2 ^ s))) = nearest-is_nearest n (pos (2 ^ s)) (pow_positive s) in
    rw e (omega (arith, near.close))

mod_whole : (x : ℕ) → x < 2 ^ 128 → x % 2 ^ 128 ≡ x
mod_whole x h = omega arith

pub lost_is : (n v l : ℤ) (s a b w : ℕ) → s ≤ 126 → v ≡ nearest n (pos (2 ^ s)) → a ≡ unsigned_abs v → b ≡ unsigned_abs n → b ≤ 2 ^ 127
    → w ≡ abs_diff ((a * 2 ^ s) % 2 ^ 128) b → l ≡ to_z w128 w → l ≡ pos (unsigned_abs (n -ℤ v *ℤ pos (2 ^ s)))
lost_is n v l s a b w h e f g k m z =
    let fits : a * 2 ^ s < 2 ^ 128 = rw f (whole_fits n v s h (rw (← g) k) e) in
    let e1 : w ≡ abs_diff (a * 2 ^ s) b = m ∙ ap (λ x. abs_diff x b) (mod_whole (a * 2 ^ s) fits) in
    let e2 : w ≡ unsigned_abs (n -ℤ v *ℤ pos (2 ^ s)) = e1 ∙ rw (f, g) (loss_from_sizes n v (2 ^ s) (pow_positive s) e) in
    let small : w < 2 ^ 127 = rw e2 (loss_small n v s h e) in
    z ∙ to_z_pos w128 w small ∙ ap pos e2
