-- A rise seen by comparison.
use Rattle.std.proofs.Common.{◌≡◌, ℕ, ◌+◌, ◌*◌, ◌/◌, ◌%◌, ◌≤◌, ◌↔◌, ℤ, pos, ◌+ℤ◌, ◌*ℤ◌, ◌<ℤ◌, ◌≤ℤ◌, Bool, IsTrue, sym, ap, ◌∙◌, subst, arith}
use Rattle.std.proofs.lemmas.Int.{ints}
use Rattle.mj_optimum.specs.Box.{rise}
use Rattle.mj_optimum.proofs.RiseLaws.{rise_at_most}

-- x and y are k times the low and the high word of h
pub words : (w k h x y : ℕ) → x ≡ k * (h % w) → y ≡ k * (h / w) → h / w * w + h % w ≡ h → x / w * w + x % w ≡ x → (y + x / w) * w + x % w ≡ k * h
words w k h x y ex ey eh e =
    ap (λ v. (v + x / w) * w + x % w) ey ∙ across k (h / w) (h % w) w x (x / w) (x % w) ex e ∙ ap (λ v. k * v) eh
  where
    across : (k a b w x q s : ℕ) → x ≡ k * b → q * w + s ≡ x → (k * a + q) * w + s ≡ k * (a * w + b)
    across k a b w x q s h e = omega arith

pub seen_past : (g r t h : ℤ) (k : ℕ) (b : Bool) → pos 0 <ℤ r → pos 0 ≤ℤ (r *ℤ pos k +ℤ g) → h ≡ (r *ℤ pos k +ℤ g) +ℤ g → (IsTrue b ↔ (t ≤ℤ (pos k *ℤ h))) → IsTrue b ↔ (rise g r t ≤ k)
seen_past g r t h k b hr past e seen =
    let same : h ≡ pos 2 *ℤ g +ℤ r *ℤ pos k = omega (arith, ints) in (
      λ x. (rise_at_most g r t k hr).1 (record { past = past; high = subst (λ (y : ℤ). t ≤ℤ (pos k *ℤ y)) same (seen.0 x) }),
      λ l. seen.1 (subst (λ (y : ℤ). t ≤ℤ (pos k *ℤ y)) (sym same) ((rise_at_most g r t k hr).0 l).high),
    )

pub seen_before : (g r t : ℤ) (k : ℕ) (P : Type 0) → pos 0 <ℤ r → (r *ℤ pos k +ℤ g) <ℤ pos 0 → (P → ⊥) → P ↔ (rise g r t ≤ k)
seen_before g r t k P hr before none = (λ x. absurd (none x), λ l. let risen = (rise_at_most g r t k hr).0 l in absurd (clash risen.past))
  where
    clash : pos 0 ≤ℤ (r *ℤ pos k +ℤ g) → ⊥
    clash h = omega (arith, ints)
