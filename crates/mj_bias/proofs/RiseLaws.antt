-- Up the tree: what each body holds of the wrenches while they are added to its parent's.
use Rattle.std.proofs.Common.{◌≡◌, ◌≢◌, ℕ, zero, suc, ◌+◌, ◌-◌, ◌*◌, ◌^◌, ◌<◌, ◌≤◌, ◌==◌, max, length, sym, ap, ap₂, ◌∙◌, arith, lit≤, mul-le-mul_right, le_trans}
use Rattle.fx_vec.specs.Sums.{vectors, sizes}
use Rattle.fx_vec.proofs.SumLaws.{vectors-is_adding, sizes-is_adding}
use Rattle.mj_tree.specs.TreeSums.{climb, held}
use Rattle.mj_tree.proofs.UpLaws.{held_start, held_put, held_end}
use Rattle.mj_types.specs.declared.model.Model.{Model}
use Rattle.mj_types.specs.Parts.{body, parent_of}
use Rattle.mj_types.proofs.LayoutLaws.{is_tree}
use Rattle.mj_bias.specs.Measures.{Measured, measured, sum_of, IsWithin}
use Rattle.mj_bias.specs.Steps.{sum_there}
use Rattle.mj_bias.proofs.SeenLaws.{same_measured}
use Rattle.mj_bias.proofs.SizeLaws.{within6-le, below6-le}
use Rattle.mj_bias.proofs.MovingLaws.{sum_within, sum_below}

-- what k holds of f once each body after p was added to its parent's
unfoldable pub held_there : Model → (ℕ → Measured) → ℕ → ℕ → Measured
held_there m f p k = measured (held vectors (parent_of m.bodies) (length m.bodies + 1) (λ k. (f k).value) p k) (held sizes (parent_of m.bodies) (length m.bodies + 1) (λ k. (f k).width) p k)

pub held_begins : (m : Model) (f : ℕ → Measured) (p k : ℕ) → length m.bodies ≤ p → k ≤ length m.bodies → f k ≡ held_there m f p k
unfolding held_there
held_begins m f p k h l =
    sym (same_measured (held_there m f p k) (f k)
    (held_start vectors vectors-is_adding (parent_of m.bodies) (length m.bodies + 1) (λ k. (f k).value) p k (omega arith) (omega arith))
    (held_start sizes sizes-is_adding (parent_of m.bodies) (length m.bodies + 1) (λ k. (f k).width) p k (omega arith) (omega arith)))

pub held_goes_on : (m : Model) (f g h : ℕ → Measured) (p q t : ℕ) → q + 1 ≡ p → p ≤ length m.bodies → t ≡ parent_of m.bodies p → ((k : ℕ) → k ≤ length m.bodies → g k ≡ held_there m f p k)
    → h t ≡ sum_of (g t) (g p) → ((k : ℕ) → k ≢ t → h k ≡ g k) → (k : ℕ) → k ≤ length m.bodies → h k ≡ held_there m f q k
unfolding held_there
held_goes_on m f g h p q t e l w before here others k r =
    same_measured (h k) (held_there m f q k)
    (held_put vectors vectors-is_adding (parent_of m.bodies) (is_tree m.bodies m.of_bodies) (length m.bodies + 1) (λ k. (f k).value) p q (λ k. (g k).value) (λ k. (h k).value) e (omega arith)
    (λ c s. ap (λ (x : Measured). x.value) (before c (omega arith))) (ap (λ (c : ℕ). (h c).value) (sym w) ∙ ap (λ (x : Measured). x.value) here ∙ ap (λ (c : ℕ). (sum_of (g c) (g p)).value) w)
    (λ c n. ap (λ (x : Measured). x.value) (others c (λ v. n (v ∙ w)))) k (omega arith))
    (held_put sizes sizes-is_adding (parent_of m.bodies) (is_tree m.bodies m.of_bodies) (length m.bodies + 1) (λ k. (f k).width) p q (λ k. (g k).width) (λ k. (h k).width) e (omega arith)
    (λ c s. ap (λ (x : Measured). x.width) (before c (omega arith))) (ap (λ (c : ℕ). (h c).width) (sym w) ∙ ap (λ (x : Measured). x.width) here ∙ ap (λ (c : ℕ). (sum_of (g c) (g p)).width) w)
    (λ c n. ap (λ (x : Measured). x.width) (others c (λ v. n (v ∙ w)))) k (omega arith))

pub held_ends : (m : Model) (f : ℕ → Measured) (p k : ℕ) → p ≤ k → held_there m f p k ≡ sum_there (parent_of m.bodies) (length m.bodies + 1) f k
unfolding held_there
held_ends m f p k h =
    ap₂ (λ s w. measured s w)
    (held_end vectors vectors-is_adding (parent_of m.bodies) (is_tree m.bodies m.of_bodies) (length m.bodies + 1) (λ k. (f k).value) p k h)
    (held_end sizes sizes-is_adding (parent_of m.bodies) (is_tree m.bodies m.of_bodies) (length m.bodies + 1) (λ k. (f k).width) p k h)

at_most : (n l : ℕ) → n ≤ 129 → n * l ≤ 129 * l
at_most n l h = mul-le-mul_right l h

pub held_within : (m : Model) (f : ℕ → Measured) (p k : ℕ) → ((i : ℕ) → i ≤ length m.bodies → IsWithin (f i) (2 ^ 118) (2 ^ 106)) → IsWithin (held_there m f p k) (2 ^ 126 - 1) (2 ^ 126)
unfolding held_there
held_within m f p k h = record {
  value_ = within6-le _ ((length m.bodies + 1) * 2 ^ 118) (2 ^ 126 - 1)
      (sum_within (length m.bodies + 1) (λ i. climb (parent_of m.bodies) (max k p) i == k) (λ i. (f i).value) (2 ^ 118) (λ i l. (h i (omega arith)).value_))
      (le_trans (at_most (length m.bodies + 1) (2 ^ 118) (omega (arith, m.of_bodies.few))) (lit≤ tt));
  width_ = below6-le _ ((length m.bodies + 1) * 2 ^ 106) (2 ^ 126)
      (sum_below (length m.bodies + 1) (λ i. climb (parent_of m.bodies) (max k p) i == k) (λ i. (f i).width) (2 ^ 106) (λ i l. (h i (omega arith)).width_))
      (le_trans (at_most (length m.bodies + 1) (2 ^ 106) (omega (arith, m.of_bodies.few))) (lit≤ tt));
}

-- the parent of a body, by its number
pub parent_there : (m : Model) (k : ℕ) → 0 < k → (body m.bodies (k - 1)).parent ≡ parent_of m.bodies k
parent_there m zero h = absurd (omega arith)
parent_there m (suc b) h = let e : suc b - 1 ≡ b = omega arith in ap (λ (n : ℕ). (body m.bodies n).parent) e
