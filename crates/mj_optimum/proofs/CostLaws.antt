-- The laws of `reach`, `cost` and `gradient`: the identity of the quadratic, and what changes with one force.
use Rattle.std.proofs.Common.{◌≡◌, ℕ, ◌^◌, ◌<◌, ℤ, pos, ◌+ℤ◌, ◌-ℤ◌, ◌*ℤ◌, sym, ap, ap₂, ◌∙◌, arith}
use Rattle.std.proofs.lemmas.Int.{ints}
use lib.IntN.{*ℤ-zero}
use Rattle.fx_whole.specs.Sums.{sum_to}
use Rattle.fx_whole.proofs.Ring.{ring, *ℤ_assoc}
use Rattle.fx_whole.proofs.SumLaws.{sum_to-ext, sum_to-add, sum_to-none, sum_to-swap, sum_to-scale_left, sum_to-scale_right}
use Rattle.mj_optimum.specs.Problem.{Problem}
use Rattle.mj_optimum.specs.Cost.{reach, cost, gradient}
use Rattle.mj_optimum.specs.Enclosure.{away, parabola}
use Rattle.mj_optimum.proofs.Combining.{two_sums, three_sums}

-- ---- ring steps over plain variables
-- x = t + d y, where t is away
from_away : (x y d : ℤ) → x ≡ (x -ℤ d *ℤ y) +ℤ d *ℤ y
from_away x y d = omega (arith, ints)

linear : (g t y d : ℤ) → g *ℤ (t +ℤ d *ℤ y) ≡ pos 1 *ℤ (g *ℤ t) +ℤ d *ℤ (g *ℤ y)
linear g t y d = simp ring (omega (arith, ints))

square : (t y d : ℤ) → (t +ℤ d *ℤ y) *ℤ (t +ℤ d *ℤ y) ≡ pos 1 *ℤ (t *ℤ t) +ℤ (pos 2 *ℤ d) *ℤ (t *ℤ y) +ℤ (d *ℤ d) *ℤ (y *ℤ y)
square t y d = simp ring (omega (arith, ints))

weighted : (r t y d : ℤ) → r *ℤ ((t +ℤ d *ℤ y) *ℤ (t +ℤ d *ℤ y)) ≡ pos 1 *ℤ (r *ℤ (t *ℤ t)) +ℤ (pos 2 *ℤ d) *ℤ (r *ℤ (t *ℤ y)) +ℤ (d *ℤ d) *ℤ (r *ℤ (y *ℤ y))
weighted r t y d = simp ring (omega (arith, ints))

bowl : (w r y c b t d : ℤ) → pos 2 *ℤ (d *ℤ ((w +ℤ r *ℤ y +ℤ c *ℤ b) *ℤ t)) +ℤ r *ℤ (t *ℤ t)
    ≡ (pos 2 *ℤ d) *ℤ (t *ℤ w +ℤ r *ℤ (t *ℤ y)) +ℤ ((pos 2 *ℤ d) *ℤ c) *ℤ (b *ℤ t) +ℤ pos 1 *ℤ (r *ℤ (t *ℤ t))
bowl w r y c b t d = simp ring (omega (arith, ints))

-- the last step: u, r, b stand for the sums, c for 2^36
together : (utt uty uyy rtt rty ryy bt by d c : ℤ)
    → (pos 1 *ℤ utt +ℤ (pos 2 *ℤ d) *ℤ uty +ℤ (d *ℤ d) *ℤ uyy) +ℤ (pos 1 *ℤ rtt +ℤ (pos 2 *ℤ d) *ℤ rty +ℤ (d *ℤ d) *ℤ ryy) +ℤ (pos 2 *ℤ c) *ℤ (d *ℤ (pos 1 *ℤ bt +ℤ d *ℤ by))
    ≡ (d *ℤ d) *ℤ (uyy +ℤ ryy +ℤ (pos 2 *ℤ c) *ℤ (pos 1 *ℤ by)) +ℤ ((pos 2 *ℤ d) *ℤ (uty +ℤ rty) +ℤ ((pos 2 *ℤ d) *ℤ c) *ℤ bt +ℤ pos 1 *ℤ rtt) +ℤ utt
together utt uty uyy rtt rty ryy bt by d c = simp ring (omega (arith, ints))

-- ---- reach
pub reach_ext : (p : Problem) (n f : ℕ → ℤ) (k : ℕ) → ((i : ℕ) → i < p.m → n i ≡ f i) → reach p n k ≡ reach p f k
reach_ext p n f k h = sum_to-ext p.m (λ i. p.g i k *ℤ n i) (λ i. p.g i k *ℤ f i) (λ i q. ap (λ x. p.g i k *ℤ x) (h i q))

pub reach_of_zero : (p : Problem) (k : ℕ) → reach p (λ i. pos 0) k ≡ pos 0
reach_of_zero p k = sum_to-none p.m (λ i. p.g i k *ℤ pos 0) (λ i q. *ℤ-zero (p.g i k))

-- it is linear
pub reach_sum : (p : Problem) (t f : ℕ → ℤ) (d : ℤ) (k : ℕ) → reach p (λ i. t i +ℤ d *ℤ f i) k ≡ reach p t k +ℤ d *ℤ reach p f k
reach_sum p t f d k =
    two_sums p.m (λ i. p.g i k *ℤ (t i +ℤ d *ℤ f i)) (λ i. p.g i k *ℤ t i) (λ i. p.g i k *ℤ f i) (pos 1) d (λ i q. linear (p.g i k) (t i) (f i) d)
    ∙ omega (arith, ints)

-- G^T t . G^T f is t . G G^T f
pub reach_product : (p : Problem) (t f : ℕ → ℤ) → sum_to p.nv (λ k. reach p t k *ℤ reach p f k) ≡ sum_to p.m (λ i. t i *ℤ sum_to p.nv (λ k. p.g i k *ℤ reach p f k))
reach_product p t f =
    sum_to-ext p.nv (λ k. reach p t k *ℤ reach p f k) (λ k. sum_to p.m (λ i. t i *ℤ (p.g i k *ℤ reach p f k))) each
    ∙ sum_to-swap p.nv p.m (λ k i. t i *ℤ (p.g i k *ℤ reach p f k))
    ∙ sum_to-ext p.m (λ i. sum_to p.nv (λ k. t i *ℤ (p.g i k *ℤ reach p f k))) (λ i. t i *ℤ sum_to p.nv (λ k. p.g i k *ℤ reach p f k)) (λ i q. sum_to-scale_left p.nv (t i) (λ k. p.g i k *ℤ reach p f k))
  where
    turned : (g t u : ℤ) → (g *ℤ t) *ℤ u ≡ t *ℤ (g *ℤ u)
    turned g t u = simp ring (omega (arith, ints))

    each : (k : ℕ) → k < p.nv → reach p t k *ℤ reach p f k ≡ sum_to p.m (λ i. t i *ℤ (p.g i k *ℤ reach p f k))
    each k q =
        sym (sum_to-scale_right p.m (λ i. p.g i k *ℤ t i) (reach p f k))
        ∙ sum_to-ext p.m (λ i. (p.g i k *ℤ t i) *ℤ reach p f k) (λ i. t i *ℤ (p.g i k *ℤ reach p f k)) (λ i q. turned (p.g i k) (t i) (reach p f k))

-- ---- cost
pub cost_ext : (p : Problem) (n f : ℕ → ℤ) (d : ℤ) → ((i : ℕ) → i < p.m → n i ≡ f i) → cost p n d ≡ cost p f d
unfolding cost
cost_ext p n f d h =
    ap₂ (λ x y. x +ℤ y)
    (ap₂ (λ x y. x +ℤ y)
    (sum_to-ext p.nv (λ k. reach p n k *ℤ reach p n k) (λ k. reach p f k *ℤ reach p f k) (λ k q. ap (λ x. x *ℤ x) (reach_ext p n f k h)))
    (sum_to-ext p.m (λ i. p.r i *ℤ (n i *ℤ n i)) (λ i. p.r i *ℤ (f i *ℤ f i)) (λ i q. ap (λ x. p.r i *ℤ (x *ℤ x)) (h i q))))
    (ap (λ x. pos (2 ^ 37) *ℤ (d *ℤ x)) (sum_to-ext p.m (λ i. p.b i *ℤ n i) (λ i. p.b i *ℤ f i) (λ i q. ap (λ x. p.b i *ℤ x) (h i q))))

pub cost_of_zero : (p : Problem) (d : ℤ) → cost p (λ i. pos 0) d ≡ pos 0
unfolding cost
cost_of_zero p d = ap₂ (λ x y. x +ℤ y) (ap₂ (λ x y. x +ℤ y) none weights) pulls
  where
    none : sum_to p.nv (λ k. reach p (λ i. pos 0) k *ℤ reach p (λ i. pos 0) k) ≡ pos 0
    none = sum_to-none p.nv (λ k. reach p (λ i. pos 0) k *ℤ reach p (λ i. pos 0) k) (λ k q. ap (λ x. x *ℤ x) (reach_of_zero p k))

    weights : sum_to p.m (λ i. p.r i *ℤ (pos 0 *ℤ pos 0)) ≡ pos 0
    weights = sum_to-none p.m (λ i. p.r i *ℤ (pos 0 *ℤ pos 0)) (λ i q. *ℤ-zero (p.r i))

    pulls : pos (2 ^ 37) *ℤ (d *ℤ sum_to p.m (λ i. p.b i *ℤ pos 0)) ≡ pos 0
    pulls = ap (λ x. pos (2 ^ 37) *ℤ (d *ℤ x)) (sum_to-none p.m (λ i. p.b i *ℤ pos 0) (λ i q. *ℤ-zero (p.b i))) ∙ ap (λ x. pos (2 ^ 37) *ℤ x) (*ℤ-zero d)

squares : (p : Problem) (t f : ℕ → ℤ) (d : ℤ)
    → sum_to p.nv (λ k. reach p (λ i. t i +ℤ d *ℤ f i) k *ℤ reach p (λ i. t i +ℤ d *ℤ f i) k)
    ≡ pos 1 *ℤ sum_to p.nv (λ k. reach p t k *ℤ reach p t k) +ℤ (pos 2 *ℤ d) *ℤ sum_to p.nv (λ k. reach p t k *ℤ reach p f k) +ℤ (d *ℤ d) *ℤ sum_to p.nv (λ k. reach p f k *ℤ reach p f k)
squares p t f d =
    three_sums p.nv (λ k. reach p (λ i. t i +ℤ d *ℤ f i) k *ℤ reach p (λ i. t i +ℤ d *ℤ f i) k) (λ k. reach p t k *ℤ reach p t k) (λ k. reach p t k *ℤ reach p f k) (λ k. reach p f k *ℤ reach p f k) (pos 1) (pos 2 *ℤ d) (d *ℤ d)
    (λ k q. ap (λ x. x *ℤ x) (reach_sum p t f d k) ∙ square (reach p t k) (reach p f k) d)

weights : (p : Problem) (t f : ℕ → ℤ) (d : ℤ)
    → sum_to p.m (λ i. p.r i *ℤ ((t i +ℤ d *ℤ f i) *ℤ (t i +ℤ d *ℤ f i)))
    ≡ pos 1 *ℤ sum_to p.m (λ i. p.r i *ℤ (t i *ℤ t i)) +ℤ (pos 2 *ℤ d) *ℤ sum_to p.m (λ i. p.r i *ℤ (t i *ℤ f i)) +ℤ (d *ℤ d) *ℤ sum_to p.m (λ i. p.r i *ℤ (f i *ℤ f i))
weights p t f d =
    three_sums p.m (λ i. p.r i *ℤ ((t i +ℤ d *ℤ f i) *ℤ (t i +ℤ d *ℤ f i))) (λ i. p.r i *ℤ (t i *ℤ t i)) (λ i. p.r i *ℤ (t i *ℤ f i)) (λ i. p.r i *ℤ (f i *ℤ f i)) (pos 1) (pos 2 *ℤ d) (d *ℤ d)
    (λ i q. weighted (p.r i) (t i) (f i) d)

pulls : (p : Problem) (t f : ℕ → ℤ) (d : ℤ) → sum_to p.m (λ i. p.b i *ℤ (t i +ℤ d *ℤ f i)) ≡ pos 1 *ℤ sum_to p.m (λ i. p.b i *ℤ t i) +ℤ d *ℤ sum_to p.m (λ i. p.b i *ℤ f i)
pulls p t f d = two_sums p.m (λ i. p.b i *ℤ (t i +ℤ d *ℤ f i)) (λ i. p.b i *ℤ t i) (λ i. p.b i *ℤ f i) (pos 1) d (λ i q. linear (p.b i) (t i) (f i) d)

parabolas : (p : Problem) (t f : ℕ → ℤ) (d : ℤ)
    → sum_to p.m (λ i. parabola (gradient p f i) (p.r i) (t i) d)
    ≡ (pos 2 *ℤ d) *ℤ (sum_to p.nv (λ k. reach p t k *ℤ reach p f k) +ℤ sum_to p.m (λ i. p.r i *ℤ (t i *ℤ f i))) +ℤ ((pos 2 *ℤ d) *ℤ pos (2 ^ 36)) *ℤ sum_to p.m (λ i. p.b i *ℤ t i) +ℤ pos 1 *ℤ sum_to p.m (λ i. p.r i *ℤ (t i *ℤ t i))
unfolding gradient
parabolas p t f d =
    three_sums p.m (λ i. parabola (gradient p f i) (p.r i) (t i) d) (λ i. t i *ℤ slope i +ℤ p.r i *ℤ (t i *ℤ f i)) (λ i. p.b i *ℤ t i) (λ i. p.r i *ℤ (t i *ℤ t i)) (pos 2 *ℤ d) ((pos 2 *ℤ d) *ℤ pos (2 ^ 36)) (pos 1)
    (λ i q. bowl (slope i) (p.r i) (f i) (pos (2 ^ 36)) (p.b i) (t i) d)
    ∙ ap (λ x. (pos 2 *ℤ d) *ℤ x +ℤ ((pos 2 *ℤ d) *ℤ pos (2 ^ 36)) *ℤ sum_to p.m (λ i. p.b i *ℤ t i) +ℤ pos 1 *ℤ sum_to p.m (λ i. p.r i *ℤ (t i *ℤ t i)))
    (sum_to-add p.m (λ i. t i *ℤ slope i) (λ i. p.r i *ℤ (t i *ℤ f i)) ∙ ap (λ x. x +ℤ sum_to p.m (λ i. p.r i *ℤ (t i *ℤ f i))) (sym (reach_product p t f)))
  where
    slope : ℕ → ℤ
    slope i = sum_to p.nv (λ k. p.g i k *ℤ reach p f k)

cost_at : (p : Problem) (t f : ℕ → ℤ) (d : ℤ)
    → cost p (λ i. t i +ℤ d *ℤ f i) d
    ≡ (d *ℤ d) *ℤ cost p f (pos 1) +ℤ sum_to p.m (λ i. parabola (gradient p f i) (p.r i) (t i) d) +ℤ sum_to p.nv (λ k. reach p t k *ℤ reach p t k)
unfolding cost
cost_at p t f d =
    ap₂ (λ x y. x +ℤ y) (ap₂ (λ x y. x +ℤ y) (squares p t f d) (weights p t f d)) (ap (λ x. pos (2 ^ 37) *ℤ (d *ℤ x)) (pulls p t f d))
    ∙ together
    (sum_to p.nv (λ k. reach p t k *ℤ reach p t k)) (sum_to p.nv (λ k. reach p t k *ℤ reach p f k)) (sum_to p.nv (λ k. reach p f k *ℤ reach p f k))
    (sum_to p.m (λ i. p.r i *ℤ (t i *ℤ t i))) (sum_to p.m (λ i. p.r i *ℤ (t i *ℤ f i))) (sum_to p.m (λ i. p.r i *ℤ (f i *ℤ f i)))
    (sum_to p.m (λ i. p.b i *ℤ t i)) (sum_to p.m (λ i. p.b i *ℤ f i)) d (pos (2 ^ 36))
    ∙ ap (λ x. (d *ℤ d) *ℤ cost p f (pos 1) +ℤ x +ℤ sum_to p.nv (λ k. reach p t k *ℤ reach p t k)) (sym (parabolas p t f d))

-- ---- the identity of the quadratic
pub cost_expands : (p : Problem) (n f : ℕ → ℤ) (d : ℤ)
    → cost p n d
    ≡ (d *ℤ d) *ℤ cost p f (pos 1) +ℤ sum_to p.m (λ i. parabola (gradient p f i) (p.r i) (away n d f i) d) +ℤ sum_to p.nv (λ k. reach p (away n d f) k *ℤ reach p (away n d f) k)
cost_expands p n f d = cost_ext p n (λ i. away n d f i +ℤ d *ℤ f i) d (λ i q. from_away (n i) (f i) d) ∙ cost_at p (away n d f) f d

-- ---- the gradient over all pairs of rows
pub gradient_over_rows : (p : Problem) (f : ℕ → ℤ) (i : ℕ)
    → gradient p f i ≡ sum_to p.m (λ j. sum_to p.nv (λ k. p.g i k *ℤ p.g j k) *ℤ f j) +ℤ p.r i *ℤ f i +ℤ pos (2 ^ 36) *ℤ p.b i
unfolding gradient
gradient_over_rows p f i = ap (λ x. x +ℤ p.r i *ℤ f i +ℤ pos (2 ^ 36) *ℤ p.b i) rows
  where
    over : (k : ℕ) → p.g i k *ℤ reach p f k ≡ sum_to p.m (λ j. (p.g i k *ℤ p.g j k) *ℤ f j)
    over k =
        sym (sum_to-scale_left p.m (p.g i k) (λ j. p.g j k *ℤ f j))
        ∙ sum_to-ext p.m (λ j. p.g i k *ℤ (p.g j k *ℤ f j)) (λ j. (p.g i k *ℤ p.g j k) *ℤ f j) (λ j q. sym (*ℤ_assoc (p.g i k) (p.g j k) (f j)))

    rows : sum_to p.nv (λ k. p.g i k *ℤ reach p f k) ≡ sum_to p.m (λ j. sum_to p.nv (λ k. p.g i k *ℤ p.g j k) *ℤ f j)
    rows =
        sum_to-ext p.nv (λ k. p.g i k *ℤ reach p f k) (λ k. sum_to p.m (λ j. (p.g i k *ℤ p.g j k) *ℤ f j)) (λ k q. over k)
        ∙ sum_to-swap p.nv p.m (λ k j. (p.g i k *ℤ p.g j k) *ℤ f j)
        ∙ sum_to-ext p.m (λ j. sum_to p.nv (λ k. (p.g i k *ℤ p.g j k) *ℤ f j)) (λ j. sum_to p.nv (λ k. p.g i k *ℤ p.g j k) *ℤ f j) (λ j q. sum_to-scale_right p.nv (λ k. p.g i k *ℤ p.g j k) (f j))
