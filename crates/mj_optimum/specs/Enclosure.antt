-- What the certificate promises of all feasible rational forces, and the words that the laws are stated in.
use Rattle.std.specs.Prelude.{◌≡◌, ℕ, ◌<◌, ℤ, pos, ◌+ℤ◌, ◌-ℤ◌, ◌*ℤ◌, ◌<ℤ◌, ◌≤ℤ◌}
use Rattle.mj_optimum.specs.Problem.{Problem}
use Rattle.mj_optimum.specs.Feasible.{IsFeasible}
use Rattle.mj_optimum.specs.Cost.{cost}

-- every feasible force n / d costs at least x
abbrev pub BoundHolds : Problem → ℤ → Type 0
BoundHolds p x = (n : ℕ → ℤ) (d : ℤ) → pos 0 <ℤ d → IsFeasible p n d → ((d *ℤ d) *ℤ x) ≤ℤ cost p n d

-- the force n / d costs no more than f
abbrev pub CostsNoMore : Problem → (ℕ → ℤ) → ℤ → (ℕ → ℤ) → Type 0
CostsNoMore p n d f = cost p n d ≤ℤ ((d *ℤ d) *ℤ cost p f (pos 1))

-- x is from low to high, over d
pub record IsWithin (low high x d : ℤ) : Type 0 where
  pub above : (d *ℤ low) ≤ℤ x
  pub below : x ≤ℤ (d *ℤ high)

-- every feasible force that costs no more than f is within the box
abbrev pub BoxHolds : Problem → (ℕ → ℤ) → (ℕ → ℤ) → (ℕ → ℤ) → Type 0
BoxHolds p f low high = (n : ℕ → ℤ) (d : ℤ) → pos 0 <ℤ d → IsFeasible p n d → CostsNoMore p n d f → (i : ℕ) → i < p.m → IsWithin (low i) (high i) (n i) d

-- every feasible force that costs no more than f is f
abbrev pub IsOnly : Problem → (ℕ → ℤ) → Type 0
IsOnly p f = (n : ℕ → ℤ) (d : ℤ) → pos 0 <ℤ d → IsFeasible p n d → CostsNoMore p n d f → (i : ℕ) → i < p.m → n i ≡ d *ℤ f i

-- how far n / d is from f, times d
abbrev pub away : (ℕ → ℤ) → ℤ → (ℕ → ℤ) → ℕ → ℤ
away n d f i = n i -ℤ d *ℤ f i

-- by how much the cost changes where one force moves by s / d along slope g and width r, times d^2
abbrev pub parabola : ℤ → ℤ → ℤ → ℤ → ℤ
parabola g r s d = pos 2 *ℤ (d *ℤ (g *ℤ s)) +ℤ r *ℤ (s *ℤ s)
