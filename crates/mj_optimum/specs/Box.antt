-- A box around forces that holds each feasible force that costs no more than they. The certificate is this project's own.
use Rattle.std.specs.Prelude.{ℕ, zero, suc, ◌+◌, ◌*◌, ℤ, pos, ◌+ℤ◌, ◌-ℤ◌, ◌*ℤ◌, neg_ℤ, ◌≤ℤ◌, unsigned_abs, Bool, ◌&&◌, int_le, cond}
use Rattle.mj_optimum.specs.Problem.{Problem}
use Rattle.mj_optimum.specs.Cost.{gradient}
use Rattle.mj_optimum.specs.Shortfall.{shortfall, total_shortfall}
use Rattle.mj_optimum.specs.Sweep.{at_least, at_most}

-- what the rows other than i can gain
abbrev pub left_to : Problem → (ℕ → ℤ) → ℕ → ℤ
left_to p f i = total_shortfall p f -ℤ shortfall p f i

-- the step k is past the vertex of the parabola of slope g and width r, and the parabola is there at least t
pub record HasRisen (g r t : ℤ) (k : ℕ) : Type 0 where
  pub past : pos 0 ≤ℤ (r *ℤ pos k +ℤ g)
  pub high : t ≤ℤ (pos k *ℤ (pos 2 *ℤ g +ℤ r *ℤ pos k))

-- the same as a test
abbrev pub has_risen : ℤ → ℤ → ℤ → ℕ → Bool
has_risen g r t k = int_le (pos 0) (r *ℤ pos k +ℤ g) && int_le t (pos k *ℤ (pos 2 *ℤ g +ℤ r *ℤ pos k))

-- the least number up to n that passes a test; n where none does
abbrev pub least_to : ℕ → (ℕ → Bool) → ℕ
least_to zero test = zero
least_to (suc n) test = cond (test (least_to n test)) (least_to n test) (suc n)

-- the least such step: below this bound there is one, where r > 0
unfoldable pub rise : ℤ → ℤ → ℤ → ℕ
rise g r t = least_to (2 * unsigned_abs g + unsigned_abs t + 1) (has_risen g r t)

-- p and down of row i
abbrev pub rise_up : Problem → (ℕ → ℤ) → ℕ → ℕ
rise_up p f i = rise (gradient p f i) (p.r i) (left_to p f i)

abbrev pub rise_down : Problem → (ℕ → ℤ) → ℕ → ℕ
rise_down p f i = rise (neg_ℤ (gradient p f i)) (p.r i) (left_to p f i)

-- the box's ends at row i, clamped to its bounds
abbrev pub lo : Problem → (ℕ → ℤ) → ℕ → ℤ
lo p f i = at_least (p.low i) (f i -ℤ pos (rise_down p f i))

abbrev pub hi : Problem → (ℕ → ℤ) → ℕ → ℤ
hi p f i = at_most (p.high i) (f i +ℤ pos (rise_up p f i))
