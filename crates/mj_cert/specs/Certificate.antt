-- The numbers of a certificate, and the first of them that is out of its range. The certificate is this project's own.
use Rattle.std.specs.Prelude.{◌≡◌, ℕ, suc, ◌<◌, ℤ, pos, Option}
use Rattle.fx_whole.specs.First.{or_first, first_to}
use Rattle.mj_optimum.specs.Problem.{Problem}
use Rattle.mj_optimum.specs.Cost.{cost}
use Rattle.mj_optimum.specs.Shortfall.{bound2}
use Rattle.mj_optimum.specs.Box.{rise_up, rise_down, lo, hi}
use Rattle.mj_optimum.specs.Limits.{shortfall_limit, shortfall_to, box_limit, where_open}
use Rattle.mj_types.specs.declared.dual.Dual.{Dual}
use Rattle.mj_types.specs.declared.dual.Forces.{Forces}
use Rattle.mj_types.specs.declared.dual.Cert.{Cert}
use Rattle.mj_types.specs.declared.range.OutOfRange.{OutOfRange}
use Rattle.mj_types.specs.declared.range.Quantity.TheVariants as kind
use Rattle.mj_types.specs.Parts.{number_at}
use Rattle.mj_types.specs.Problems.{problem, forces, place}
use Rattle.mj_types.specs.Ranges.{limited}

-- ---- the first number out of range, of forces f of a problem; `place` numbers the rows
-- of row i: the sum of the shortfalls so far
abbrev pub shortfall_fault : Problem → (ℕ → ℕ) → (ℕ → ℤ) → ℕ → Option OutOfRange
shortfall_fault p place f i = limited kind.Shortfall (place i) shortfall_limit (shortfall_to p f (suc i))

-- how far the box goes up, and then down, where no bound ends it
abbrev pub box_fault : Problem → (ℕ → ℕ) → (ℕ → ℤ) → ℕ → Option OutOfRange
box_fault p place f i =
    or_first
    (limited kind.Box (place i) box_limit (pos (where_open (p.high i) (rise_up p f i))))
    (limited kind.Box (place i) box_limit (pos (where_open (p.low i) (rise_down p f i))))

-- all shortfalls, and then the box
abbrev pub certificate_fault : Problem → (ℕ → ℕ) → (ℕ → ℤ) → Option OutOfRange
certificate_fault p place f = or_first (first_to p.m (shortfall_fault p place f)) (first_to p.m (box_fault p place f))

-- ---- the same of a dual
abbrev pub shortfall_out : Dual → Forces → ℕ → Option OutOfRange
shortfall_out d x = shortfall_fault (problem d) (place d) (forces x)

abbrev pub box_out : Dual → Forces → ℕ → Option OutOfRange
box_out d x = box_fault (problem d) (place d) (forces x)

abbrev pub certificate_out : Dual → Forces → Option OutOfRange
certificate_out d x = certificate_fault (problem d) (place d) (forces x)

-- the numbers of a certificate
pub record IsCertificate (d : Dual) (x : Forces) (c : Cert) : Type 0 where
  pub cost : c.cost2 ≡ cost (problem d) (forces x) (pos 1)
  pub bound : c.bound2 ≡ bound2 (problem d) (forces x)
  pub low : (i : ℕ) → i < d.m → number_at c.lo i ≡ lo (problem d) (forces x) i
  pub high : (i : ℕ) → i < d.m → number_at c.hi i ≡ hi (problem d) (forces x) i
