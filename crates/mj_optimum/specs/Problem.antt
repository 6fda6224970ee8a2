-- The dual problem of the contact forces: a quadratic cost of one force a row, each within its bounds. MuJoCo documentation, Computation chapter.
use Rattle.std.specs.Prelude.{ℕ, ◌<◌, ℤ, pos, ◌<ℤ◌, Option}

-- g is at 2^-24, r at 2^-48, b at 2^-32; a force and its bounds are at 2^-20. A bound may be missing
pub record Problem : Type 0 where
  -- how many rows and dofs there are
  pub m : ℕ
  pub nv : ℕ
  -- row i of G = J L^-T D^-1/2, whose products with one another are the rows' inverse inertia A
  pub g : ℕ → ℕ → ℤ
  -- the regularizer and the right side
  pub r : ℕ → ℤ
  pub b : ℕ → ℤ
  pub low : ℕ → Option ℤ
  pub high : ℕ → Option ℤ

-- each row's regularizer is above 0
abbrev pub IsRegular : Problem → Type 0
IsRegular p = (i : ℕ) → i < p.m → pos 0 <ℤ p.r i
