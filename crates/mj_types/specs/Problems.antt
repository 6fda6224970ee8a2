-- The problem that a dual states, and the room of a dual, of forces and of a certificate.
use Rattle.std.specs.Prelude.{◌≡◌, ℕ, ◌+◌, ◌*◌, ◌<◌, ◌≤◌, ℤ, length, slice_index_or}
use Rattle.mj_optimum.specs.Problem.{Problem}
use Rattle.mj_types.specs.declared.dual.Dual.{Dual}
use Rattle.mj_types.specs.declared.dual.Forces.{Forces}
use Rattle.mj_types.specs.declared.dual.Cert.{Cert}
use Rattle.mj_types.specs.Duals.{AreSolvable, problem_of}
use Rattle.mj_types.specs.Parts.{number_at}

abbrev pub problem : Dual → Problem
problem d = problem_of d.m d.nv d.g d.r d.b d.low d.high

-- what a solver asks of it
abbrev pub IsSolvable : Dual → Type 0
IsSolvable d = AreSolvable d.m d.nv d.g d.diag d.low d.high

-- the number of row i in the list of rows
abbrev pub place : Dual → ℕ → ℕ
place d i = slice_index_or d.place i 0

-- the raw forces of the rows
abbrev pub forces : Forces → ℕ → ℤ
forces x = number_at x.f

-- room for `rows` rows of `dofs` dofs
pub record HasRoom (rows dofs : ℕ) (d : Dual) : Type 0 where
  pub nv : d.nv ≡ dofs
  pub place : length d.place ≡ rows
  pub g : length d.g ≡ rows * dofs
  pub diag : length d.diag ≡ rows
  pub r : length d.r ≡ rows
  pub b : length d.b ≡ rows
  pub low : length d.low ≡ rows
  pub high : length d.high ≡ rows

-- room for one row more
pub record HasSpare (d : Dual) : Type 0 where
  pub few_rows : d.m < 1024
  pub place : d.m < length d.place
  pub g : (d.m + 1) * d.nv ≤ length d.g
  pub diag : d.m < length d.diag
  pub r : d.m < length d.r
  pub b : d.m < length d.b
  pub low : d.m < length d.low
  pub high : d.m < length d.high

-- duals of the same lengths
pub record HaveSameRoom (old new : Dual) : Type 0 where
  pub nv : new.nv ≡ old.nv
  pub place : length new.place ≡ length old.place
  pub g : length new.g ≡ length old.g
  pub diag : length new.diag ≡ length old.diag
  pub r : length new.r ≡ length old.r
  pub b : length new.b ≡ length old.b
  pub low : length new.low ≡ length old.low
  pub high : length new.high ≡ length old.high

pub record ForcesRoom (rows dofs : ℕ) (x : Forces) : Type 0 where
  pub f : length x.f ≡ rows
  pub u : length x.u ≡ dofs
  pub divisor : length x.divisor ≡ rows
  pub used : length x.used ≡ rows

pub record CertRoom (rows : ℕ) (c : Cert) : Type 0 where
  pub lo : length c.lo ≡ rows
  pub hi : length c.hi ≡ rows
  pub slope : length c.slope ≡ rows
  pub depth : length c.depth ≡ rows
