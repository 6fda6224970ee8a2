-- Where the sum of two inertias fits its numbers, and where 64 bits suffice for them.
use Rattle.std.specs.Prelude.{◌^◌, ◌<◌, ◌+ℤ◌, unsigned_abs, FitsSigned}
use mir.Syntax.{w128}
use Rattle.fx_vec.specs.declared.inertia.Inertia10.{Inertia10}

-- each number of the sum fits
pub record SumFits (a b : Inertia10) : Type 0 where
  pub xx : FitsSigned w128 (a.xx +ℤ b.xx)
  pub xy : FitsSigned w128 (a.xy +ℤ b.xy)
  pub xz : FitsSigned w128 (a.xz +ℤ b.xz)
  pub yy : FitsSigned w128 (a.yy +ℤ b.yy)
  pub yz : FitsSigned w128 (a.yz +ℤ b.yz)
  pub zz : FitsSigned w128 (a.zz +ℤ b.zz)
  pub mx : FitsSigned w128 (a.mx +ℤ b.mx)
  pub my : FitsSigned w128 (a.my +ℤ b.my)
  pub mz : FitsSigned w128 (a.mz +ℤ b.mz)
  pub mass : FitsSigned w128 (a.mass +ℤ b.mass)

-- no number needs more than 64 bits
pub record IsShort (i : Inertia10) : Type 0 where
  pub xx : unsigned_abs i.xx < 2 ^ 63
  pub xy : unsigned_abs i.xy < 2 ^ 63
  pub xz : unsigned_abs i.xz < 2 ^ 63
  pub yy : unsigned_abs i.yy < 2 ^ 63
  pub yz : unsigned_abs i.yz < 2 ^ 63
  pub zz : unsigned_abs i.zz < 2 ^ 63
  pub mx : unsigned_abs i.mx < 2 ^ 63
  pub my : unsigned_abs i.my < 2 ^ 63
  pub mz : unsigned_abs i.mz < 2 ^ 63
  pub mass : unsigned_abs i.mass < 2 ^ 63
