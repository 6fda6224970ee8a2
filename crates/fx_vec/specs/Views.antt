-- What the vectors of the code stand for: their numbers, and beside them their radii as naturals.
use Rattle.std.specs.Prelude.{ℕ, ℤ}
use Rattle.fx_vec.specs.Vectors.{Triple}
use Rattle.fx_vec.specs.Spatial.{Spatial, Inertia}
use Rattle.fx_vec.specs.declared.vector.Vector3.{Vector3}
use Rattle.fx_vec.specs.declared.vector.Vector6.{Vector6}
use Rattle.fx_vec.specs.declared.vector.Total3.{Total3}
use Rattle.fx_vec.specs.declared.vector.Total6.{Total6}
use Rattle.fx_vec.specs.declared.inertia.Inertia10.{Inertia10}

-- the numbers of a vector
abbrev pub mids : {R : Type 0} {F : ℕ} → Vector3 R F → Triple ℤ
mids v = record { x = v.x.mid; y = v.y.mid; z = v.z.mid }

-- its radii, by the kind's reading of them
abbrev pub radii : {R : Type 0} {F : ℕ} → (R → ℕ) → Vector3 R F → Triple ℕ
radii width v = record { x = width v.x.rad; y = width v.y.rad; z = width v.z.rad }

-- the numbers of three sums
abbrev pub sums : {W : Type 0} {P : ℕ} → Total3 W P → Triple ℤ
sums v = record { x = v.x.mid; y = v.y.mid; z = v.z.mid }

-- and their widths
abbrev pub widths : {W : Type 0} {P : ℕ} → (W → ℕ) → Total3 W P → Triple ℕ
widths width v = record { x = width v.x.rad; y = width v.y.rad; z = width v.z.rad }

abbrev pub spatial : {R : Type 0} {F : ℕ} → Vector6 R F → Spatial ℤ
spatial s = record { ang = mids s.ang; lin = mids s.lin }

abbrev pub spatial_radii : {R : Type 0} {F : ℕ} → (R → ℕ) → Vector6 R F → Spatial ℕ
spatial_radii width s = record { ang = radii width s.ang; lin = radii width s.lin }

-- the numbers of six sums, and their widths
abbrev pub spatial_sums : {W : Type 0} {P : ℕ} → Total6 W P → Spatial ℤ
spatial_sums s = record { ang = sums s.ang; lin = sums s.lin }

abbrev pub spatial_widths : {W : Type 0} {P : ℕ} → (W → ℕ) → Total6 W P → Spatial ℕ
spatial_widths width s = record { ang = widths width s.ang; lin = widths width s.lin }

-- a body's inertia from its ten numbers
abbrev pub inertia : Inertia10 → Inertia
inertia i = record {
  row_x = record { x = i.xx; y = i.xy; z = i.xz };
  row_y = record { x = i.xy; y = i.yy; z = i.yz };
  row_z = record { x = i.xz; y = i.yz; z = i.zz };
  moment = record { x = i.mx; y = i.my; z = i.mz };
  mass = i.mass;
}
