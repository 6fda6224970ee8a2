-- A spatial vector with its radii or widths, as one value, and what is made of such vectors. A rule of this project's own.
use Rattle.std.specs.Prelude.{ℕ, zero, suc, ℤ, List, [], ◌∷◌, Option}
use Rattle.fx_vec.specs.Spatial.{Spatial, Inertia, no_spatial, plus6, times6, motion_cross, force_cross, inertia_times}
use Rattle.fx_vec.specs.Settling.{settled6, radii6, over6}
use Rattle.fx_vec.specs.Sizes.{Within6, Below6, no_size6, plus6_size}
use Rattle.fx_vec.specs.Views.{spatial, spatial_radii, spatial_sums, spatial_widths}
use Rattle.fx_vec.specs.Widths.{times6_width, motion_cross_width, force_cross_width, inertia_width}
use Rattle.fx_vec.specs.declared.vector.Vector6.{Vector6}
use Rattle.fx_vec.specs.declared.vector.Total6.{Total6}
use Rattle.mj_types.specs.declared.range.OutOfRange.{OutOfRange}
use Rattle.mj_types.specs.declared.range.Quantity.{Quantity}
use Rattle.mj_types.specs.Ranges.{named}
use Rattle.mj_bias.specs.Radii.{Rule}

pub record Measured : Type 0 where
  pub value : Spatial ℤ
  pub width : Spatial ℕ

abbrev pub measured : Spatial ℤ → Spatial ℕ → Measured
measured s w = record { value = s; width = w }

-- an exact vector, and the empty sum
abbrev pub exact : Spatial ℤ → Measured
exact s = measured s no_size6

abbrev pub no_measure : Measured
no_measure = exact no_spatial

-- ---- what the vectors of the code stand for
abbrev pub numbers : {R : Type 0} {F : ℕ} → (R → ℕ) → Vector6 R F → Measured
numbers width v = measured (spatial v) (spatial_radii width v)

abbrev pub totals : {W : Type 0} {P : ℕ} → (W → ℕ) → Total6 W P → Measured
totals wide s = measured (spatial_sums s) (spatial_widths wide s)

-- the place i of a list, and `none` past its end
unfoldable pub seen : {A B : Type 0} → (A → B) → B → List A → ℕ → B
seen read none [] i = none
seen read none (x ∷ xs) zero = read x
seen read none (x ∷ xs) (suc i) = seen read none xs i

abbrev pub numbers_at : {R : Type 0} {F : ℕ} → (R → ℕ) → List (Vector6 R F) → ℕ → Measured
numbers_at width xs = seen (numbers width) no_measure xs

abbrev pub totals_at : {W : Type 0} {P : ℕ} → (W → ℕ) → List (Total6 W P) → ℕ → Measured
totals_at wide xs = seen (totals wide) no_measure xs

-- ---- what is made of them
abbrev pub sum_of : Measured → Measured → Measured
sum_of a b = measured (plus6 a.value b.value) (plus6_size a.width b.width)

-- an exact number times a vector
abbrev pub multiple : ℤ → Measured → Measured
multiple k s = measured (times6 k s.value) (times6_width k 0 s.value s.width)

abbrev pub motion_rate : Measured → Measured → Measured
motion_rate v s = measured (motion_cross v.value s.value) (motion_cross_width v.value v.width s.value s.width)

abbrev pub force_rate : Measured → Measured → Measured
force_rate v f = measured (force_cross v.value f.value) (force_cross_width v.value v.width f.value f.width)

abbrev pub momentum_of : Inertia → Measured → Measured
momentum_of i s = measured (inertia_times i s.value) (inertia_width i s.width)

abbrev pub settled_by : Rule → ℕ → Measured → Measured
settled_by rule shift s = measured (settled6 s.value shift) (radii6 rule s.value s.width shift)

-- ---- how large they are
pub record IsWithin (s : Measured) (limit width : ℕ) : Type 0 where
  pub value_ : Within6 s.value limit
  pub width_ : Below6 s.width width

-- the same of the widths alone
pub record IsNarrow (s : Measured) (width : ℕ) : Type 0 where
  pub width_ : Below6 s.width width

-- its fault: of six numbers the first that passes a limit, each value before its radius
abbrev pub measure_fault : Quantity → ℕ → ℕ → Measured → Option OutOfRange
measure_fault what index limit s = named what index (over6 limit s.value s.width)
