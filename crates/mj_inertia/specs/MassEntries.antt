-- The mass matrix in the space of dofs: M_ij = S_i . h_j, where h_j is the momentum that a unit velocity of dof j gives all bodies
-- that it moves. Featherstone, Rigid Body Dynamics Algorithms, chapter 6; scales, rounding, radii and ranges are this project's own.
use Rattle.std.specs.Prelude.{◌≡◌, ◌<◌, List, ℕ, suc, ◌+◌, ◌-◌, ◌^◌, ◌==◌, Bool, ◌&&◌, ◌||◌, cond, ℤ, pos, ◌+ℤ◌, ◌*ℤ◌, Option, None, length}
use Rattle.fx_whole.specs.Adding.{sum_in, when_in, integers}
use Rattle.fx_whole.specs.First.{or_first, first_to}
use Rattle.fx_whole.specs.Sums.{when}
use Rattle.fx_num.specs.Settled.{settled_mid, rounding_loss}
use Rattle.fx_near.specs.Widths.{settled_radius}
use Rattle.fx_vec.specs.Vectors.{Triple}
use Rattle.fx_vec.specs.Spatial.{Spatial, Inertia, pair, inertia_times}
use Rattle.fx_vec.specs.Settling.{settled6, radii6}
use Rattle.fx_vec.specs.Sizes.{Within6, no_size6}
use Rattle.fx_vec.specs.Sums.{vectors}
use Rattle.fx_vec.specs.Widths.{pair_width}
use Rattle.fx_vec.specs.declared.vector.Vector6.{Vector6}
use Rattle.mj_tree.specs.Tree.{moves}
use Rattle.mj_types.specs.declared.model.Model.{Model}
use Rattle.mj_types.specs.declared.range.OutOfRange.{OutOfRange}
use Rattle.mj_types.specs.declared.range.Quantity.TheVariants as kind
use Rattle.mj_types.specs.Forests.{above_in}
use Rattle.mj_types.specs.Parts.{parent_of, body_of, dof, joint}
use Rattle.mj_types.specs.Placed.{spatial_at}
use Rattle.mj_types.specs.Ranges.{unless, limited, is_within}

-- a column for each dof, of the size that frames keep
pub record AreColumns (m : Model) (column : List (Vector6 (Unit {0}) 32)) : Type 0 where
  pub many : length column ≡ m.nv
  pub small : (d : ℕ) → d < m.nv → Within6 (spatial_at column d) (2 ^ 42)

-- by their places, from 0: whether dof j moves body k
abbrev pub moves_in : Model → ℕ → ℕ → Bool
moves_in m j k = moves (parent_of m.bodies) (body_of m.dofs) j (suc k)

-- the sum of I_k S_j over all bodies k that dof j moves, exact at scale 72
unfoldable pub momentum_sum : Model → (ℕ → Spatial ℤ) → (ℕ → Inertia) → ℕ → Spatial ℤ
momentum_sum m column inertia j = sum_in vectors (length m.bodies) (λ k. when_in vectors (moves_in m j k) (inertia_times (inertia k) (column j)))

-- h_j from that sum: rounded to scale 40, and its radius
unfoldable pub momentum : Spatial ℤ → Spatial ℤ
momentum sum = settled6 sum 32

unfoldable pub momentum_radius : Spatial ℤ → Spatial ℕ
momentum_radius sum = radii6 settled_radius sum no_size6 32

-- S_i . h_j, rounded to scale 40, and its radius where h_j has the radius r
unfoldable pub rounded_product : Spatial ℤ → Spatial ℤ → ℤ
rounded_product column h = settled_mid (pair column h) 32

unfoldable pub rounded_radius : Spatial ℤ → Spatial ℤ → Spatial ℕ → ℕ
rounded_radius column h r = settled_radius (pair_width column no_size6 h r) (rounding_loss (pair column h) 32) 32

-- the armature of dof j's joint where i is j
abbrev pub armature : Model → ℕ → ℕ → ℤ
armature m i j = when (i == j) (joint m.joints ((dof m.dofs j).joint - 1)).armature.mid

-- ---- M_ij for i above j or i = j, from S_i and h_j
abbrev pub joins : Model → ℕ → ℕ → Bool
joins m i j = i == j || above_in m i j

abbrev pub entry : Model → Spatial ℤ → Spatial ℤ → ℕ → ℕ → ℤ
entry m s h i j = rounded_product s h +ℤ armature m i j

-- ---- all of M: it is symmetric, and `none` where neither dof is above the other
abbrev pub mirrored : {A : Type 0} → (ℕ → ℕ → Bool) → A → (ℕ → ℕ → A) → ℕ → ℕ → A
mirrored joins none f i j = cond (joins i j) (f i j) (cond (joins j i) (f j i) none)

-- of the sum of each dof's momentum
abbrev pub mass_from : Model → (ℕ → Spatial ℤ) → (ℕ → Spatial ℤ) → ℕ → ℕ → ℤ
mass_from m column sums = mirrored (joins m) (pos 0) (λ i j. entry m (column i) (momentum (sums j)) i j)

abbrev pub radius_from : Model → (ℕ → Spatial ℤ) → (ℕ → Spatial ℤ) → ℕ → ℕ → ℕ
radius_from m column sums = mirrored (joins m) 0 (λ i j. rounded_radius (column i) (momentum (sums j)) (momentum_radius (sums j)))

unfoldable pub mass : Model → (ℕ → Spatial ℤ) → (ℕ → Inertia) → ℕ → ℕ → ℤ
mass m column inertia = mass_from m column (momentum_sum m column inertia)

unfoldable pub mass_radius : Model → (ℕ → Spatial ℤ) → (ℕ → Inertia) → ℕ → ℕ → ℕ
mass_radius m column inertia = radius_from m column (momentum_sum m column inertia)

-- ---- the first number out of range: dof after dof, h_j and then M_ij for i from the first; radii aren't judged
abbrev pub is_within3 : ℕ → Triple ℤ → Bool
is_within3 limit v = is_within limit v.x && (is_within limit v.y && is_within limit v.z)

unfoldable pub momentum_fault : Spatial ℤ → ℕ → Option OutOfRange
momentum_fault sum j = unless (is_within3 (2 ^ 62) (momentum sum).ang && is_within3 (2 ^ 62) (momentum sum).lin) kind.Momentum (j + 1)

abbrev pub entry_fault : Model → (ℕ → Spatial ℤ) → Spatial ℤ → ℕ → ℕ → Option OutOfRange
entry_fault m column h j i = cond (joins m i j) (limited kind.Mass (j + 1) (2 ^ 60) (entry m (column i) h i j)) None

abbrev pub dof_fault : Model → (ℕ → Spatial ℤ) → (ℕ → Spatial ℤ) → ℕ → Option OutOfRange
dof_fault m column sums j = or_first (momentum_fault (sums j) j) (first_to (j + 1) (entry_fault m column (momentum (sums j)) j))

unfoldable pub mass_fault : Model → (ℕ → Spatial ℤ) → (ℕ → Inertia) → Option OutOfRange
mass_fault m column inertia = first_to m.nv (dof_fault m column (momentum_sum m column inertia))

-- ---- with no rounding at all, at scale 104, for i above j or i = j: the sum of S_i . (I_k S_j) over the same bodies, and the armature
unfoldable pub unrounded : Model → (ℕ → Spatial ℤ) → (ℕ → Inertia) → ℕ → ℕ → ℤ
unrounded m column inertia i j =
    sum_in integers (length m.bodies) (λ k. when_in integers (moves_in m j k) (pair (column i) (inertia_times (inertia k) (column j))))
    +ℤ armature m i j *ℤ pos (2 ^ 64)
