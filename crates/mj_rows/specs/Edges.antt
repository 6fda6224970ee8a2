-- The edges of a contact's friction pyramid: along its normal, tilted towards each tangent by the friction. MuJoCo documentation,
-- Computation, constraints: pyramidal friction cones; the rounding is this project's own.
use Rattle.std.specs.Prelude.{ℕ, ◌+◌, ◌-◌, ◌^◌, ◌==◌, Bool, cond, ℤ, pos, ◌+ℤ◌, ◌-ℤ◌, ◌*ℤ◌, List, [], ◌∷◌}
use Rattle.fx_whole.specs.Entries.{below}
use Rattle.fx_whole.specs.Joined.{joined}
use Rattle.fx_whole.specs.Sums.{when}
use Rattle.fx_num.specs.Settled.{settled_mid}
use Rattle.fx_vec.specs.Vectors.{Triple, cross, minus, plus, times}
use Rattle.fx_vec.specs.Spatial.{Spatial}
use Rattle.fx_vec.specs.Settling.{settled3, along}
use Rattle.fx_vec.specs.Views.{mids}
use Rattle.mj_tree.specs.Tree.{moves}
use Rattle.mj_types.specs.declared.carriers.Contact.{Contact}
use Rattle.mj_types.specs.declared.model.Model.{Model}
use Rattle.mj_types.specs.declared.parts.Geom.{Geom}
use Rattle.mj_types.specs.declared.rows.Source.TheVariants as source
use Rattle.mj_types.specs.Parts.{body, dof, parent_of, body_of}
use Rattle.mj_types.specs.Placed.{Placing}
use Rattle.mj_contact.specs.Lists.{margin}
use Rattle.mj_rows.specs.Constraint.{Constraint, pushing}
use Rattle.mj_rows.specs.Mixing.{first_geom, second_geom, friction, is_frictionless, mixed}

-- ---- how dofs move its two geoms apart
-- the velocity of a point that moves with s, from its place about the point that s is about
unfoldable pub velocity_of : Spatial ℤ → Triple ℤ → Triple ℤ
velocity_of s arm = settled3 (plus (times (pos (2 ^ 32)) s.lin) (cross s.ang arm)) 32

-- the reference point of a dof's tree: where the tree's root body is
abbrev pub reference_of : Model → Placing → ℕ → Triple ℤ
reference_of m x d = x.position ((body m.bodies ((dof m.dofs d).body - 1)).root - 1)

-- the velocity that a unit velocity of dof d gives to a contact's point, where it moves it
abbrev pub lever_of : Model → Placing → Contact → ℕ → Triple ℤ
lever_of m x c d = velocity_of (x.column d) (minus (mids c.point) (reference_of m x d))

abbrev pub does_move : Model → ℕ → Geom → Bool
does_move m d g = moves (parent_of m.bodies) (body_of m.dofs) d g.body

-- what the second geom moves by more than the first, where the one that moves does so by n
abbrev pub apart : Bool → Bool → ℤ → ℤ
apart first second n = when second n -ℤ when first n

abbrev pub slope_along : Model → Placing → Contact → Triple ℤ → ℕ → ℤ
slope_along m x c n d = apart (does_move m d (first_geom m c)) (does_move m d (second_geom m c)) (along n (lever_of m x c d))

-- ---- the edges of the contact at place k
-- how much a tangent's slope tilts an edge
abbrev pub tilt : ℤ → ℤ → ℤ
tilt friction t = settled_mid (friction *ℤ t) 32

-- edge 0 is the normal alone; 1 and 2 are tilted along the first tangent, 3 and 4 along the second
abbrev pub edge_slope : ℤ → ℤ → ℤ → ℤ → ℕ → ℤ
edge_slope friction n t1 t2 edge =
    cond (edge == 0) n
    (cond (edge == 1) (n +ℤ tilt friction t1)
    (cond (edge == 2) (n -ℤ tilt friction t1)
    (cond (edge == 3) (n +ℤ tilt friction t2) (n -ℤ tilt friction t2))))

abbrev pub edge_jacobian : Model → Placing → Contact → ℕ → ℕ → ℤ
edge_jacobian m x c edge =
    below (pos 0) m.nv (λ d. edge_slope (friction (first_geom m c) (second_geom m c))
    (slope_along m x c (mids c.normal) d) (slope_along m x c (mids c.t1) d) (slope_along m x c (mids c.t2) d) edge)

unfoldable pub edge_of : Model → Placing → Contact → ℕ → ℕ → Constraint
edge_of m x c k edge =
    pushing (source.Contact (k + 1) edge) (c.dist.mid -ℤ margin (first_geom m c) (second_geom m c))
    (mixed (first_geom m c).soft (second_geom m c).soft) (lever_of m x c) (edge_jacobian m x c edge)

-- one edge without friction, which is edge 0, and four with it, from edge 1 on
abbrev pub edge_count : Model → Contact → ℕ
edge_count m c = cond (is_frictionless (first_geom m c) (second_geom m c)) 1 4

abbrev pub first_edge : Model → Contact → ℕ
first_edge m c = cond (is_frictionless (first_geom m c) (second_geom m c)) 0 1

abbrev pub edges : Model → Placing → Contact → ℕ → List Constraint
edges m x c k = joined (edge_count m c) (λ i. edge_of m x c k (first_edge m c + i) ∷ [])
