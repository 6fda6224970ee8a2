-- Which pairs of geoms are tested, and which of the two comes first. MuJoCo documentation, Computation: selection of collision pairs; that a parent is the one that the file names, that a dof moves one of the bodies, and the order are this project's own.
use Rattle.std.specs.Prelude.{ℕ, nat_lt, ◌==◌, bit_and, Bool, not, ◌&&◌, ◌||◌, List}
use Rattle.fx_whole.specs.Counting.{count_to}
use Rattle.mj_tree.specs.Tree.{moves}
use Rattle.mj_types.specs.declared.model.Model.{Model}
use Rattle.mj_types.specs.declared.parts.Body.{Body}
use Rattle.mj_types.specs.declared.parts.Geom.{Geom}
use Rattle.mj_types.specs.declared.parts.GeomKind.{GeomKind}
use Rattle.mj_types.specs.declared.parts.GeomKind.TheVariants as kind
use Rattle.mj_types.specs.Lawful.{is_plane}
use Rattle.mj_types.specs.Parts.{parent_of, body_of}

-- whether two masks have a bit in common
abbrev pub overlap : ℕ → ℕ → Bool
overlap m n = not (bit_and m n == 0)

abbrev pub may_touch : Geom → Geom → Bool
may_touch a b = overlap a.contype b.conaffinity || overlap b.contype a.conaffinity

-- whether body a is body b's parent, and not the world
abbrev pub is_parent : List Body → ℕ → ℕ → Bool
is_parent bodies a b = nat_lt 0 a && (parent_of bodies b == a)

abbrev pub are_linked : List Body → ℕ → ℕ → Bool
are_linked bodies a b = is_parent bodies a b || is_parent bodies b a

-- whether some dof moves a body
abbrev pub is_moved : Model → ℕ → Bool
is_moved m b = nat_lt 0 (count_to m.nv (λ d. moves (parent_of m.bodies) (body_of m.dofs) d b))

abbrev pub are_planes : Geom → Geom → Bool
are_planes a b = is_plane a.kind && is_plane b.kind

-- whether a pair is tested
abbrev pub is_tested : Model → Geom → Geom → Bool
is_tested m a b =
    may_touch a b && (not (a.body == b.body) && (not (are_linked m.bodies a.body b.body) && ((is_moved m a.body || is_moved m b.body) && not (are_planes a b))))

-- ---- planes come before spheres, and those before capsules
abbrev pub rank : GeomKind → ℕ
rank kind.Plane = 0
rank kind.Sphere = 1
rank kind.Capsule = 2

-- whether the later of two geoms is the first
abbrev pub is_turned : Geom → Geom → Bool
is_turned a b = nat_lt (rank b.kind) (rank a.kind)
