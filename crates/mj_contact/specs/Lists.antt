-- The ordered list of contacts: over the tested pairs of geoms in lexicographic order, each pair's contacts. A rule of this project's own.
use Rattle.std.specs.Prelude.{ℕ, ◌+◌, ◌-◌, nat_le, ℤ, int_lt, cond, List, [], ◌∷◌, ◌++◌, length, Option, Some, None}
use Rattle.fx_whole.specs.Joined.{joined}
use Rattle.fx_vec.specs.Vectors.{Triple}
use Rattle.fx_vec.specs.Quaternions.{Quaternion}
use Rattle.fx_vec.specs.declared.vector.Vector3.{Vector3}
use Rattle.fx_vec.specs.declared.vector.Q4.{Q4}
use Rattle.mj_types.specs.declared.model.Model.{Model}
use Rattle.mj_types.specs.declared.carriers.Contact.{Contact}
use Rattle.mj_types.specs.declared.parts.Geom.{Geom}
use Rattle.mj_types.specs.declared.range.OutOfRange.{OutOfRange}
use Rattle.mj_types.specs.declared.range.Quantity.TheVariants as kind
use Rattle.mj_types.specs.Parts.{plain, geom}
use Rattle.mj_types.specs.Placed.{Placing}
use Rattle.mj_types.specs.Ranges.{unless}
use Rattle.mj_touch.specs.declared.shape.Shape.{Shape}
use Rattle.mj_touch.specs.Meetings.{Meeting, Meetings}
use Rattle.mj_touch.specs.Pairs.{meetings}
use Rattle.mj_touch.specs.Tangents.{first_tangent, second_tangent}
use Rattle.mj_contact.specs.Filter.{is_tested, is_turned}

-- numbers as the code has them
abbrev pub vector : Triple ℤ → Vector3 (Unit {0}) 32
vector v = record { x = plain v.x; y = plain v.y; z = plain v.z }

abbrev pub turned_as : Quaternion → Q4
turned_as q = record { w = plain q.w; x = plain q.x; y = plain q.y; z = plain q.z }

-- geom g in its place
abbrev pub shape_at : Model → Placing → ℕ → Shape
shape_at m x g = record {
  kind = (geom m.geoms g).kind;
  center = vector (x.geom_position g);
  turn = turned_as (x.geom_orientation g);
  radius = (geom m.geoms g).radius;
  half = (geom m.geoms g).half;
}

abbrev pub larger : ℤ → ℤ → ℤ
larger x y = cond (int_lt x y) y x

abbrev pub margin : Geom → Geom → ℤ
margin a b = larger a.margin.mid b.margin.mid

-- ---- contacts, which number geoms from 1
abbrev pub contact_of : ℕ → ℕ → Meeting → Contact
contact_of a b m = record {
  a = a + 1;
  b = b + 1;
  dist = plain m.dist;
  point = vector m.point;
  normal = vector m.normal;
  t1 = vector (first_tangent m.normal);
  t2 = vector (second_tangent m.normal);
}

abbrev pub listed : ℕ → ℕ → Option Meeting → List Contact
listed a b None = []
listed a b (Some m) = contact_of a b m ∷ []

abbrev pub all_listed : ℕ → ℕ → Meetings → List Contact
all_listed a b ms = listed a b ms.first ++ listed a b ms.second

-- of the geoms at the places a and b, where a's is the first of the two
unfoldable pub found_in_order : Model → Placing → ℕ → ℕ → List Contact
found_in_order m x a b = all_listed a b (meetings (shape_at m x a) (shape_at m x b) (margin (geom m.geoms a) (geom m.geoms b)))

-- in either order
abbrev pub found_turned : Model → Placing → ℕ → ℕ → List Contact
found_turned m x a b = cond (is_turned (geom m.geoms a) (geom m.geoms b)) (found_in_order m x b a) (found_in_order m x a b)

abbrev pub found : Model → Placing → ℕ → ℕ → List Contact
found m x a b = cond (is_tested m (geom m.geoms a) (geom m.geoms b)) (found_turned m x a b) []

-- of the geom at place a with each later one
abbrev pub found_with_later : Model → Placing → ℕ → List Contact
found_with_later m x a = joined (length m.geoms - (a + 1)) (λ i. found m x a (a + 1 + i))

abbrev pub contact_list : Model → Placing → List Contact
contact_list m x = joined (length m.geoms) (found_with_later m x)

-- ---- the fault: there are more than njmax
abbrev pub rows_out : ℕ → ℕ → Option OutOfRange
rows_out most count = unless (nat_le count most) kind.Rows (most + 1)

abbrev pub contacts_fault : Model → Placing → Option OutOfRange
contacts_fault m x = rows_out m.njmax (length (contact_list m x))
