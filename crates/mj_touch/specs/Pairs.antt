-- Where two geoms meet, by their kinds: the first is of the earlier kind of plane, sphere and capsule. A composition of the other files' definitions.
use Rattle.std.specs.Prelude.{ℤ}
use Rattle.mj_types.specs.declared.parts.GeomKind.{GeomKind}
use Rattle.mj_types.specs.declared.parts.GeomKind.TheVariants as kind
use Rattle.mj_touch.specs.declared.shape.Shape.{Shape}
use Rattle.mj_touch.specs.Solids.{Solid, solid_of}
use Rattle.mj_touch.specs.Meetings.{Meetings, none_met, one_met, standing}
use Rattle.mj_touch.specs.Balls.{balls}
use Rattle.mj_touch.specs.Planes.{plane_sphere, plane_capsule}
use Rattle.mj_touch.specs.Capsules.{sphere_capsule, capsule_capsule}

abbrev pub sphere_sphere : Solid → Solid → ℤ → Meetings
sphere_sphere a b margin = one_met (standing margin (balls a.center a.radius b.center b.radius))

abbrev pub meetings_by : GeomKind → GeomKind → Solid → Solid → ℤ → Meetings
meetings_by kind.Plane kind.Plane a b margin = none_met
meetings_by kind.Plane kind.Sphere a b margin = plane_sphere a b margin
meetings_by kind.Plane kind.Capsule a b margin = plane_capsule a b margin
meetings_by kind.Sphere kind.Plane a b margin = none_met
meetings_by kind.Sphere kind.Sphere a b margin = sphere_sphere a b margin
meetings_by kind.Sphere kind.Capsule a b margin = sphere_capsule a b margin
meetings_by kind.Capsule kind.Plane a b margin = none_met
meetings_by kind.Capsule kind.Sphere a b margin = none_met
meetings_by kind.Capsule kind.Capsule a b margin = capsule_capsule a b margin

abbrev pub meetings : Shape → Shape → ℤ → Meetings
meetings a b margin = meetings_by a.kind b.kind (solid_of a) (solid_of b) margin
