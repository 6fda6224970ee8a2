-- Which geoms may touch, and which of two comes first.
use Rattle.std.proofs.Common.{◌≡◌, ℕ, true, false, refl}
use Rattle.std.specs.Prelude.{nat_lt}
use Rattle.mj_types.specs.declared.parts.GeomKind.TheVariants as kind
use Rattle.mj_contact.specs.Filter.{overlap, rank}

-- 6 and 2 have a bit in common; 6 and 9, and 7 and 0, have none
common : overlap 6 2 ≡ true
common = refl

apart : overlap 6 9 ≡ false
apart = refl

none : overlap 7 0 ≡ false
none = refl

-- a plane comes before a sphere, and that before a capsule
plane_first : nat_lt (rank kind.Plane) (rank kind.Sphere) ≡ true
plane_first = refl

sphere_first : nat_lt (rank kind.Sphere) (rank kind.Capsule) ≡ true
sphere_first = refl
