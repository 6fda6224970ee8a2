-- Keys whose value is one of a few, ranges, and the sizes of geoms.
use Rattle.std.specs.Prelude.{ℕ, ◌^◌, ℤ, pos, Bool, true, ◌&&◌, ◌||◌, nat_le, int_lt, unsigned_abs, if◌then◌else◌, List, [], length, codes, bytes_eq, Option, Some, None, Ok, Err}
use Rattle.std.specs.Ordering.{int_eq}
use Rattle.mj_types.specs.Parts.{plain}
use Rattle.mj_types.specs.declared.parts.Range.{Range}
use Rattle.mj_types.specs.declared.parts.JointKind.{JointKind}
use Rattle.mj_types.specs.declared.parts.JointKind.TheVariants as joint_kind
use Rattle.mj_types.specs.declared.parts.GeomKind.{GeomKind}
use Rattle.mj_types.specs.declared.parts.GeomKind.TheVariants as geom_kind
use Rattle.mj_types.specs.declared.status.ModelCode.TheVariants as code
use Rattle.mj_form.specs.Reading.{◌>>◌}
use Rattle.mj_judge.specs.Judged.{Judged, unless}
use Rattle.mj_judge.specs.Numbers.{Fix, entry, is_small, is_between}
use Rattle.mj_judge.specs.declared.choices.Extent.{Extent}

-- the only text that a key may have
unfoldable pub only_text : List ℕ → List ℕ → Judged (Unit {0})
only_text known text = unless (bytes_eq text known) code.BadRange

-- the number of a format: 1 or 2
unfoldable pub format : ℤ → Judged ℕ
format n = if is_between (pos 1) (pos 2) n then Ok (unsigned_abs n) else Err code.BadRange

-- 1 or 3
unfoldable pub condim : ℤ → Judged ℕ
condim n = if int_eq n (pos 1) || int_eq n (pos 3) then Ok (unsigned_abs n) else Err code.BadRange

-- the type of a joint, if it is one of the four
abbrev pub joint_type : List ℕ → Option JointKind
joint_type text = if bytes_eq text (codes "free") then Some joint_kind.Free
    else (if bytes_eq text (codes "ball") then Some joint_kind.Ball
    else (if bytes_eq text (codes "hinge") then Some joint_kind.Hinge
    else (if bytes_eq text (codes "slide") then Some joint_kind.Slide else None)))

-- the type of a geom, if it is one of the three
abbrev pub geom_type : List ℕ → Option GeomKind
geom_type text = if bytes_eq text (codes "plane") then Some geom_kind.Plane
    else (if bytes_eq text (codes "sphere") then Some geom_kind.Sphere
    else (if bytes_eq text (codes "capsule") then Some geom_kind.Capsule else None))

abbrev pub alone : Bool → JointKind → Judged JointKind
alone may joint_kind.Free = if may then Ok joint_kind.Free else Err code.FreeJoint
alone may joint_kind.Ball = Ok joint_kind.Ball
alone may joint_kind.Hinge = Ok joint_kind.Hinge
alone may joint_kind.Slide = Ok joint_kind.Slide

abbrev pub known_joint : Bool → Option JointKind → Judged JointKind
known_joint may None = Err code.BadRange
known_joint may (Some kind) = alone may kind

-- a joint's type, where it is known whether the joint may be free
unfoldable pub joint_kind_of : Bool → List ℕ → Judged JointKind
joint_kind_of may text = known_joint may (joint_type text)

abbrev pub grounded : Bool → GeomKind → Judged GeomKind
grounded may geom_kind.Plane = if may then Ok geom_kind.Plane else Err code.PlaneOffWorld
grounded may geom_kind.Sphere = Ok geom_kind.Sphere
grounded may geom_kind.Capsule = Ok geom_kind.Capsule

abbrev pub known_geom : Bool → Option GeomKind → Judged GeomKind
known_geom may None = Err code.BadRange
known_geom may (Some kind) = grounded may kind

-- a geom's type, where it is known whether the geom is the world's
unfoldable pub geom_kind_of : Bool → List ℕ → Judged GeomKind
geom_kind_of may text = known_geom may (geom_type text)

-- two numbers of at most that size, the first below the second
abbrev pub range_of : List (Fix 32) → Range
range_of xs = record { least = entry xs 0; greatest = entry xs 1 }

abbrev pub ends : ℕ → Range → Judged (Option Range)
ends limit r = unless (is_small limit r.least.mid && is_small limit r.greatest.mid) code.LimitPassed
    >> (if int_lt r.least.mid r.greatest.mid then Ok (Some r) else Err code.BadRange)

-- a range where there is one
unfoldable pub range : ℕ → Option (List (Fix 32)) → Judged (Option Range)
range limit None = Ok None
range limit (Some xs) = ends limit (range_of xs)

-- how many numbers a type of geom uses: a radius, and for a capsule half its length
abbrev pub used : GeomKind → ℕ
used geom_kind.Plane = 0
used geom_kind.Sphere = 1
used geom_kind.Capsule = 2

abbrev pub is_size : ℤ → Bool
is_size n = is_between (pos 1) (pos (2 ^ 42)) n

-- what stands at a place is a size, or nothing stands there
abbrev pub is_size_at : List (Fix 32) → ℕ → Bool
is_size_at xs i = nat_le (length xs) i || is_size (entry xs i).mid

-- the numbers that are used, where they are there
abbrev pub are_sizes : GeomKind → List (Fix 32) → Bool
are_sizes geom_kind.Plane xs = true
are_sizes geom_kind.Sphere xs = is_size_at xs 0
are_sizes geom_kind.Capsule xs = is_size_at xs 0 && is_size_at xs 1

abbrev pub no_extent : Extent
no_extent = record { radius = plain (pos 0); half = plain (pos 0) }

abbrev pub extent_of : GeomKind → List (Fix 32) → Extent
extent_of geom_kind.Plane xs = no_extent
extent_of geom_kind.Sphere xs = record { radius = entry xs 0; half = plain (pos 0) }
extent_of geom_kind.Capsule xs = record { radius = entry xs 0; half = entry xs 1 }

-- the sizes that a geom of this type uses: a number out of range comes before one that is missing
unfoldable pub sized : GeomKind → List (Fix 32) → Judged Extent
sized kind xs = unless (are_sizes kind xs) code.LimitPassed
    >> (if nat_le (used kind) (length xs) then Ok (extent_of kind xs) else Err code.BadRange)

abbrev pub given : Option (List (Fix 32)) → List (Fix 32)
given None = []
given (Some xs) = xs

unfoldable pub size : GeomKind → Option (List (Fix 32)) → Judged Extent
size kind xs = sized kind (given xs)
