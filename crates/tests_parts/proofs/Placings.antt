-- Joints, columns, inertias and lengths.
use Rattle.std.proofs.Common.{◌≡◌, ℕ, ◌^◌, ℤ, pos, Some, None, refl, sym, ap, arith}
use Rattle.std.proofs.lemmas.Int.{ints}
use Rattle.fx_whole.specs.Nearest.{nearest}
use Rattle.fx_whole.proofs.RootLaws.{isqrt-unique}
use Rattle.fx_vec.specs.Quaternions.{Quaternion}
use Rattle.fx_vec.specs.Spatial.{Inertia, Spatial}
use Rattle.fx_vec.specs.Vectors.{Triple, no_vector}
use Rattle.mj_quat.specs.Rotation.{is_inside, matrix, product, quaternion_length, row_x, row_y, row_z}
use Rattle.mj_types.specs.declared.parts.JointKind.TheVariants as joint_kind
use Rattle.mj_types.specs.declared.range.Quantity.TheVariants as kind
use Rattle.mj_types.specs.Ranges.{unless}
use Rattle.mj_kin.specs.Bodies.{inertia_from, shifted, shifted_off, turned}
use Rattle.mj_kin.specs.Columns.{about, along, column_at, direction, through}
use Rattle.mj_kin.specs.Poses.{Pose, norm_fault, slid}

abbrev one : ℤ
one = pos 4294967296

abbrev across : Triple ℤ
across = record { x = pos 0; y = one; z = pos 0 }

abbrev up : Triple ℤ
up = record { x = pos 0; y = pos 0; z = one }

abbrev forth : Triple ℤ
forth = record { x = one; y = pos 0; z = pos 0 }

abbrev unturned : Quaternion
unturned = record { w = one; x = pos 0; y = pos 0; z = pos 0 }

abbrev identity : Triple (Triple ℤ)
identity = record { x = forth; y = across; z = up }

-- ---- the second hinge of the pendulum moves what is at the origin up
hinge_column : column_at joint_kind.Hinge forth (direction joint_kind.Hinge 0 across identity) ≡ record { ang = across; lin = up }
unfolding through nearest
hinge_column = refl

-- ---- a slide moves along its axis
slide_column : column_at joint_kind.Slide forth (direction joint_kind.Slide 0 up identity) ≡ record { ang = no_vector; lin = up }
slide_column = refl

slides : slid up (pos 8589934592) (record { position = record { x = one; y = pos 8589934592; z = pos 12884901888 }; orientation = unturned })
    ≡ record { position = record { x = one; y = pos 8589934592; z = pos 21474836480 }; orientation = unturned }
unfolding slid nearest
slides = refl

-- ---- a free joint moves along the world and turns about the body, here after a quarter turn about z
abbrev quarter : Quaternion
quarter = record { w = pos 3037000500; x = pos 0; y = pos 0; z = pos 3037000500 }

free_along : direction joint_kind.Free 1 no_vector (matrix quarter) ≡ record { ang = no_vector; lin = across }
free_along = refl

free_about : direction joint_kind.Free 3 no_vector (matrix quarter) ≡ record { ang = across; lin = no_vector }
unfolding row_x row_y row_z nearest
free_about = refl

-- ---- a mass of 1 at (1, 0, 0) with an inertia of 1 about each axis of its own
abbrev unit : ℤ
unit = pos 1099511627776

away : inertia_from unit (record { x = unit; y = unit; z = unit }) identity (record { x = unit; y = pos 0; z = pos 0 }) forth
    ≡ record {
      row_x = record { x = unit; y = pos 0; z = pos 0 };
      row_y = record { x = pos 0; y = pos 2199023255552; z = pos 0 };
      row_z = record { x = pos 0; y = pos 0; z = pos 2199023255552 };
      moment = record { x = unit; y = pos 0; z = pos 0 };
      mass = unit;
    }
unfolding inertia_from turned shifted shifted_off nearest
away = refl

-- ---- lengths are from a half to two
abbrev short : Quaternion
short = record { w = pos 2147483647; x = pos 0; y = pos 0; z = pos 0 }

short_length : quaternion_length (product short unturned) ≡ pos 2147483647
unfolding quaternion_length product nearest
short_length = sym (isqrt-unique (pos 4611686014132420609) (pos 2147483647) (record { not_negative = omega (arith, ints); below = omega (arith, ints); above = omega (arith, ints) }))

unturned_length : quaternion_length (product unturned unturned) ≡ one
unfolding quaternion_length product nearest
unturned_length = sym (isqrt-unique (pos 18446744073709551616) (pos 4294967296) (record { not_negative = omega (arith, ints); below = omega (arith, ints); above = omega (arith, ints) }))

too_short : norm_fault kind.GeomNorm 3 short unturned ≡ Some (record { kind = kind.GeomNorm; index = 3 })
unfolding norm_fault
too_short = ap (λ (l : ℤ). unless (is_inside (pos (2 ^ 31)) (pos (2 ^ 33)) l) kind.GeomNorm 3) short_length

long_enough : norm_fault kind.GeomNorm 3 unturned unturned ≡ None
unfolding norm_fault
long_enough = ap (λ (l : ℤ). unless (is_inside (pos (2 ^ 31)) (pos (2 ^ 33)) l) kind.GeomNorm 3) unturned_length
