-- Limits, frictions, equalities and the edges of a contact.
use Rattle.std.proofs.Common.{◌≡◌, ℕ, ◌^◌, true, false, ℤ, pos, neg_ℤ, Some, None, refl}
use Rattle.fx_whole.specs.Nearest.{nearest}
use Rattle.fx_num.specs.Settled.{settled_mid}
use Rattle.fx_vec.specs.Spatial.{Spatial}
use Rattle.fx_vec.specs.Vectors.{Triple, no_vector}
use Rattle.mj_types.specs.declared.parts.Soft.{Soft}
use Rattle.mj_types.specs.declared.range.Quantity.TheVariants as kind
use Rattle.mj_types.specs.declared.rows.Source.TheVariants as source
use Rattle.mj_types.specs.Parts.{plain, no_soft}
use Rattle.mj_rows.specs.Constraint.{violation_fault}
use Rattle.mj_rows.specs.Edges.{apart, edge_slope, velocity_of}
use Rattle.mj_rows.specs.Limits.{above_least, below_greatest, is_high, is_low, limit}
use Rattle.mj_rows.specs.Mixing.{mixed}

abbrev one : ℤ
one = pos 4294967296

abbrev half : ℤ
half = pos 2147483648

-- ---- a slide from 0 to 4 that is at -0.5, without a margin and with one of 5
low_stands : is_low (record { range = Some (record { least = plain (pos 0); greatest = plain (pos 17179869184) }); margin = plain (pos 0); soft = no_soft; value = plain (neg_ℤ half) }) ≡ true
low_stands = refl

high_does_not : is_high (record { range = Some (record { least = plain (pos 0); greatest = plain (pos 17179869184) }); margin = plain (pos 0); soft = no_soft; value = plain (neg_ℤ half) }) ≡ false
high_does_not = refl

low_violation :
    (limit (source.Low 1) (record { range = Some (record { least = plain (pos 0); greatest = plain (pos 17179869184) }); margin = plain (pos 0); soft = no_soft; value = plain (neg_ℤ half) }) (above_least (record { range = Some (record { least = plain (pos 0); greatest = plain (pos 17179869184) }); margin = plain (pos 0); soft = no_soft; value = plain (neg_ℤ half) })) (λ d. one)).r ≡ neg_ℤ half
low_violation = refl

high_within_margin : is_high (record { range = Some (record { least = plain (pos 0); greatest = plain (pos 17179869184) }); margin = plain (pos 21474836480); soft = no_soft; value = plain (neg_ℤ half) }) ≡ true
high_within_margin = refl

high_violation :
    (limit (source.High 1) (record { range = Some (record { least = plain (pos 0); greatest = plain (pos 17179869184) }); margin = plain (pos 21474836480); soft = no_soft; value = plain (neg_ℤ half) }) (below_greatest (record { range = Some (record { least = plain (pos 0); greatest = plain (pos 17179869184) }); margin = plain (pos 21474836480); soft = no_soft; value = plain (neg_ℤ half) })) (λ d. one)).r ≡ neg_ℤ half
high_violation = refl

-- ---- an equality may be violated by 2^21
most : violation_fault (source.Equality 1) 3 (pos (2 ^ 53)) ≡ None
most = refl

past : violation_fault (source.Equality 1) 3 (pos 9007199254740993) ≡ Some (record { kind = kind.Violation; index = 3 })
past = refl

-- ---- a friction of 2 is at scale 20
friction_of_2 : settled_mid (pos 8589934592) 12 ≡ pos 2097152
unfolding nearest
friction_of_2 = refl

friction_tie : settled_mid (pos 2048) 12 ≡ pos 0
unfolding nearest
friction_tie = refl

friction_past_tie : settled_mid (pos 2049) 12 ≡ pos 1
unfolding nearest
friction_past_tie = refl

-- ---- a hinge about z moves a point at +2 x towards +y, and a slide along z moves it along z
abbrev up : Triple ℤ
up = record { x = pos 0; y = pos 0; z = one }

abbrev arm : Triple ℤ
arm = record { x = pos 8589934592; y = pos 0; z = pos 0 }

hinge_moves : velocity_of (record { ang = up; lin = no_vector }) arm ≡ record { x = pos 0; y = pos 8589934592; z = pos 0 }
unfolding velocity_of nearest
hinge_moves = refl

slide_moves : velocity_of (record { ang = no_vector; lin = up }) arm ≡ up
unfolding velocity_of nearest
slide_moves = refl

-- ---- the second geom moves along the normal, and the first against it
second_moves : apart false true one ≡ one
second_moves = refl

first_moves : apart true false one ≡ neg_ℤ one
first_moves = refl

both_move : apart true true one ≡ pos 0
both_move = refl

-- ---- slopes 1, 0.5 and -1 with friction 0.5
abbrev edge : ℕ → ℤ
edge = edge_slope half one half (neg_ℤ one)

edge_0 : edge 0 ≡ pos 4294967296
unfolding nearest
edge_0 = refl

edge_1 : edge 1 ≡ pos 5368709120
unfolding nearest
edge_1 = refl

edge_2 : edge 2 ≡ pos 3221225472
unfolding nearest
edge_2 = refl

edge_3 : edge 3 ≡ pos 2147483648
unfolding nearest
edge_3 = refl

edge_4 : edge 4 ≡ pos 6442450944
unfolding nearest
edge_4 = refl

-- ---- softness: means where both have a time constant, else the smaller; the mean of the widths 1 and 2 drops a half
abbrev soft_with : ℤ → ℤ → ℕ → Soft
soft_with reference width power = record {
  tc = plain reference;
  dr = plain reference;
  dmin = plain half;
  dmax = plain half;
  width = plain width;
  mid = plain half;
  power = power;
}

both_timed : mixed (soft_with one (pos 1) 1) (soft_with one (pos 2) 2) ≡ soft_with one (pos 1) 1
unfolding nearest
both_timed = refl

one_direct : mixed (soft_with one (pos 3) 3) (soft_with (neg_ℤ one) one 4) ≡ soft_with (neg_ℤ one) (pos 2147483649) 3
unfolding nearest
one_direct = refl
