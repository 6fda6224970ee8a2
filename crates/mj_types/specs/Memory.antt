-- That values of a kind of number take fewer than 2^63 bytes each: what the check asks where it doesn't know the kind. It holds of
-- each kind there is.
use Rattle.std.specs.Mem.{FitsInMemory}
use denote.RattleType.{RattleType}
use Rattle.fx_num.specs.contracts.number.Number as number
use Rattle.fx_vec.specs.contracts.vector.Vector6 as vector6
use Rattle.fx_vec.specs.contracts.vector.Total6 as total6

-- a number, and a spatial vector of six, whose radii are of this type; the scale, which comes second, takes no room
abbrev pub NumberFits : RattleType → Type 0
NumberFits radius = FitsInMemory (number.the_row radius radius)

abbrev pub MotionFits : RattleType → Type 0
MotionFits radius = FitsInMemory (vector6.the_row radius radius)

-- six exact sums whose widths are of this type
abbrev pub SumsFit : RattleType → Type 0
SumsFit width = FitsInMemory (total6.the_row width width)
