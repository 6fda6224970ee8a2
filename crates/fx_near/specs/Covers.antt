-- Which exact rationals a number with a radius covers: those within radius / 2^scale of mid / 2^scale.
use Rattle.std.specs.Prelude.{ℕ, ◌*◌, ◌^◌, ◌<◌, ◌≤◌, ℤ, pos, ◌+ℤ◌, ◌-ℤ◌, ◌*ℤ◌, ◌<ℤ◌, ◌≤ℤ◌, unsigned_abs}

-- mid and radius, at scale f, cover n / d
pub record Covers (mid : ℤ) (radius f : ℕ) (n : ℤ) (d : ℕ) : Type 0 where
  pub positive : 0 < d
  pub bound : unsigned_abs (n *ℤ pos (2 ^ f) -ℤ mid *ℤ pos d) ≤ radius * d

-- they cover the quotient of n / d by m / e, and m / e is above zero
pub record CoversQuotient (mid : ℤ) (radius f : ℕ) (n : ℤ) (d : ℕ) (m : ℤ) (e : ℕ) : Type 0 where
  pub divisor : pos 0 <ℤ m
  pub quotient : Covers mid radius f (n *ℤ pos e) (d * unsigned_abs m)

-- they cover the square root of n / d: it is at most mid + radius, and at least mid - radius where that isn't negative
pub record CoversRoot (mid : ℤ) (radius f : ℕ) (n : ℤ) (d : ℕ) : Type 0 where
  pub above : (n *ℤ pos (2 ^ (2 * f))) ≤ℤ ((mid +ℤ pos radius) *ℤ (mid +ℤ pos radius) *ℤ pos d)
  pub below : pos radius ≤ℤ mid → ((mid -ℤ pos radius) *ℤ (mid -ℤ pos radius) *ℤ pos d) ≤ℤ (n *ℤ pos (2 ^ (2 * f)))
