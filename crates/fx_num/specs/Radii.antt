-- What a radius of a product is, in the arithmetic of numbers with a carried error: |a| rb + |b| ra + ra rb.
use Rattle.std.specs.Prelude.{ℕ, ◌+◌, ◌*◌, ◌^◌, ℤ, unsigned_abs}

-- the width of the product of a, off by at most ra, and b, off by at most rb
abbrev pub product_width : ℤ → ℕ → ℤ → ℕ → ℕ
product_width a ra b rb = unsigned_abs a * rb + unsigned_abs b * ra + ra * rb

-- the greatest radius that a settled number may have
abbrev pub radius_limit : ℕ
radius_limit = 2 ^ 40
