-- Vectors, spatial vectors, their sizes and inertias as things that are added up. The usual definitions.
use Rattle.std.specs.Prelude.{ℕ, ℤ}
use Rattle.fx_whole.specs.Adding.{Adding}
use Rattle.fx_vec.specs.Spatial.{Spatial, Inertia, plus6, no_spatial, plus_inertia, no_inertia}
use Rattle.fx_vec.specs.Sizes.{plus6_size, no_size6}

-- spatial vectors
abbrev pub vectors : Adding (Spatial ℤ)
vectors = record { empty = no_spatial; plus = plus6 }

-- their sizes and widths
abbrev pub sizes : Adding (Spatial ℕ)
sizes = record { empty = no_size6; plus = plus6_size }

abbrev pub inertias : Adding Inertia
inertias = record { empty = no_inertia; plus = plus_inertia }
