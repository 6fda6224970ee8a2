-- The wrench of a body: what its steps make is what its formula says, and the sums of wrenches up the tree.
use Rattle.std.proofs.Common.{◌≡◌, ℕ, ℤ, Bool, true, false, ◌&&◌, None, ap, ap₂, ◌∙◌}
use Rattle.std.proofs.lemmas.Bool.{leb-true, and_parts}
use Rattle.fx_vec.specs.Vectors.{Triple}
use Rattle.fx_vec.specs.Spatial.{Spatial, Inertia}
use Rattle.fx_vec.specs.Sizes.{Within, Within6}
use Rattle.mj_types.specs.declared.range.Quantity.{Quantity}
use Rattle.mj_types.specs.Ranges.{unless, is_within}
use Rattle.mj_bias.specs.Faults.{is_within3, is_within6}
use Rattle.mj_bias.specs.Measures.{Measured}
use Rattle.mj_bias.specs.Radii.{Rule}
use Rattle.mj_bias.specs.Steps.{velocity_there, acceleration_there, momentum_there, wrench_there, body_wrench_there}

-- what isn't refused has passed its test
pub unless_passes : (good : Bool) (what : Quantity) (index : ℕ) → None ≡ unless good what index → good ≡ true
unless_passes true what index h = cc
unless_passes false what index h = cc

within3 : (limit : ℕ) (v : Triple ℤ) → is_within3 limit v ≡ true → Within v limit
within3 limit v h =
    let first = and_parts (is_within limit v.x) (is_within limit v.y && is_within limit v.z) h in
    let rest = and_parts (is_within limit v.y) (is_within limit v.z) first.1 in
    record { x = leb-true _ limit first.0; y = leb-true _ limit rest.0; z = leb-true _ limit rest.1 }

pub within6_tested : (limit : ℕ) (s : Spatial ℤ) → is_within6 limit s ≡ true → Within6 s limit
within6_tested limit s h =
    let both = and_parts (is_within3 limit s.ang) (is_within3 limit s.lin) h in
    record { ang = within3 limit s.ang both.0; lin = within3 limit s.lin both.1 }

-- the wrench from a velocity v, an acceleration a and a momentum p that are those of the sums
pub wrench_of_sums : (rule : Rule) (gravity : Triple ℤ) (i : Inertia) (motion drift a v p f : Measured) → a ≡ acceleration_there rule gravity drift → v ≡ velocity_there rule motion
    → p ≡ momentum_there rule i v → f ≡ wrench_there i a v p → f ≡ body_wrench_there rule gravity i motion drift
wrench_of_sums rule gravity i motion drift a v p f ea ev ep ef =
    ef ∙ ap (λ (t : Measured). wrench_there i a v t) ep
    ∙ ap₂ (λ (s t : Measured). wrench_there i s t (momentum_there rule i t)) ea ev
