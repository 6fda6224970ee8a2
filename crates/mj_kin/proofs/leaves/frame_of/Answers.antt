use Rattle.std.proofs.Common.{◌≡◌, ℤ, ◌-◌, ◌^◌, ap, sym, subst, arith}
use Rattle.fx_vec.specs.Vectors.{Triple}
use Rattle.fx_vec.specs.Sizes.{Within}
use Rattle.fx_vec.specs.Views.{mids}
use Rattle.fx_vec.specs.declared.vector.Vector3.{Vector3}
use Rattle.mj_types.specs.Parts.{no_vector}
use Rattle.mj_types.specs.Placed.{vector_at}
use Rattle.mj_kin.specs.Poses.{Pose}
use Rattle.mj_kin.proofs.leaves.frame_of.Goals as goal

pub returns-else-k-eq0-clause-near : goal.returns-else-k-eq0-clause-near
returns-else-k-eq0-clause-near c =
    let e : mids c.framed.result.pos ≡ mids c.entry.result.now = ap (λ (p : Pose). p.position) c.framed.ensures in
    let f : vector_at c.args.pos.now (c.args.k - 1) ≡ mids c.entry.result.now = ap (λ (v : Vector3 (Unit {0}) 32). mids v) (c.entry.ensures no_vector) in
    let P = λ (v : Triple ℤ). Within v (2 ^ 44) in
    subst P (sym e) (subst P f (c.requires.near.near (c.args.k - 1) (omega arith)))
