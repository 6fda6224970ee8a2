use Rattle.std.proofs.Common.{◌≡◌, ◌^◌, ℤ, pos, ◌*ℤ◌, ◌≤ℤ◌, sym, ◌∙◌, rules}
use Rattle.fx_whole.proofs.NearestLaws.{nearest-none}
use Rattle.fx_vec.specs.Vectors.{Triple, no_vector}
use Rattle.fx_vec.specs.Views.{mids}
use Rattle.fx_vec.proofs.Same.{same3}
use Rattle.mj_quat.specs.Rotation.{vector_length, vector_over}
use Rattle.mj_touch.proofs.frame.unit.Goals as goal

over_none : (v : Triple ℤ) (l : ℤ) → l ≤ℤ pos 0 → vector_over v l ≡ no_vector
over_none v l h =
    same3 (vector_over v l) no_vector (nearest-none (v.x *ℤ pos (2 ^ 32)) l h) (nearest-none (v.y *ℤ pos (2 ^ 32)) l h) (nearest-none (v.z *ℤ pos (2 ^ 32)) l h)

pub returns-else-length-gt0-clause-value : goal.returns-else-length-gt0-clause-value
returns-else-length-gt0-clause-value c =
    let v = mids c.args.v.now in
    let l : vector_length v ≤ℤ pos 0 = search rules in
    c.vector.ensures ∙ sym (over_none v (vector_length v) l)
