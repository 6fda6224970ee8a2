use Rattle.std.proofs.Common.{◌≡◌, true, false, rules}
use Rattle.fx_vec.specs.Quaternions.{quaternion}
use Rattle.mj_types.specs.Lawful.{is_plane}
use Rattle.mj_touch.specs.declared.shape.Shape.{Shape}
use Rattle.mj_touch.specs.Culling.{are_apart, limit}
use Rattle.mj_touch.specs.Solids.{solid_of, IsShape}
use Rattle.mj_touch.proofs.AxisLaws.{axis-sharp}
use Rattle.mj_touch.proofs.CullingLaws.{IsSolid, skipped}
use Rattle.mj_touch.proofs.pairs.can_skip.Goals as goal

is_solid : (s : Shape) → IsShape s → IsSolid (solid_of s)
is_solid s h = record { axis = axis-sharp (quaternion s.turn) h.turn; least = h.half.least; most = h.half.most }

pub returns-then-not-is_plane-clause-law : goal.returns-then-not-is_plane-clause-law
returns-then-not-is_plane-clause-law c t =
    let a = c.args.a.now in
    let b = c.args.b.now in
    let margin = c.args.margin.now.mid in
    let p : is_plane a.kind ≡ false = search rules in
    let e : are_apart (limit (solid_of a) (solid_of b) margin) (solid_of a).center (solid_of b).center ≡ true = search rules in
    skipped a.kind b.kind (solid_of a) (solid_of b) margin p (is_solid a c.requires.a) (is_solid b c.requires.b) e
