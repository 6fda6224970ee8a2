use Rattle.std.proofs.Common.{◌+◌, ◌^◌, subst, arith}
use Rattle.fx_vec.specs.Sizes.{Within}
use Rattle.fx_vec.specs.Views.{mids}
use Rattle.fx_vec.specs.declared.vector.Vector3.{Vector3}
use Rattle.fx_vec.proofs.Bounds.{within-le}
use Rattle.mj_types.specs.Parts.{no_vector}
use Rattle.mj_rows.proofs.levers.arm_of.Goals as goal

pub minus-requires : goal.minus-requires
minus-requires c = (
  omega arith,
  (
    within-le (mids c.args.contact.now.point) (2 ^ 55) (2 ^ 61) c.requires.contact.point_ (omega arith),
    within-le (mids c.entry.result.now) (2 ^ 44) (2 ^ 61)
        (subst (λ (v : Vector3 (Unit {0}) 32). Within (mids v) (2 ^ 44)) (c.entry.ensures no_vector) (c.requires.frames.position c.root_of.result c.root_of.ensures.there)) (omega arith),
  ),
)

pub returns-clause-size : goal.returns-clause-size
returns-clause-size c =
    within-le (mids c.minus.result) (2 ^ 55 + 2 ^ 44) (2 ^ 57)
    (c.minus.ensures.linear (2 ^ 55) (2 ^ 44) c.requires.contact.point_
    (subst (λ (v : Vector3 (Unit {0}) 32). Within (mids v) (2 ^ 44)) (c.entry.ensures no_vector) (c.requires.frames.position c.root_of.result c.root_of.ensures.there))) (omega arith)
