use Rattle.std.proofs.Common.{◌≡◌, ℕ, ℤ, ◌+◌, ◌-◌, ◌^◌, ap, sym, subst, ◌∙◌, arith}
use Rattle.fx_vec.specs.Vectors.{Triple, minus}
use Rattle.fx_vec.specs.Sizes.{Within}
use Rattle.fx_vec.specs.Views.{mids}
use Rattle.fx_vec.specs.declared.vector.Vector3.{Vector3}
use Rattle.fx_vec.proofs.Bounds.{within-le}
use Rattle.mj_types.specs.Parts.{no_vector, joint}
use Rattle.mj_types.specs.Placed.{vector_at}
use Rattle.mj_kin.specs.Poses.{pose}
use Rattle.mj_kin.specs.Bodies.{reference}
use Rattle.mj_kin.specs.Columns.{joint_anchor}
use Rattle.mj_kin.proofs.columns.arm_of.Goals as goal

pub minus-requires : goal.minus-requires
minus-requires c =
    let at : vector_at c.args.anchors.now c.joint_of-j.result ≡ mids c.entry.result.now = ap (λ (v : Vector3 (Unit {0}) 32). mids v) (c.entry.ensures no_vector) in
    let from : vector_at c.args.pos.now c.root_of.result ≡ mids c.entry-2.result.now = ap (λ (v : Vector3 (Unit {0}) 32). mids v) (c.entry-2.ensures no_vector) in
    let P = λ (v : Triple ℤ). Within v (2 ^ 61) in (
      omega arith,
      (
        subst P at (within-le (vector_at c.args.anchors.now c.joint_of-j.result) (2 ^ 54) (2 ^ 61) (c.requires.anchors.near c.joint_of-j.result c.joint_of-j.ensures.there) (omega arith)),
        subst P from (within-le (vector_at c.args.pos.now c.root_of.result) (2 ^ 44) (2 ^ 61) (c.requires.points.near c.root_of.result c.root_of.ensures.there) (omega arith)),
      ),
    )

pub returns-clause-value : goal.returns-clause-value
returns-clause-value c =
    let m = c.args.model.now in
    let s = c.args._state.now in
    let j = c.joint_of-j.result in
    let r = c.root_of.result in
    let at : vector_at c.args.anchors.now j ≡ mids c.entry.result.now = ap (λ (v : Vector3 (Unit {0}) 32). mids v) (c.entry.ensures no_vector) in
    let from : vector_at c.args.pos.now r ≡ mids c.entry-2.result.now = ap (λ (v : Vector3 (Unit {0}) 32). mids v) (c.entry-2.ensures no_vector) in
    let anchor : mids c.entry.result.now ≡ joint_anchor m s j = sym at ∙ c.requires.anchors.anchors_ j c.joint_of-j.ensures.there in
    let point : mids c.entry-2.result.now ≡ reference m s ((joint m.joints j).body - 1) =
    sym from ∙ c.requires.points.points r c.root_of.ensures.there ∙ ap (λ (n : ℕ). (pose m s n).position) c.root_of.ensures.value in
    c.minus.ensures.value
    ∙ ap (λ (v : Triple ℤ). minus v (mids c.entry-2.result.now)) anchor
    ∙ ap (λ (v : Triple ℤ). minus (joint_anchor m s j) v) point
    ∙ ap (λ (n : ℕ). minus (joint_anchor m s n) (reference m s ((joint m.joints n).body - 1))) c.joint_of-j.ensures.value

pub returns-clause-size : goal.returns-clause-size
returns-clause-size c =
    let at : vector_at c.args.anchors.now c.joint_of-j.result ≡ mids c.entry.result.now = ap (λ (v : Vector3 (Unit {0}) 32). mids v) (c.entry.ensures no_vector) in
    let from : vector_at c.args.pos.now c.root_of.result ≡ mids c.entry-2.result.now = ap (λ (v : Vector3 (Unit {0}) 32). mids v) (c.entry-2.ensures no_vector) in
    let P = λ (v : Triple ℤ). Within v (2 ^ 54) in
    let Q = λ (v : Triple ℤ). Within v (2 ^ 44) in
    within-le (mids c.minus.result) (2 ^ 54 + 2 ^ 44) (2 ^ 55)
    (c.minus.ensures.linear (2 ^ 54) (2 ^ 44)
    (subst P at (c.requires.anchors.near c.joint_of-j.result c.joint_of-j.ensures.there))
    (subst Q from (c.requires.points.near c.root_of.result c.root_of.ensures.there)))
    (omega arith)
