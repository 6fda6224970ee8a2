use Rattle.std.proofs.Common.{◌≡◌, ◌+ℤ◌, ◌-ℤ◌, ◌*ℤ◌, ◌∙◌, to_z, of_z, ap, rules}
use mir.Syntax.{w128}
use Rattle.mj_quat.specs.Rotation.{round, product}
use Rattle.mj_quat.proofs.RotationLaws.{hamilton_y}
use Rattle.mj_quat.proofs.hamilton.y_part.Goals as goal

pub returns-clause-value : goal.returns-clause-value
unfolding product
returns-clause-value c =
    let a = c.args.a.now in
    let b = c.args.b.now in
    let first : to_z w128 (of_z w128 c.pair_difference-first.result) ≡ a.w.mid *ℤ b.y.mid -ℤ a.x.mid *ℤ b.z.mid = search rules in
    let second : to_z w128 (of_z w128 c.pair_sum-second.result) ≡ a.y.mid *ℤ b.w.mid +ℤ a.z.mid *ℤ b.x.mid = search rules in
    c.rounded_sum.ensures.value ∙ ap round (hamilton_y _ _ (a.w.mid *ℤ b.y.mid) (a.x.mid *ℤ b.z.mid) (a.y.mid *ℤ b.w.mid) (a.z.mid *ℤ b.x.mid) first second)
