use Rattle.std.proofs.Common.{◌≡◌, ◌+ℤ◌, ◌-ℤ◌, ◌*ℤ◌, ◌∙◌, to_z, of_z, ap, rules}
use mir.Syntax.{w128}
use Rattle.mj_quat.specs.Rotation.{round, product}
use Rattle.mj_quat.proofs.RotationLaws.{hamilton_z}
use Rattle.mj_quat.proofs.hamilton.z_part.Goals as goal

pub returns-clause-value : goal.returns-clause-value
unfolding product
returns-clause-value c =
    let a = c.args.a.now in
    let b = c.args.b.now in
    let first : to_z w128 (of_z w128 c.pair_sum-first.result) ≡ a.w.mid *ℤ b.z.mid +ℤ a.x.mid *ℤ b.y.mid = search rules in
    let second : to_z w128 (of_z w128 c.pair_difference-second.result) ≡ a.z.mid *ℤ b.w.mid -ℤ a.y.mid *ℤ b.x.mid = search rules in
    c.rounded_sum.ensures.value ∙ ap round (hamilton_z _ _ (a.w.mid *ℤ b.z.mid) (a.x.mid *ℤ b.y.mid) (a.y.mid *ℤ b.x.mid) (a.z.mid *ℤ b.w.mid) first second)
