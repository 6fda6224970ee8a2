use Rattle.std.proofs.Common.{◌*◌, ◌^◌, pos, ◌*ℤ◌, arith, rules, refl}
use Rattle.std.proofs.lemmas.Int.{ints}
use Rattle.fx_whole.proofs.NearestLaws.{nearest-from_sizes}
use Rattle.mj_quat.proofs.sine.product_over.Goals as goal

pub returns : goal.returns
returns c =
    let a = c.args.a in
    let b = c.args.b in
    let m = c.args.steps in
    nearest-from_sizes (pos a *ℤ pos b) (pos (m * 2 ^ 60)) (pos c.step_size.result) (a * b) (m * 2 ^ 60) c.step_size.result (omega (arith, ints, c.requires.steps)) refl refl (search rules) refl
