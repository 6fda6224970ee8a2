use Rattle.std.proofs.Common.{rules, ◌+◌, ◌^◌, ◌<◌, ◌≤◌, arith, pow_mono}
use Rattle.fx_near.proofs.RadiusLaws.{sum_small}
use Rattle.fx_near.proofs.band.small_sum.Goals as goal

pub overflow_add-result : goal.overflow_add-result
overflow_add-result c =
    let s = sum_small c.args.w.now c.args.lost.now c.args.shift c.requires.low c.requires.high c.requires.lost c.requires.width in
    let p : 2 ^ c.args.shift ≤ 2 ^ 62 = pow_mono c.requires.high in
    let t : c.args.w.now + c.from.result < 2 ^ 128 = rw (c.from.ensures, c.plus_mask.ensures) (omega arith) in
    search rules

pub returns-clause-small : goal.returns-clause-small
returns-clause-small c =
    let s = sum_small c.args.w.now c.args.lost.now c.args.shift c.requires.low c.requires.high c.requires.lost c.requires.width in
    rw (c.from.ensures, c.plus_mask.ensures) s
