use Rattle.std.proofs.Common.{arith, rules}
use Rattle.fx_text.proofs.Sizes.{raised_of_shift}
use Rattle.fx_text.proofs.decimal.scale_decimal.Goals as goal

pub overflow_mul-raised : goal.overflow_mul-raised
overflow_mul-raised c =
    let h = raised_of_shift c.args.n c.args.scale c.requires.digits c.requires.scale in
    search rules

pub quotient-requires-clause-small : goal.quotient-requires-clause-small
quotient-requires-clause-small c =
    let h = raised_of_shift c.args.n c.args.scale c.requires.digits c.requires.scale in
    omega arith
