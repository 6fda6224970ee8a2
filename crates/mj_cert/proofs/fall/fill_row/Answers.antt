use Rattle.std.proofs.Common.{◌≤◌, Some, sym, ap, ◌∙◌, arith, rules}
use Rattle.mj_types.specs.declared.range.Quantity.TheVariants as kind
use Rattle.mj_cert.proofs.ShortfallLaws.{row-nonneg, so_far-nonneg, passes}
use Rattle.mj_cert.proofs.fall.fill_row.Goals as goal

pub returns-in-None-clause-first : goal.returns-in-None-clause-first
returns-in-None-clause-first c =
    ap (λ n. Some (record { kind = kind.Shortfall; index = n })) (sym (c.at-place.ensures 0))
    ∙ passes c.args.dual.now c.args.forces.now c.args.i c.requires.solved c.requires.row c.in-None.ensures

pub add_shortfall-requires-clause-total : goal.add_shortfall-requires-clause-total
add_shortfall-requires-clause-total c =
    let row : c.args.i ≤ c.args.dual.now.m = omega arith in
    rw c.requires.total (so_far-nonneg c.args.dual.now c.args.forces.now c.args.i c.requires.solved row)

pub add_shortfall-requires-clause-e : goal.add_shortfall-requires-clause-e
add_shortfall-requires-clause-e c =
    let nonneg = row-nonneg c.args.dual.now c.args.forces.now c.args.i c.requires.solved c.requires.row in
    search (rules, nonneg)
