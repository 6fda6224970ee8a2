use Rattle.std.proofs.Common.{ap, sym, pos, None}
use Rattle.mj_types.specs.Duals.{bound, bound_at, entry_at, wide_at}
use Rattle.mj_types.specs.Parts.{number_at}
use Rattle.mj_types.proofs.DualLaws.{solvable-over}
use Rattle.mj_types.proofs.dual.Dual.is_solvable_at.Goals as goal

pub returns : goal.returns
returns c is =
    let s = c.args.self.now in
    let i = c.args.i in
    let row = c.row.ensures in
    solvable-over _ s.nv (number_at c.row.result.now) (entry_at s.nv s.g i) _ (wide_at s.diag i) _ (bound_at s.low i) _ (bound_at s.high i) row.width row.numbers
    (sym (ap (λ x. x.raw) (c.at.ensures (record { raw = pos 0 })))) (sym (ap bound (c.at-2.ensures None))) (sym (ap bound (c.at-3.ensures None))) (c.is_solvable_row.ensures is)
