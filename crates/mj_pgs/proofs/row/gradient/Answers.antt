use Rattle.std.proofs.Common.{◌∙◌, ap, ap₂, sym, pos, ◌+ℤ◌, ◌*ℤ◌, ◌^◌, ℤ}
use Rattle.mj_optimum.specs.Cost.{gradient}
use Rattle.mj_types.specs.Parts.{plain}
use Rattle.mj_pgs.proofs.RowLaws.{along}
use Rattle.mj_pgs.proofs.row.gradient.Goals as goal

pub returns-clause-value : goal.returns-clause-value
unfolding gradient
returns-clause-value c =
    let d = c.args.dual.now in
    let x = c.args.out.now in
    let row = c.row-row.ensures in
    let used = c.at-used.ensures 0 in
    c.added.ensures.value
    ∙ ap₂ (λ a b. a +ℤ b)
    (ap₂ (λ a b. a +ℤ b)
    (c.dot-along.ensures.value ∙ along d x c.args.i c.at-used.result c.row-row.result.now c.as_slice.result.now c.as_slice.ensures c.requires.held c.requires.row row.numbers used)
    (c.own-own.ensures.value ∙ ap₂ (λ a b. a *ℤ b) (sym (ap (λ y. y.raw) (c.at.ensures (record { raw = pos 0 })))) c.requires.force))
    (c.raised-right.ensures.value ∙ ap (λ a. pos (2 ^ 36) *ℤ a) (sym (ap (λ y. y.mid) (c.at-2.ensures (plain (pos 0))))))
