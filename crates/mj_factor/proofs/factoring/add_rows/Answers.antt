use Rattle.std.proofs.Common.{ℕ, ◌≡◌, ◌+ℤ◌, ap, sym, ◌∙◌, arith}
use Rattle.fx_whole.specs.Sums.{sum_to}
use Rattle.fx_whole.proofs.SumLaws.{sum_to-more}
use Rattle.mj_types.specs.Forests.{above_in}
use Rattle.mj_types.specs.Parts.{number_at}
use Rattle.mj_types.specs.Duals.{wide_at}
use Rattle.mj_factor.specs.Stored.{row_term}
use Rattle.mj_factor.proofs.RowLaws.{sum_begins, sum_small}
use Rattle.mj_factor.proofs.factoring.add_rows.Goals as goal

pub loop-j-init : goal.loop-j-init
loop-j-init c = λ e h. c.requires.none e ∙ sum_begins c.args.model.now (number_at c.args.factor.now.l) (number_at c.args.factor.now.w) c.args.k e

pub add_row-requires-clause-sums : goal.add_row-requires-clause-sums
add_row-requires-clause-sums c = λ e h.
    sum_small c.args.model.now (number_at c.args.factor.now.l) (number_at c.args.factor.now.w) c.args.k e c.requires.work c.requires.lower c.loop-j.j (omega arith)
    (wide_at c.loop-j.sums e) (c.loop-j.invariant e h)

pub loop-j-preserved : goal.loop-j-preserved
loop-j-preserved c = λ e h.
    let term = row_term (above_in c.args.model.now) (number_at c.args.factor.now.l) (number_at c.args.factor.now.w) c.args.k e in
    c.add_row.ensures e h ∙ ap (λ x. x +ℤ term c.loop-j.j) (c.loop-j.invariant e h) ∙ sym (sum_to-more c.loop-j.j term)

pub returns-clause-sums : goal.returns-clause-sums
returns-clause-sums c = λ e h.
    let term = row_term (above_in c.args.model.now) (number_at c.args.factor.now.l) (number_at c.args.factor.now.w) c.args.k e in
    let last : c.loop-j.j ≡ c.args.model.now.nv = omega arith in
    c.loop-j.invariant e h ∙ ap (λ (n : ℕ). sum_to n term) last

pub returns-clause-small : goal.returns-clause-small
returns-clause-small c = λ e h.
    sum_small c.args.model.now (number_at c.args.factor.now.l) (number_at c.args.factor.now.w) c.args.k e c.requires.work c.requires.lower c.loop-j.j (omega arith)
    (wide_at c.loop-j.sums e) (c.loop-j.invariant e h)
