use Rattle.std.proofs.Common.{ap, sym, subst, ◌∙◌, ◌^◌}
use Rattle.mj_bias.specs.Measures.{Measured, totals, numbers, no_measure, sum_of, multiple, IsWithin}
use Rattle.mj_bias.proofs.SeenLaws.{seen-read, seen-same, seen-other}
use Rattle.mj_bias.proofs.down.add_at.Goals as goal

pub add_multiple-requires-clause-sum : goal.add_multiple-requires-clause-sum
add_multiple-requires-clause-sum g c =
    subst (λ (s : Measured). IsWithin s (2 ^ 110) (2 ^ 100))
    (seen-read (totals g.K.Carry.wide_width) no_measure c.args.sums.now c.args.k c.at-sum.result c.requires.place c.at-sum.ensures) c.requires.sum

pub returns-clause-here : goal.returns-clause-here
returns-clause-here g c =
    seen-same (totals g.K.Carry.wide_width) no_measure c.args.sums.now c.put.new.self c.args.k c.add_multiple.new.sum c.put.ensures.len c.requires.place c.put.ensures.same
    ∙ c.add_multiple.ensures
    ∙ ap (λ (s : Measured). sum_of s (multiple c.args.v.now.mid (numbers g.K.Carry.width c.args.s.now)))
    (sym (seen-read (totals g.K.Carry.wide_width) no_measure c.args.sums.now c.args.k c.at-sum.result c.requires.place c.at-sum.ensures))

pub returns-clause-others : goal.returns-clause-others
returns-clause-others g c = λ i h.
    seen-other (totals g.K.Carry.wide_width) no_measure c.args.sums.now c.put.new.self c.args.k i c.at-sum.result c.put.ensures.len c.put.ensures.others h
