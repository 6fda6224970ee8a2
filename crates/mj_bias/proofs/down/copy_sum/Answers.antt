use Rattle.std.proofs.Common.{sym, ◌∙◌}
use Rattle.mj_bias.specs.Measures.{totals, no_measure}
use Rattle.mj_bias.proofs.SeenLaws.{seen-read, seen-same, seen-other}
use Rattle.mj_bias.proofs.down.copy_sum.Goals as goal

pub returns-clause-here : goal.returns-clause-here
returns-clause-here g c =
    seen-same (totals g.K.Carry.wide_width) no_measure c.args.sums.now c.put.new.self c.args.to c.at-sum.result c.put.ensures.len c.requires.to c.put.ensures.same
    ∙ sym (seen-read (totals g.K.Carry.wide_width) no_measure c.args.sums.now c.args.from c.at-sum.result c.requires.from c.at-sum.ensures)

pub returns-clause-others : goal.returns-clause-others
returns-clause-others g c = λ i h.
    seen-other (totals g.K.Carry.wide_width) no_measure c.args.sums.now c.put.new.self c.args.to i c.at-sum.result c.put.ensures.len c.put.ensures.others h
