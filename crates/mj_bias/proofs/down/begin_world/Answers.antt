use Rattle.std.proofs.Common.{◌∙◌}
use Rattle.mj_bias.specs.Measures.{totals, no_measure}
use Rattle.mj_bias.proofs.SeenLaws.{seen-same}
use Rattle.mj_bias.proofs.down.begin_world.Goals as goal

pub returns-clause-here : goal.returns-clause-here
returns-clause-here g c =
    seen-same (totals g.K.Carry.wide_width) no_measure c.args.sums.now c.put.new.self 0 c.no_sums.result c.put.ensures.len c.requires.place c.put.ensures.same
    ∙ c.no_sums.ensures
