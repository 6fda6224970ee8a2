use Rattle.fx_text.proofs.Sizes.{tens_more}
use Rattle.fx_text.proofs.decimal.tens.Goals as goal

pub loop-turn-preserved : goal.loop-turn-preserved
loop-turn-preserved c =
    tens_more c.args.size c.loop-turn.turn c.loop-turn.grown _ c.loop-turn.invariant c.min-grown-in-loop-turn.ensures
