use Rattle.mj_rows.proofs.MixLaws.{small_dr}
use Rattle.mj_rows.proofs.mixing.blended.Goals as goal

pub mixed_reference-requires-2-clause-y : goal.mixed_reference-requires-2-clause-y
mixed_reference-requires-2-clause-y c = small_dr c.args.t.now c.requires.second
