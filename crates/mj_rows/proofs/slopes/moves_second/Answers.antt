use Rattle.std.proofs.Common.{ap, ◌∙◌}
use Rattle.mj_types.specs.declared.parts.Geom.{Geom}
use Rattle.mj_rows.specs.Edges.{does_move}
use Rattle.mj_rows.proofs.slopes.moves_second.Goals as goal

pub returns : goal.returns
returns c = c.moves.ensures ∙ ap (λ (g : Geom). does_move c.args.model.now c.args.d g) c.geom_of.ensures.value
