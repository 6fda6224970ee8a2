use Rattle.std.proofs.Common.{◌^◌, subst}
use Rattle.fx_vec.specs.Sizes.{Within6}
use Rattle.fx_vec.specs.Views.{spatial}
use Rattle.fx_vec.specs.declared.vector.Vector6.{Vector6}
use Rattle.mj_types.specs.Parts.{no_motion}
use Rattle.mj_rows.proofs.levers.lever_of.Goals as goal

pub velocity-requires-clause-column : goal.velocity-requires-clause-column
velocity-requires-clause-column c =
    subst (λ (v : Vector6 (Unit {0}) 32). Within6 (spatial v) (2 ^ 42)) (c.entry.ensures no_motion) (c.requires.frames.column c.args.d c.requires.dof)
