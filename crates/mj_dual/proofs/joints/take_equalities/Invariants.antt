use Rattle.std.proofs.Common.{None, [], ◌∷◌}
use Rattle.fx_whole.specs.Joined.{joined}
use Rattle.mj_rows.specs.Joints.{equality_of}
use Rattle.mj_dual.specs.Reductions.{dynamics}
use Rattle.mj_dual.specs.Taking.{HasAdded}
use Rattle.mj_dual.proofs.joints.take_equalities.Given as goal

abbrev pub invariant-loop-e : goal.invariant-loop-e
invariant-loop-e l = record {
  added : HasAdded l.model (dynamics l.model l.state l.factor l.smooth) (joined l.e (λ e. equality_of l.model l.state e ∷ [])) None l.fn.rows l.rows l.fn.out l.out;
}
