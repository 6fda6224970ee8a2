-- The forces that the sweeps over a dual leave, the first number out of range on the way to their certificate, and what it is worth. MuJoCo documentation, Computation chapter (PGS); the certificate is this project's own.
use Rattle.std.specs.Prelude.{ℕ, ℤ, pos, Option}
use Rattle.fx_whole.specs.First.{or_first, refusal_of}
use Rattle.mj_optimum.specs.Problem.{Problem}
use Rattle.mj_optimum.specs.Enclosure.{BoundHolds, BoxHolds}
use Rattle.mj_optimum.specs.Feasible.{IsFeasible}
use Rattle.mj_optimum.specs.Stop.{stop_of, sweeps_of}
use Rattle.mj_optimum.specs.Sweep.{iterate}
use Rattle.mj_types.specs.declared.range.OutOfRange.{OutOfRange}
use Rattle.mj_types.specs.StepValues.{DualValues}
use Rattle.mj_pgs.specs.Answer.{answer}
use Rattle.mj_cert.specs.Certificate.{certificate_fault}

-- the forces after the sweeps that are made
unfoldable pub force_of : Problem → ℤ → ℕ → ℕ → ℤ
force_of p tolerance limit = iterate p (sweeps_of (stop_of p tolerance limit))

-- the first number out of range: of the solver, and then of the certificate of its forces
unfoldable pub enclosure_fault : DualValues → ℤ → ℕ → Option OutOfRange
enclosure_fault d tolerance limit =
    or_first
    (refusal_of (answer d.problem d.place tolerance limit))
    (certificate_fault d.problem d.place (force_of d.problem tolerance limit))

-- what a certificate is worth: the forces are feasible, no feasible force costs less than the bound, and each that costs no more than these is within the box
pub record IsEnclosed (p : Problem) (f : ℕ → ℤ) (bound : ℤ) (low high : ℕ → ℤ) : Type 0 where
  pub feasible : IsFeasible p f (pos 1)
  pub bound_holds : BoundHolds p bound
  pub box_holds : BoxHolds p f low high
