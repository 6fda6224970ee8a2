use Rattle.std.proofs.Common.{◌≡◌, None}
use Rattle.fx_whole.specs.First.{first_to}
use Rattle.mj_types.specs.Placed.{inertia_at}
use Rattle.mj_kin.specs.Bodies.{light_fault}
use Rattle.mj_kin.proofs.inertias.judge_inertias.Given as goal

abbrev pub invariant-loop-b : goal.invariant-loop-b
invariant-loop-b l = record {
  passed : first_to l.b (λ b. light_fault b (inertia_at l.inertias b)) ≡ None;
}
