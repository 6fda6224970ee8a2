use Rattle.std.proofs.Common.{◌≡◌, ℕ, ◌-◌, ◌<◌, ◌≤◌, None}
use Rattle.fx_whole.specs.First.{first_to}
use Rattle.mj_types.specs.Forests.{above_in}
use Rattle.mj_types.specs.Parts.{number_at}
use Rattle.mj_factor.specs.Solves.{back, accel_fault}
use Rattle.mj_factor.specs.Stored.{entry}
use Rattle.mj_factor.proofs.BackLaws.{IsBackTo}
use Rattle.mj_factor.proofs.passes.go_back.Given as goal

abbrev pub invariant-loop-s : goal.invariant-loop-s
invariant-loop-s l = record {
  far : IsBackTo l.model l.factor (number_at l.rhs) (l.model.nv - l.s) l.sums;
  numbers : (k : ℕ) → l.model.nv - l.s ≤ k → k < l.model.nv → number_at l.out k ≡ back l.model.nv (entry (above_in l.model) l.factor.l) (number_at l.rhs) k;
  passed : first_to l.s (λ s. accel_fault (l.model.nv - 1 - s) (back l.model.nv (entry (above_in l.model) l.factor.l) (number_at l.rhs) (l.model.nv - 1 - s))) ≡ None;
}
