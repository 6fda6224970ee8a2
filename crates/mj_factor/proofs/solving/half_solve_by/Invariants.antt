use Rattle.std.proofs.Common.{◌≡◌, ℕ, ◌-◌, ◌^◌, ◌<◌, ◌≤◌, unsigned_abs, None}
use Rattle.fx_whole.specs.First.{first_to}
use Rattle.mj_types.specs.Forests.{above_in}
use Rattle.mj_types.specs.Parts.{number_at}
use Rattle.mj_factor.specs.Solves.{back, half, reduced_fault}
use Rattle.mj_factor.specs.Stored.{entry}
use Rattle.mj_factor.proofs.BackLaws.{IsBackTo}
use Rattle.mj_factor.proofs.solving.half_solve_by.Given as goal

abbrev pub invariant-loop-s : goal.invariant-loop-s
invariant-loop-s l = record {
  far : IsBackTo l.model l.factor (number_at l.row) (l.model.nv - l.s) l.sums;
  numbers : (k : ℕ) → l.model.nv - l.s ≤ k → k < l.model.nv → number_at l.out k ≡ half l.model.nv (entry (above_in l.model) l.factor.l) (number_at l.factor.d) (number_at l.row) k;
  small : (k : ℕ) → l.model.nv - l.s ≤ k → k < l.model.nv → unsigned_abs (number_at l.out k) ≤ 2 ^ 44;
  passed : first_to l.s (λ s. reduced_fault (l.model.nv - 1 - s) (back l.model.nv (entry (above_in l.model) l.factor.l) (number_at l.row) (l.model.nv - 1 - s)) (half l.model.nv (entry (above_in l.model) l.factor.l) (number_at l.factor.d) (number_at l.row) (l.model.nv - 1 - s))) ≡ None;
}
