use Rattle.std.proofs.Common.{◌≡◌, ℕ, ◌^◌, ◌<◌, ◌≤◌, unsigned_abs, None}
use Rattle.fx_whole.specs.First.{or_first, first_to}
use Rattle.mj_types.specs.Forests.{above_in}
use Rattle.mj_types.specs.Parts.{number_at}
use Rattle.mj_factor.specs.Solves.{forth, over_pivots, accel_fault}
use Rattle.mj_factor.specs.Stored.{entry}
use Rattle.mj_factor.proofs.passes.go_forth.Given as goal

abbrev pub invariant-loop-i : goal.invariant-loop-i
invariant-loop-i l = record {
  numbers : (k : ℕ) → k < l.i → number_at l.a k ≡ forth (entry (above_in l.model) l.factor.l) (over_pivots (number_at l.factor.d) (number_at l.initial.a)) k;
  small : (k : ℕ) → k < l.i → unsigned_abs (number_at l.a k) ≤ 2 ^ 56;
  rest : (k : ℕ) → l.i ≤ k → number_at l.a k ≡ number_at l.initial.a k;
  passed : first_to l.i (λ k. or_first (accel_fault k (over_pivots (number_at l.factor.d) (number_at l.initial.a) k)) (accel_fault k (forth (entry (above_in l.model) l.factor.l) (over_pivots (number_at l.factor.d) (number_at l.initial.a)) k))) ≡ None;
}
