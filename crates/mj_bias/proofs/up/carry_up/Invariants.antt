use Rattle.std.proofs.Common.{◌≡◌, ℕ, ◌+◌, ◌-◌, ◌≤◌, length}
use Rattle.mj_bias.specs.Measures.{totals_at}
use Rattle.mj_bias.proofs.RiseLaws.{held_there}
use Rattle.mj_bias.proofs.up.carry_up.Given as goal

abbrev pub invariant-loop-s : goal.invariant-loop-s
invariant-loop-s g l = record {
  len : length l.wrench ≡ length l.model.bodies + 1;
  sums : (k : ℕ) → k ≤ length l.model.bodies → totals_at g.K.Carry.wide_width l.wrench k ≡ held_there l.model (totals_at g.K.Carry.wide_width l.initial.wrench) (length l.model.bodies - l.s) k;
}
