use Rattle.std.proofs.Common.{◌≡◌, ℕ, ◌+◌, ◌^◌, ◌<◌, ◌≤◌, ◌+ℤ◌, unsigned_abs, length, None}
use Rattle.fx_whole.specs.First.{first_to}
use Rattle.fx_num.specs.Settled.{settled_mid}
use Rattle.mj_types.specs.declared.range.Quantity.TheVariants as kind
use Rattle.mj_types.specs.Parts.{number_at}
use Rattle.mj_types.specs.Ranges.{limited}
use Rattle.mj_step.specs.Workspace.{push_of}
use Rattle.mj_step.proofs.loading.fill_load.Given as goal

abbrev pub invariant-loop-i : goal.invariant-loop-i
invariant-loop-i l = record {
  len : length l.load ≡ length l.initial.load;
  value : (k : ℕ) → k < l.i → number_at l.load k ≡ number_at l.free k +ℤ settled_mid (push_of l.nv l.rows l.dual l.forces k) 20;
  small : (k : ℕ) → k < l.i → unsigned_abs (number_at l.load k) ≤ 2 ^ 54;
  passed : first_to l.i (λ k. limited kind.Load (k + 1) (2 ^ 54) (number_at l.free k +ℤ settled_mid (push_of l.nv l.rows l.dual l.forces k) 20)) ≡ None;
}
