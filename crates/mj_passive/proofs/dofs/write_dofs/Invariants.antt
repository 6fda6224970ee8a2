use Rattle.std.proofs.Common.{◌≡◌, ℕ, ◌+◌, ◌^◌, ◌<◌, None}
use Rattle.fx_whole.specs.First.{first_to}
use Rattle.mj_types.specs.declared.range.Quantity.TheVariants as kind
use Rattle.mj_types.specs.Duals.{wide_at}
use Rattle.mj_types.specs.Parts.{number_at}
use Rattle.mj_types.specs.Ranges.{limited}
use Rattle.mj_types.specs.Rooms.{AppliedRoom}
use Rattle.mj_passive.specs.Forces.{tau_of}
use Rattle.mj_passive.proofs.dofs.write_dofs.Given as goal

abbrev pub invariant-loop-d : goal.invariant-loop-d
invariant-loop-d l = record {
  room : AppliedRoom l.model l.out;
  lengths : l.out.length ≡ l.initial.out.length;
  rates : l.out.rate ≡ l.initial.out.rate;
  tau : (k : ℕ) → k < l.d → number_at l.out.tau k ≡ tau_of l.model l.state (wide_at l.dofs k) k;
  passed : first_to l.d (λ k. limited kind.Applied (k + 1) (2 ^ 52) (tau_of l.model l.state (wide_at l.dofs k) k)) ≡ None;
}
