use Rattle.std.proofs.Common.{◌≡◌, ℕ, ◌+◌, ◌<◌, ◌≤◌, None}
use Rattle.fx_whole.specs.First.{first_to}
use Rattle.mj_tree.specs.Listing.{start}
use Rattle.mj_types.specs.FactorRooms.{FactorRoom}
use Rattle.mj_types.specs.Forests.{above_in}
use Rattle.mj_types.specs.Parts.{number_at}
use Rattle.mj_factor.specs.Factors.{entry_fault}
use Rattle.mj_factor.specs.Stored.{work_there, lower_there}
use Rattle.mj_factor.proofs.factoring.write_entries.Given as goal

abbrev pub invariant-loop-c : goal.invariant-loop-c
invariant-loop-c l = record {
  room : FactorRoom l.model l.out;
  names : l.out.above ≡ l.initial.out.above;
  pivots : l.out.d ≡ l.initial.out.d;
  works : (e : ℕ) → e < l.c → number_at l.out.w (start (above_in l.model) l.k + e) ≡ work_there l.model l.mass l.initial.out.above l.sums l.k e;
  lowers : (e : ℕ) → e < l.c → number_at l.out.l (start (above_in l.model) l.k + e) ≡ lower_there l.model l.mass l.initial.out.above l.sums l.by.d l.k e;
  later_works : (p : ℕ) → start (above_in l.model) (l.k + 1) ≤ p → number_at l.out.w p ≡ number_at l.initial.out.w p;
  later_lowers : (p : ℕ) → start (above_in l.model) (l.k + 1) ≤ p → number_at l.out.l p ≡ number_at l.initial.out.l p;
  passed : first_to l.c (λ e. entry_fault l.k (work_there l.model l.mass l.initial.out.above l.sums l.k e) (lower_there l.model l.mass l.initial.out.above l.sums l.by.d l.k e)) ≡ None;
}
