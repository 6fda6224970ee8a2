use Rattle.std.proofs.Common.{◌≡◌, ℕ, ◌+ℤ◌}
use Rattle.mj_types.specs.Duals.{wide_at}
use Rattle.mj_factor.proofs.ScatterLaws.{scattered}
use Rattle.mj_factor.proofs.passes.add_listed.Given as goal

abbrev pub invariant-loop-c : goal.invariant-loop-c
invariant-loop-c l = (i : ℕ) → wide_at l.sums i ≡ wide_at l.initial.sums i +ℤ scattered l.model l.factor l.k l.y.mid l.c i
