use Rattle.std.proofs.Common.{◌≡◌, ℕ, ◌≤◌}
use Rattle.fx_whole.specs.Sums.{sum_to}
use Rattle.mj_tree.specs.Listing.{height}
use Rattle.mj_types.specs.Duals.{wide_at}
use Rattle.mj_types.specs.Forests.{above_in}
use Rattle.mj_types.specs.Parts.{number_at}
use Rattle.mj_factor.specs.Stored.{row_term}
use Rattle.mj_factor.proofs.factoring.add_rows.Given as goal

abbrev pub invariant-loop-j : goal.invariant-loop-j
invariant-loop-j l =
    (e : ℕ) → e ≤ height (above_in l.model) l.k → wide_at l.sums e ≡ sum_to l.j (row_term (above_in l.model) (number_at l.factor.l) (number_at l.factor.w) l.k e)
