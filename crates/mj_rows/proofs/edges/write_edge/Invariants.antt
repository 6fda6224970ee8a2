use Rattle.std.proofs.Common.{◌≡◌, ℕ, ◌^◌, ◌<◌, ◌≤◌, unsigned_abs, None}
use Rattle.fx_whole.specs.First.{first_to}
use Rattle.mj_types.specs.declared.range.Quantity.TheVariants as kind
use Rattle.mj_types.specs.Parts.{number_at}
use Rattle.mj_types.specs.Ranges.{limited}
use Rattle.mj_rows.specs.Edges.{edge_slope}
use Rattle.mj_rows.specs.Slopes.{slope_at}
use Rattle.mj_rows.proofs.edges.write_edge.Given as goal

abbrev pub invariant-loop-d : goal.invariant-loop-d
invariant-loop-d l = record {
  value : (k : ℕ) → k < l.d → number_at l.jacobian k
      ≡ edge_slope l.friction.mid (slope_at l.slopes k).normal.mid (slope_at l.slopes k).first.mid (slope_at l.slopes k).second.mid l.edge;
  small : (k : ℕ) → k < l.d → unsigned_abs (number_at l.jacobian k) ≤ 2 ^ 48;
  passed : first_to l.d (λ k. limited kind.Jacobian l.number (2 ^ 48)
      (edge_slope l.friction.mid (slope_at l.slopes k).normal.mid (slope_at l.slopes k).first.mid (slope_at l.slopes k).second.mid l.edge)) ≡ None;
}
