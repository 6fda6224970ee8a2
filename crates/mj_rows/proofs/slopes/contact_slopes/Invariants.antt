use Rattle.std.proofs.Common.{◌≡◌, None}
use Rattle.mj_types.specs.Placed.{placing_of}
use Rattle.mj_rows.specs.Constraint.{levers_fault}
use Rattle.mj_rows.specs.Edges.{lever_of}
use Rattle.mj_rows.specs.Slopes.{AreSlopes}
use Rattle.mj_rows.proofs.slopes.contact_slopes.Given as goal

abbrev pub invariant-loop-d : goal.invariant-loop-d
invariant-loop-d l = record {
  slopes : AreSlopes l.model (placing_of l.frames) l.contact l.d l.out;
  passed : levers_fault l.d l.number (lever_of l.model (placing_of l.frames) l.contact) ≡ None;
}
