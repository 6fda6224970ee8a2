use Rattle.std.proofs.Common.{◌≡◌, List, [], true, Ok}
use Rattle.mj_check.specs.Judging.{Each}
use Rattle.mj_check.specs.Lines.{DualTold, IsNextDualRow}
use Rattle.mj_check.specs.Stated.{HasPlaces, States}
use Rattle.mj_check.proofs.dual.judge_dual_rows.Given as goal

abbrev pub invariant-loop-i : goal.invariant-loop-i
invariant-loop-i l = record {
  going : l.scan.going ≡ true;
  room : HasPlaces l.making;
  nv : l.making.dual.nv ≡ l.fn.making.dual.nv;
  m : l.making.dual.m ≡ l.i;
  lines : (duals : List DualTold) × States l.making.dual l.rows.list duals × Each (IsNextDualRow l.bounds l.fn.making.dual.nv l.rows.list l.line) l.i ([], l.fn.scan.rest) (Ok (duals, l.scan.rest));
}
