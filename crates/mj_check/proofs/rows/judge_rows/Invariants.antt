use Rattle.std.proofs.Common.{◌≡◌, true, [], Ok}
use Rattle.mj_check.specs.Judging.{Each}
use Rattle.mj_check.specs.Rows.{IsNextRow}
use Rattle.mj_check.proofs.KeptLaws.{Keeps}
use Rattle.mj_check.proofs.rows.judge_rows.Given as goal

abbrev pub invariant-loop-i : goal.invariant-loop-i
invariant-loop-i l = record {
  going : l.scan.going ≡ true;
  most : l.rows.most ≡ l.fn.rows.most;
  keeps : Keeps l.bounds l.counts l.i l.rows.list;
  lines : Each (IsNextRow l.bounds l.counts l.line) l.i ([], l.fn.scan.rest) (Ok (l.rows.list, l.scan.rest));
}
