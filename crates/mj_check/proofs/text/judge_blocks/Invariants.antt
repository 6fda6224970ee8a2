use Rattle.std.proofs.Common.{◌≡◌, ◌+◌, ◌*◌, ◌≤◌, true, Ok}
use Rattle.mj_check.specs.Judging.{Each}
use Rattle.mj_check.specs.Places.{HasPlaces}
use Rattle.mj_check.specs.Verdict.{IsBlock}
use Rattle.mj_check.proofs.text.judge_blocks.Given as goal

abbrev pub invariant-loop-k : goal.invariant-loop-k
invariant-loop-k l = record {
  going : l.scan.going ≡ true;
  room : HasPlaces l.room;
  nv : l.room.making.dual.nv ≡ l.header.nv;
  small : l.line ≤ 2 + l.k * 2060;
  blocks : Each (λ j. IsBlock l.header (j + 1)) l.k (2, l.fn.scan.rest) (Ok (l.line, l.scan.rest));
}
