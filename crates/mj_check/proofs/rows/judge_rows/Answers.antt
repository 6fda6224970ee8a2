use Rattle.std.proofs.Common.{◌+◌, ◌∙◌, ℕ, List, [], length, Ok, Err, refl, sym, subst, inl, inr, arith}
use Rattle.std.proofs.lemmas.Result.{err_from_is_err_and}
use Rattle.std.proofs.lemmas.List.Elements.{All-nil}
use Rattle.mj_check.specs.Rows.{IsNextRow, IsRowAt, IsKept, MayStand, with_row}
use Rattle.mj_check.specs.Judging.{Each}
use Rattle.mj_check.specs.declared.rows.ActiveRow.{ActiveRow}
use Rattle.mj_check.proofs.JudgingLaws.{each-more, each-stops}
use Rattle.mj_check.proofs.KeptLaws.{Keeps, keeps-more}
use Rattle.mj_check.proofs.rows.judge_rows.Goals as goal

pub loop-i-init : goal.loop-i-init
loop-i-init c = rw c.clear.ensures (record {
  going = c.requires.going;
  most = refl;
  keeps = record { few = omega arith; idle = omega arith; active = omega (arith, c.requires.counts.idle.1); each = All-nil (IsKept c.args.bounds c.args.counts.now.rows) };
  lines = refl;
})

pub judge_row-requires-clause-going : goal.judge_row-requires-clause-going
judge_row-requires-clause-going c = c.loop-i.invariant.going

pub judge_row-requires-clause-small : goal.judge_row-requires-clause-small
judge_row-requires-clause-small c = let a = c.loop-i.invariant.keeps.active in let r = c.requires.counts.rows.1 in let n = c.len.ensures.count in omega arith

pub returns-in_err-row-clause-most : goal.returns-in_err-row-clause-most
returns-in_err-row-clause-most c = c.loop-i.invariant.most

pub returns-in_err-row-clause-lines : goal.returns-in_err-row-clause-lines
returns-in_err-row-clause-lines c =
    let q = err_from_is_err_and c.from_residual.result c.from_residual.ensures.1 in
    let e = c.in_err-row.field-0.0 in
    let line : IsRowAt c.args.bounds c.args.counts.now c.loop-i.i (length c.loop-i.rows.list) (c.args.line + c.loop-i.i) c.loop-i.scan.rest (Err e) = rw c.len.ensures.count at c.in_err-row.ensures.line in
    let one = IsNextRow c.args.bounds c.args.counts.now c.args.line in
    rw (q.1, q.2) (each-stops one c.args.counts.now.rows (c.loop-i.i + 1) ([], c.args.scan.now.rest) e (omega arith)
    (each-more one c.loop-i.i ([], c.args.scan.now.rest) (c.loop-i.rows.list, c.loop-i.scan.rest) (Err e) c.loop-i.invariant.lines (inr (e, line, refl))))

pub loop-i-preserved : goal.loop-i-preserved
loop-i-preserved c =
    let one = IsNextRow c.args.bounds c.args.counts.now c.args.line in
    let from : List ActiveRow × List ℕ = ([], c.args.scan.now.rest) in
    let rest = c.judge_row.new.scan.rest in
    let row = c.in_ok-row.row in
    let rows = c.loop-i.rows.list in
    let place : MayStand c.args.counts.now c.loop-i.i (length rows) row.told = rw c.len.ensures.count at c.in_ok-row.ensures.good.place in
    let line : IsRowAt c.args.bounds c.args.counts.now c.loop-i.i (length rows) (c.args.line + c.loop-i.i) c.loop-i.scan.rest (Ok (row, rest)) = rw c.len.ensures.count at c.in_ok-row.ensures.line in
    record {
      going = c.in_ok-row.ensures.going;
      most = c.keep.ensures.most ∙ c.loop-i.invariant.most;
      keeps = subst (λ (x : List ActiveRow). Keeps c.args.bounds c.args.counts.now (c.loop-i.i + 1) x) (sym c.keep.ensures.list)
          (keeps-more c.args.bounds c.args.counts.now c.loop-i.i rows row.told c.loop-i-test.true place c.in_ok-row.ensures.good.row.told c.in_ok-row.ensures.within c.loop-i.invariant.keeps);
      lines = subst (λ (x : List ActiveRow). Each one (c.loop-i.i + 1) from (Ok (x, rest))) (sym c.keep.ensures.list)
          (each-more one c.loop-i.i from (rows, c.loop-i.scan.rest) (Ok (with_row (c.loop-i.i + 1) row.told rows, rest)) c.loop-i.invariant.lines (inl ((row, rest), line, refl)));
    }
