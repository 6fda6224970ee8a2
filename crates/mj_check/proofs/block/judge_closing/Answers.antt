use Rattle.std.proofs.Common.{◌+◌, Ok, Err, length, refl, sym, ◌∙◌, inl, inr}
use Rattle.std.proofs.lemmas.Result.{err_from_is_err_and}
use Rattle.mj_trace.specs.Block.{stop_text}
use Rattle.mj_check.specs.Judging.{Line, Passes, found_as}
use Rattle.mj_check.specs.Lines.{IsStop, IsCost, cost_line}
use Rattle.mj_check.specs.Numbers.{IsJudgedBy}
use Rattle.mj_check.specs.Verdict.{IsBallAt}
use Rattle.mj_check.proofs.block.judge_closing.Goals as goal

pub returns-in_err-judge_dual-clause-closed : goal.returns-in_err-judge_dual-clause-closed
returns-in_err-judge_dual-clause-closed c =
    let q = err_from_is_err_and c.from_residual-in_err-judge_dual.result c.from_residual-in_err-judge_dual.ensures.1 in
    let m = length c.args.room.now.rows.list in
    let stop : Passes (IsStop m) stop_text c.args.line c.args.scan.now.rest (Ok c.find_stop.new.scan.rest) = rw c.len-m.ensures.count at c.in_ok-find_stop.ensures.line in
    let cost : Line (IsCost m) cost_line (c.args.line + 1) c.find_stop.new.scan.rest (Ok (c.in_ok-told.told, c.find_cost.new.scan.rest)) = rw c.len-m.ensures.count at c.in_ok-told.ensures.line in
    rw (q.1, q.2) (inl (c.find_stop.new.scan.rest, stop, inl ((c.in_ok-told.told, c.find_cost.new.scan.rest), cost, inr (_, c.in_err-judge_dual.ensures.lines.2, refl))))

pub returns-in_err-judge_numbers-clause-closed : goal.returns-in_err-judge_numbers-clause-closed
returns-in_err-judge_numbers-clause-closed c =
    let q = err_from_is_err_and c.from_residual-in_err-judge_numbers.result c.from_residual-in_err-judge_numbers.ensures.1 in
    let rows = c.args.room.now.rows.list in
    let stop : Passes (IsStop (length rows)) stop_text c.args.line c.args.scan.now.rest (Ok c.find_stop.new.scan.rest) = rw c.len-m.ensures.count at c.in_ok-find_stop.ensures.line in
    let cost : Line (IsCost (length rows)) cost_line (c.args.line + 1) c.find_stop.new.scan.rest (Ok (c.in_ok-told.told, c.find_cost.new.scan.rest)) = rw c.len-m.ensures.count at c.in_ok-told.ensures.line in
    let dual = c.in_ok-judge_dual.ensures.lines in
    let judged : IsJudgedBy c.args.room.now.making.dual.nv rows dual.0 c.in_ok-told.told c.args.first (c.args.line + 1) (Err c.in_err-judge_numbers.field-0.0) =
    rw c.judge_dual.ensures.nv at (c.in_err-judge_numbers.ensures.numbers dual.0 dual.1 (sym dual.1.count ∙ c.in_ok-judge_dual.ensures.m)) in
    rw (q.1, q.2) (inl (c.find_stop.new.scan.rest, stop, inl ((c.in_ok-told.told, c.find_cost.new.scan.rest), cost, inl ((dual.0, c.judge_dual.new.scan.rest), dual.2, inr (_, judged, refl)))))

pub returns-clause-closed : goal.returns-clause-closed
returns-clause-closed c =
    let rows = c.args.room.now.rows.list in
    let stop : Passes (IsStop (length rows)) stop_text c.args.line c.args.scan.now.rest (Ok c.find_stop.new.scan.rest) = rw c.len-m.ensures.count at c.in_ok-find_stop.ensures.line in
    let cost : Line (IsCost (length rows)) cost_line (c.args.line + 1) c.find_stop.new.scan.rest (Ok (c.in_ok-told.told, c.find_cost.new.scan.rest)) = rw c.len-m.ensures.count at c.in_ok-told.ensures.line in
    let dual = c.in_ok-judge_dual.ensures.lines in
    let judged : IsJudgedBy c.args.room.now.making.dual.nv rows dual.0 c.in_ok-told.told c.args.first (c.args.line + 1) (Ok tt) =
    rw c.judge_dual.ensures.nv at (c.in_ok-judge_numbers.ensures.numbers dual.0 dual.1 (sym dual.1.count ∙ c.in_ok-judge_dual.ensures.m)) in
    let ball : IsBallAt (c.args.line + 3 + length rows) c.judge_dual.new.scan.rest (found_as (λ n. (n, c.judge_ball.new.scan.rest)) c.judge_ball.result) = rw c.len-m.ensures.count at c.judge_ball.ensures.ball in
    inl (c.find_stop.new.scan.rest, stop, inl ((c.in_ok-told.told, c.find_cost.new.scan.rest), cost, inl ((dual.0, c.judge_dual.new.scan.rest), dual.2, inl (tt, judged, ball))))
