use Rattle.std.proofs.Common.{◌≡◌, ◌+◌, ◌++◌, ◌∷◌, [], ℕ, List, Result, Ok, Err, refl, sym, ap, ◌∙◌, subst, inl, inr, arith, length}
use Rattle.std.proofs.lemmas.Result.{err_from_is_err_and}
use Rattle.mj_check.specs.declared.rejection.Rejection.{Rejection}
use Rattle.mj_check.specs.declared.rows.ActiveRow.{ActiveRow}
use Rattle.mj_check.specs.Lines.{DualTold, IsDualRowAt, IsNextDualRow}
use Rattle.mj_check.specs.Rows.{row_at, no_row}
use Rattle.mj_check.specs.Stated.{StatesRow}
use Rattle.mj_check.proofs.JudgingLaws.{each-more, each-stops}
use Rattle.mj_check.proofs.DualLaws.{row-at-same, states-more}
use Rattle.mj_check.proofs.dual.judge_dual_rows.Goals as goal

pub returns-in_err-take_dual_row-clause-lines : goal.returns-in_err-take_dual_row-clause-lines
returns-in_err-take_dual_row-clause-lines c =
    let q = err_from_is_err_and c.from_residual.result c.from_residual.ensures.1 in
    let duals : List DualTold = c.loop-i.invariant.lines.0 in
    let rows = c.args.rows.now.list in
    let nv = c.args.making.now.dual.nv in
    let one : ℕ → List DualTold × List ℕ → Result (List DualTold × List ℕ) Rejection → Type 0 = IsNextDualRow c.args.bounds nv rows c.args.line in
    let e : Rejection = c.in_err-take_dual_row.field-0.0 in
    let start : List DualTold × List ℕ = ([], c.args.scan.now.rest) in
    let here : IsDualRowAt c.args.bounds nv (row_at rows c.loop-i.i) (c.args.line + c.loop-i.i) c.loop-i.scan.rest (Err e) =
    row-at-same c.args.bounds c.loop-i.making.dual.nv nv rows c.entry.result.now c.loop-i.i (c.args.line + c.loop-i.i) c.loop-i.scan.rest (Err e) c.loop-i.invariant.nv (c.entry.ensures no_row) c.in_err-take_dual_row.ensures.line.2 in
    rw (q.1, q.2) (duals, tt, each-stops one (length rows) (c.loop-i.i + 1) start e (omega arith) (each-more one c.loop-i.i start (duals, c.loop-i.scan.rest) (Err e) c.loop-i.invariant.lines.2 (inr (e, here, refl))))

pub loop-i-preserved : goal.loop-i-preserved
loop-i-preserved c =
    let duals : List DualTold = c.loop-i.invariant.lines.0 in
    let rows = c.args.rows.now.list in
    let nv = c.args.making.now.dual.nv in
    let one : ℕ → List DualTold × List ℕ → Result (List DualTold × List ℕ) Rejection → Type 0 = IsNextDualRow c.args.bounds nv rows c.args.line in
    let start : List DualTold × List ℕ = ([], c.args.scan.now.rest) in
    let told : DualTold = c.in_ok-take_dual_row.ensures.line.0 in
    let rest = c.take_dual_row.new.scan.rest in
    let row : row_at rows c.loop-i.i ≡ c.entry.result.now = c.entry.ensures no_row in
    let m = c.loop-i.invariant.m in
    let found : DualTold × List ℕ = (told, rest) in
    let here : IsDualRowAt c.args.bounds nv (row_at rows c.loop-i.i) (c.args.line + c.loop-i.i) c.loop-i.scan.rest (Ok found) =
    row-at-same c.args.bounds c.loop-i.making.dual.nv nv rows c.entry.result.now c.loop-i.i (c.args.line + c.loop-i.i) c.loop-i.scan.rest (Ok found) c.loop-i.invariant.nv row c.in_ok-take_dual_row.ensures.line.2 in
    let states : StatesRow c.take_dual_row.new.making.dual (row_at rows c.loop-i.making.dual.m) told c.loop-i.making.dual.m =
    subst (λ (x : ActiveRow). StatesRow c.take_dual_row.new.making.dual x told c.loop-i.making.dual.m) (sym (ap (row_at rows) m ∙ row)) c.in_ok-take_dual_row.ensures.line.1 in
    record {
      going = c.in_ok-take_dual_row.ensures.going;
      room = c.take_dual_row.ensures.room;
      nv = c.take_dual_row.ensures.nv ∙ c.loop-i.invariant.nv;
      m = c.in_ok-take_dual_row.ensures.m ∙ ap (λ (k : ℕ). k + 1) m;
      lines = (
        duals ++ (told ∷ []),
        states-more c.loop-i.making.dual c.take_dual_row.new.making.dual rows duals told c.take_dual_row.ensures.nv c.in_ok-take_dual_row.ensures.m c.in_ok-take_dual_row.ensures.before states c.loop-i.invariant.lines.1,
        each-more one c.loop-i.i start (duals, c.loop-i.scan.rest) (Ok (duals ++ (told ∷ []), rest)) c.loop-i.invariant.lines.2 (inl (found, here, refl)),
      );
    }
