use Rattle.std.proofs.Common.{◌≡◌, ◌<◌, ◌++◌, ℕ, pos, false, not, cond, List, length, sym, ap, ap₂, ◌∙◌, codes, arith}
use Rattle.fx_whole.proofs.CountLaws.{count_to-below}
use Rattle.fx_whole.proofs.EntryLaws.{below-within}
use Rattle.mj_types.specs.declared.rows.Row.{Row}
use Rattle.mj_types.specs.StepValues.{row, no_row, is_active, active_before, active_count}
use Rattle.mj_types.specs.declared.rows.StepReport.{StepReport}
use Rattle.mj_types.specs.Parts.{number_at}
use Rattle.mj_types.specs.Problems.{forces}
use Rattle.mj_trace.specs.Block.{force_text, bounds_text}
use Rattle.mj_trace.specs.Lines.{spaced}
use Rattle.mj_trace.specs.Reports.{of_active, report_rest}
use Rattle.mj_trace.proofs.Joining.{sent-as}
use Rattle.mj_trace.proofs.rows.send_rest.Goals as goal

-- a row that isn't idle is one of those in the dual
below-count : (rows : List Row) (i k : ℕ) → i < length rows → (row rows i).idle ≡ false → k ≡ active_before rows i → k < active_count rows
below-count rows i k h e is = rw is (count_to-below i (length rows) (is_active rows) h (ap not e))

-- the text of its force reads the lists below that count
rest-is : (x : StepReport) (i k : ℕ) (r : Row) → (row x.rows.list i).idle ≡ false → row x.rows.list i ≡ r → k ≡ active_before x.rows.list i → k < active_count x.rows.list
    → report_rest x i ≡ force_text (forces x.forces) (number_at x.cert.lo) (number_at x.cert.hi) k ++ bounds_text x.format r
rest-is x i k r e is at h =
    ap (λ b. cond b (codes " idle") (force_text (of_active x (forces x.forces)) (of_active x (number_at x.cert.lo)) (of_active x (number_at x.cert.hi)) (active_before x.rows.list i) ++ bounds_text x.format (row x.rows.list i))) e
    ∙ ap₂ (λ s t. s ++ bounds_text x.format t)
    (ap (λ j. force_text (of_active x (forces x.forces)) (of_active x (number_at x.cert.lo)) (of_active x (number_at x.cert.hi)) j) (sym at)
    ∙ ap₂ (λ s t. s ++ t)
    (ap₂ (λ s t. spaced s ++ spaced t) (below-within (pos 0) (active_count x.rows.list) (forces x.forces) k h) (below-within (pos 0) (active_count x.rows.list) (number_at x.cert.lo) k h))
    (ap spaced (below-within (pos 0) (active_count x.rows.list) (number_at x.cert.hi) k h)))
    is

pub send_active-requires-clause-f : goal.send_active-requires-clause-f
send_active-requires-clause-f g c =
    let h = below-count c.args.report.now.rows.list c.args.i c.args.k c.requires.row (ap (λ r. r.idle) (c.entry-row.ensures no_row) ∙ c.if-row.false) c.requires.active in
    let f = c.requires.report.f in omega arith

pub send_active-requires-clause-lo : goal.send_active-requires-clause-lo
send_active-requires-clause-lo g c =
    let h = below-count c.args.report.now.rows.list c.args.i c.args.k c.requires.row (ap (λ r. r.idle) (c.entry-row.ensures no_row) ∙ c.if-row.false) c.requires.active in
    let f = c.requires.report.lo in omega arith

pub send_active-requires-clause-hi : goal.send_active-requires-clause-hi
send_active-requires-clause-hi g c =
    let h = below-count c.args.report.now.rows.list c.args.i c.args.k c.requires.row (ap (λ r. r.idle) (c.entry-row.ensures no_row) ∙ c.if-row.false) c.requires.active in
    let f = c.requires.report.hi in omega arith

pub returns-else-row : goal.returns-else-row
returns-else-row g c =
    let idle = ap (λ r. r.idle) (c.entry-row.ensures no_row) ∙ c.if-row.false in
    let h = below-count c.args.report.now.rows.list c.args.i c.args.k c.requires.row idle c.requires.active in
    sent-as (rest-is c.args.report.now c.args.i c.args.k c.entry-row.result.now idle (c.entry-row.ensures no_row) c.requires.active h) c.send_active.ensures
