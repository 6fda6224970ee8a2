use Rattle.std.proofs.Common.{ℕ, ◌+◌, sym, ap, ◌∙◌}
use Rattle.std.proofs.lemmas.Result.{err_from_is_err_and}
use Rattle.mj_types.specs.Placed.{placing_of}
use Rattle.mj_rows.specs.Constraint.{row_fault}
use Rattle.mj_rows.specs.Edges.{edge_of}
use Rattle.mj_dual.specs.Reductions.{dynamics}
use Rattle.mj_dual.proofs.RowLaws.{one-out}
use Rattle.mj_dual.proofs.contacts.take_edge.Goals as goal

pub returns-in_err-row : goal.returns-in_err-row
returns-in_err-row c =
    let part = edge_of c.args.model.now (placing_of c.args.frames.now) c.args.contact.now c.args.k c.args.number in
    let at = ap (λ (k : ℕ). k + 1) c.len-place.ensures.count in
    let p = err_from_is_err_and c.from_residual.result c.from_residual.ensures.1 in
    rw (p.1, p.2)
    (one-out c.args.model.now (dynamics c.args.model.now c.args.state.now c.args.factor.now c.args.smooth.now) part c.args.rows.now c.args.out.now _ _ c.requires.open_ at c.in_err-row.ensures.first)

pub returns : goal.returns
returns c =
    let part = edge_of c.args.model.now (placing_of c.args.frames.now) c.args.contact.now c.args.k c.args.number in
    let at = ap (λ (k : ℕ). k + 1) c.len-place.ensures.count in
    c.take_row.ensures part c.in_ok-row.ensures.row c.in_ok-row.ensures.written.whole
    (sym (c.in_ok-row.ensures.first ∙ ap (λ (k : ℕ). row_fault c.args.model.now.nv k part) at))
