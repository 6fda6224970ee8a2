use Rattle.std.proofs.Common.{ℕ, length, None, sym, ◌∙◌}
use Rattle.std.proofs.lemmas.Result.{err_from_is_err_and}
use Rattle.fx_whole.specs.First.{or_first, first_to}
use Rattle.fx_whole.proofs.FirstLaws.{stop_first, pass_first}
use Rattle.mj_kin.specs.Bodies.{body_fault, inertia_fault}
use Rattle.mj_kin.specs.Columns.{column, column_fault}
use Rattle.mj_kin.specs.Placings.{geom_fault}
use Rattle.mj_kin.proofs.FrameLaws.{light-is, placing-is, within-all}
use Rattle.mj_kin.proofs.PlaceLaws.{columns_begin, marked-all}
use Rattle.mj_kin.proofs.placing.frames.Goals as goal

pub finish_columns-requires-clause-columns : goal.finish_columns-requires-clause-columns
finish_columns-requires-clause-columns c =
    let m = c.args.model.now in
    let f = c.place_bodies.new.out in
    columns_begin m c.args.state.now f.anchor f.column (marked-all m c.args.state.now f c.in_ok-place_bodies.ensures.placed)

pub returns-in_err-judge_inertias-clause-first : goal.returns-in_err-judge_inertias-clause-first
returns-in_err-judge_inertias-clause-first c =
    let m = c.args.model.now in
    let s = c.args.state.now in
    let f = c.place_bodies.new.out in
    let bodies = first_to (length m.bodies) (body_fault m s) in
    let geoms = first_to (length m.geoms) (geom_fault m s) in
    let inertias = first_to (length m.bodies) (inertia_fault m s) in
    let columns = first_to m.nv (λ (d : ℕ). column_fault d (column m s d)) in
    let e = err_from_is_err_and c.from_residual-in_err-judge_inertias.result c.from_residual-in_err-judge_inertias.ensures.1 in
    rw (e.1, e.2)
    (pass_first bodies (or_first geoms (or_first inertias columns)) _ c.in_ok-place_bodies.ensures.first
    (pass_first geoms (or_first inertias columns) _ c.in_ok-place_geoms.ensures.first
    (stop_first inertias columns _
    (c.in_err-judge_inertias.ensures ∙ light-is m s f.inertia c.place_bodies.ensures.room.inertia c.in_ok-place_bodies.ensures.placed.massed.inertias_))))

pub returns-in_err-finish_columns-clause-first : goal.returns-in_err-finish_columns-clause-first
returns-in_err-finish_columns-clause-first c =
    let m = c.args.model.now in
    let s = c.args.state.now in
    let f = c.place_bodies.new.out in
    let bodies = first_to (length m.bodies) (body_fault m s) in
    let geoms = first_to (length m.geoms) (geom_fault m s) in
    let inertias = first_to (length m.bodies) (inertia_fault m s) in
    let columns = first_to m.nv (λ (d : ℕ). column_fault d (column m s d)) in
    let e = err_from_is_err_and c.from_residual-in_err-finish_columns.result c.from_residual-in_err-finish_columns.ensures.1 in
    rw (e.1, e.2)
    (pass_first bodies (or_first geoms (or_first inertias columns)) _ c.in_ok-place_bodies.ensures.first
    (pass_first geoms (or_first inertias columns) _ c.in_ok-place_geoms.ensures.first
    (pass_first inertias columns _
    (c.in_ok-judge_inertias.ensures ∙ light-is m s f.inertia c.place_bodies.ensures.room.inertia c.in_ok-place_bodies.ensures.placed.massed.inertias_)
    c.in_err-finish_columns.ensures.first)))

pub returns-clause-first : goal.returns-clause-first
returns-clause-first c =
    let m = c.args.model.now in
    let s = c.args.state.now in
    let f = c.place_bodies.new.out in
    let bodies = first_to (length m.bodies) (body_fault m s) in
    let geoms = first_to (length m.geoms) (geom_fault m s) in
    let inertias = first_to (length m.bodies) (inertia_fault m s) in
    let columns = first_to m.nv (λ (d : ℕ). column_fault d (column m s d)) in
    pass_first bodies (or_first geoms (or_first inertias columns)) None c.in_ok-place_bodies.ensures.first
    (pass_first geoms (or_first inertias columns) None c.in_ok-place_geoms.ensures.first
    (pass_first inertias columns None
    (c.in_ok-judge_inertias.ensures ∙ light-is m s f.inertia c.place_bodies.ensures.room.inertia c.in_ok-place_bodies.ensures.placed.massed.inertias_)
    c.in_ok-finish_columns.ensures.first))

pub returns-clause-values : goal.returns-clause-values
returns-clause-values c =
    let placed = c.in_ok-place_bodies.ensures.placed in
    let room = c.place_bodies.ensures.room in
    placing-is c.args.model.now c.args.state.now _
    (record { pos_ = room.pos_; quat = room.quat; com_ = room.com_; inertia = room.inertia; column = c.finish_columns.ensures.room; gpos = c.place_geoms.ensures.places; gquat = c.place_geoms.ensures.turns; anchor = room.anchor; axis = room.axis })
    placed.posed placed.massed c.in_ok-place_geoms.ensures.set c.in_ok-finish_columns.ensures.columns

pub returns-clause-ranges : goal.returns-clause-ranges
returns-clause-ranges c =
    let placed = c.in_ok-place_bodies.ensures.placed in
    let room = c.place_bodies.ensures.room in
    within-all c.args.model.now c.args.state.now _
    (record { pos_ = room.pos_; quat = room.quat; com_ = room.com_; inertia = room.inertia; column = c.finish_columns.ensures.room; gpos = c.place_geoms.ensures.places; gquat = c.place_geoms.ensures.turns; anchor = room.anchor; axis = room.axis })
    placed.posed placed.massed c.in_ok-place_geoms.ensures.set c.in_ok-finish_columns.ensures.columns (sym c.in_ok-judge_inertias.ensures)
