use Rattle.std.proofs.Common.{ap₂, ◌∙◌}
use Rattle.std.proofs.lemmas.Result.{err_from_is_err_and}
use Rattle.mj_types.specs.declared.parts.Geom.{Geom}
use Rattle.mj_types.specs.Placed.{placing_of}
use Rattle.mj_rows.specs.Mixing.{friction}
use Rattle.mj_rows.proofs.EdgeLaws.{edge_fault, edge_written}
use Rattle.mj_rows.proofs.edges.edge.Goals as goal

pub returns-in_err-write_edge-clause-first : goal.returns-in_err-write_edge-clause-first
returns-in_err-write_edge-clause-first c =
    let m = c.args.model.now in
    let r = err_from_is_err_and c.from_residual.result c.from_residual.ensures.1 in
    let mu = c.friction-friction.ensures ∙ ap₂ (λ (a b : Geom). friction a b) c.geom_of-a.ensures.value c.geom_of-b.ensures.value in
    rw (r.1, r.2)
    (c.in_err-write_edge.ensures.first
    ∙ edge_fault m (placing_of c.args.frames.now) c.args.contact.now c.args.edge c.friction-friction.result.mid mu c.args.slopes.now c.requires.slopes c.args.k c.args.number)

pub returns-clause-written : goal.returns-clause-written
returns-clause-written c =
    let m = c.args.model.now in
    let mu = c.friction-friction.ensures ∙ ap₂ (λ (a b : Geom). friction a b) c.geom_of-a.ensures.value c.geom_of-b.ensures.value in
    edge_written m (placing_of c.args.frames.now) c.args.contact.now c.args.edge c.friction-friction.result.mid mu c.args.slopes.now c.requires.slopes c.args.k c.write_edge.new.jacobian
    (c.write_edge.auto.jacobian ∙ c.requires.room) c.in_ok-write_edge.ensures.value c.in_ok-write_edge.ensures.small

pub returns-clause-first : goal.returns-clause-first
returns-clause-first c =
    let m = c.args.model.now in
    let mu = c.friction-friction.ensures ∙ ap₂ (λ (a b : Geom). friction a b) c.geom_of-a.ensures.value c.geom_of-b.ensures.value in
    c.in_ok-write_edge.ensures.first
    ∙ edge_fault m (placing_of c.args.frames.now) c.args.contact.now c.args.edge c.friction-friction.result.mid mu c.args.slopes.now c.requires.slopes c.args.k c.args.number
