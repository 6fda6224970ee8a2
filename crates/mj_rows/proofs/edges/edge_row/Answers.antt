use Rattle.mj_types.specs.Placed.{placing_of}
use Rattle.mj_rows.proofs.EdgeLaws.{edge_row}
use Rattle.mj_rows.proofs.edges.edge_row.Goals as goal

pub returns-clause-row : goal.returns-clause-row
returns-clause-row c =
    edge_row c.args.model.now (placing_of c.args.frames.now) c.args.contact.now c.args.k c.args.edge c.geom_of-a.result.now c.geom_of-b.result.now c.depth.result.mid c.mixed-soft.result c.pushing.result
    c.geom_of-a.ensures.value c.geom_of-b.ensures.value c.depth.ensures.value c.mixed-soft.ensures.value c.pushing.ensures.row
