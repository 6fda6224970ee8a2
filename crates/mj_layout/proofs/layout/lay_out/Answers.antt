use Rattle.mj_layout.proofs.PlacedLaws.{list-placed, list-places, list-length, count-placed, positions-placed, layout-is}
use Rattle.mj_layout.proofs.layout.lay_out.Goals as goal

pub bodies_of-requires-clause-whole : goal.bodies_of-requires-clause-whole
bodies_of-requires-clause-whole c = list-length _ _ _ _ c.in_ok-all.ensures c.in_ok-placed.ensures c.from_vec-joints.ensures

pub bodies_of-requires-clause-places : goal.bodies_of-requires-clause-places
bodies_of-requires-clause-places c = list-places _ _ _ _ c.in_ok-all.ensures c.in_ok-placed.ensures c.from_vec-joints.ensures c.requires.few_joints

pub dofs_of-requires : goal.dofs_of-requires
dofs_of-requires c = (list-places _ _ _ _ c.in_ok-all.ensures c.in_ok-placed.ensures c.from_vec-joints.ensures c.requires.few_joints).small

pub returns : goal.returns
returns c =
    layout-is _ _ _ _ _ _ _ _
    (list-placed _ _ _ _ c.in_ok-all.ensures c.in_ok-placed.ensures c.from_vec-joints.ensures)
    c.in_ok-bodies.ensures c.in_ok-dofs.ensures c.in_ok-geoms.ensures
    (positions-placed _ _ _ c.in_ok-all.ensures c.in_ok-placed.ensures)
    (count-placed _ _ _ c.in_ok-all.ensures c.in_ok-placed.ensures)
