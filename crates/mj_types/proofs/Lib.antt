-- The lemmas of this crate, by file: cite each as Rattle.mj_types.proofs.FILE.{NAME}. The definitions are in specs/.
--
-- DualLaws, of `AreRows` (specs/Duals)
--   rows-more              one row more is written behind the others
--   solvable-more          and a solver may still take them (`AreSolvable`);  solvable-over: of a row by equal numbers
--   regular                each row's regularizer is above 0
--
-- LayoutLaws, of the tree of a model's bodies and dofs
--   is_tree                parents come before their children
--   dof_before, dof_after  on which side of a body's first dof a dof stands
--   is_layout              dofs stand in the order of their bodies
--   climb_step, climb_room, climb_ends      a climb from a body to the bodies above it
--
-- ModelLaws
--   some_velocity, few_joints      each joint has a velocity, so there are at most 64
--   root_there             the root of a body's tree stands at the body or before it
--
-- PartLaws, RangeLaws
--   none_begun             zeros at each place;  no_fault: what isn't refused is good
pub mod DualLaws
pub mod LayoutLaws
pub mod ModelLaws
pub mod PartLaws
pub mod RangeLaws
