-- The lemmas of this crate, by file: cite each as Rattle.mj_rows.proofs.FILE.{NAME}. The definitions are in specs/.
--
-- JointLaws, of a model's joints: each has a position and a velocity, which are there and within their limits
-- TreeLaws, of a model's tree: the root of a body's tree and the body of a dof are there; at most 64 joints
-- SizeLaws, of numbers that are added to, and of lists past their end
-- MixLaws: the mean of two numbers lies between them, and the mix of two softnesses is one
-- RowLaws, of `row_fault` and `IsWritten`: rows of equalities, frictions and limits
-- EdgeLaws: slopes of a contact and the rows of its edges
--   levers_none, edge_refused, edge_fault   no lever is out of range; one that is, is the fault of the contact's row; else the Jacobian's is
--   edges_sum, unmoved_zero                 the four edges add up; a dof that moves neither geom
-- CountLaws, of `joined`: how many rows stand, part after part
pub mod JointLaws
pub mod TreeLaws
pub mod SizeLaws
pub mod MixLaws
pub mod RowLaws
pub mod EdgeLaws
pub mod CountLaws
