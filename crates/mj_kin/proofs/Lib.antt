-- The lemmas of this crate, by file: cite each as Rattle.mj_kin.proofs.FILE.{NAME}. The definitions are in specs/.
--
-- ModelLaws, of a model's lists: the joints of a body, the positions and the velocities of a joint, the root of a body's tree are there
-- PoseLaws, of `pose` and `after` (specs/Poses): the pose of a body from its parent's; the joint at a place among a body's
-- FrameLaws, of carriers that are filled: they hold the placing, within its ranges
-- ListLaws, of a list that is written from a base on
-- MarkLaws, of `AreMarked` (specs/Working): one joint more
-- RotationLaws: a rotated vector is at most twelve times as large, also where the quaternion is no unit; a turn by nothing changes nothing
-- PlaceLaws, of the lists while bodies are placed (specs/Working): poses by number, reference points, one body more
-- ResultLaws: two clauses on one answer
pub mod FrameLaws
pub mod ListLaws
pub mod MarkLaws
pub mod ModelLaws
pub mod PlaceLaws
pub mod PoseLaws
pub mod ResultLaws
pub mod RotationLaws
