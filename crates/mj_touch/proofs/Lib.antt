-- The lemmas of this crate, by file: cite each as Rattle.mj_touch.proofs.FILE.{NAME}. The definitions are in specs/.
--
-- AxisLaws, of units and their axes
--   unit-within            no number of a unit is over 2
--   axis-sharp             no number of its axis is over 1 by more than 16 units
--
-- CullingLaws, of `can_skip` (specs/Culling)
--   moved-near             a point of an axis is no farther from its centre than the place and 2^-17
--   apart-balls            the balls of geoms that are apart don't meet
--   skipped                a pair that is left out has no meeting
pub mod AxisLaws
pub mod CullingLaws
