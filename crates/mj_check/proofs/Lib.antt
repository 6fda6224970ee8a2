-- The lemmas of this crate, by file. For the crate above, VerdictLaws:
--   accepted-holds, verdict-holds      what the lines of an accepted text's blocks tell keeps the promise
--   verdict-one                        a text has one verdict
pub mod StopLaws
pub mod DualLaws
pub mod TextLaws
pub mod TokenLaws
pub mod EndLaws
pub mod KeptLaws
pub mod KindLaws
pub mod BallLaws
pub mod SourceLaws
pub mod BoundLaws
pub mod RowLaws
pub mod JudgingLaws
pub mod NumberLaws
pub mod FaultLaws
pub mod TellsLaws
pub mod OneLaws
pub mod VerdictLaws
