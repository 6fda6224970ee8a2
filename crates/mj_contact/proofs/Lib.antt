-- The lemmas of this crate, by file: cite each as Rattle.mj_contact.proofs.FILE.{NAME}. The definitions are in specs/.
--
-- GrowingLaws, of `HasAdded` (specs/Growing)
--   rows_out-stays         too many stay too many
--   added-none, added-then, added-stop      nothing is added; two parts one after the other; a fault ends it early
--   turn-start, turn-more, turn-stop        a loop that adds part after part
pub mod GrowingLaws
