-- The lemmas of this crate, by file: cite each as Rattle.mj_reading.proofs.FILE.{NAME}. The definitions are in specs/.
--
-- ReadingLaws
--   read-then, read-as, read-fixed, read-case, read-any, read-nothing      pieces one after another, told otherwise, known, of one of several forms, none
--   word-found, token-found, name-found, missed                         what a piece is read as
--   signed-bytes, count-bytes, number-letter                            the bytes of a number
pub mod ReadingLaws
