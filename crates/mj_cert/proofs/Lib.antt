-- The lemmas of this crate, by file: cite each as Rattle.mj_cert.proofs.FILE.{NAME}. The definitions are in specs/.
--
-- CurveLaws, of a rise seen by comparison
--   words                  a product by its two words
--   seen_past, seen_before      the test of one step, past the vertex and before it
--
-- SolvedLaws, of the numbers that solved forces give
--   row-, square-, weight-, pull-size      sums of terms;  gradient-size, cost-within
--   -fits, -fit            sums and products that stay within 128 bits
--   gradient-is, cost-is   the definitions by the lists that the code reads
--
-- ShortfallLaws
--   row-nonneg, so_far-nonneg, total-nonneg, others-nonneg
--   passes                 a row whose shortfall alone passes the limit
--
-- CertificateLaws
--   bound-holds, box-holds      what the numbers promise;  least, only: where the bound is the cost
pub mod CertificateLaws
pub mod CurveLaws
pub mod ShortfallLaws
pub mod SolvedLaws
