-- The lemmas of this crate, by file: cite each as Rattle.mj_force.proofs.FILE.{NAME}. The definitions are in specs/.
-- Those that a public call of src/laws.rt states are marked by a star.
--
-- FaultLaws, of two problems that have the same rows, whose places are the same too
--   row_fault-, pass_fault-, sweep_fault-, ending-, answer-same      (mj_pgs specs/Answer)
--   cost_fault-same             (mj_cost specs/Costs)
--   certificate_fault-same      (mj_cert specs/Certificate)
--
-- OwnLaws, of a dual's numbers of its own rows
--   own-rows *             a problem has the rows of `own`;  own-place: and a dual its places
--   own-regular *, own-holds_zero *      every dual is lawful, where a solver takes it
--
-- EnclosureLaws (specs/Enclosures)
--   enclosed *             what a certificate is worth
--   fault-first, fault-then      a refusal of the solver, and of the certificate
--   force-is, cost-is, bound-is, low-is, high-is      the numbers by the dual's own rows
pub mod EnclosureLaws
pub mod FaultLaws
pub mod OwnLaws
