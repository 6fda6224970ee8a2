-- The lemmas of this crate, by file: cite each as Rattle.mj_dual.proofs.FILE.{NAME}. The definitions are in specs/. With a star: a public
-- call of src/laws.rt has the law as its clause.
--
-- RegularLaws, of `regularizer` (specs/Actives)
--   impedance_high         an impedance is at most 0.9999
--   regular                the regularizer of a row that isn't idle is above 0
--   low_in_range, high_in_range    a bound on the right side of 0 is one
--
-- ReductionLaws, of `diagonal` and `reduction_fault` (specs/Reductions)
--   diagonal_is, _whole    the diagonal entry of the numbers that were written
--   reduction_idle, _active      the first fault of a row that is idle or not
--
-- PassingLaws, of `passing` (specs/Passing)
--   passing-last, -more    one place more: it passes, and the others stay
--   passing-ext            tests that agree
--   passing-below *, -passes *, -each *     it is a place that passes; each that passes is found after those before it
--
-- EntryLaws, of `HasEntries` (specs/Entries)
--   entries-none, -ext     no row; rows that are the same
--   entries-skip, -push    one row more, which doesn't pass or does
--   entries-whole          what the dual is in the end;  same_below, same_values: its numbers are equated one by one
--
-- TakingLaws, of `HasAdded` (specs/Taking)
--   faults-append, -whole  the first fault of two parts, and of all rows
--   added-none, -refused, -same, -then, -stop      nothing is taken; two parts one after the other; a fault ends it early
--   turn-start, -more, -stop, -spare        a loop that takes part after part
--
-- RowLaws: one constraint more in the list, in the table of Jacobians and in the dual
--   one-out, -refused      a call that takes one is refused before its reduction, or by it;  one-taken: it takes it
-- ContactLaws: the edges of a contact;  contact-out: a lever out of range is a fault of its first row
-- AssemblyLaws: where an assembly begins, and what all rows that were taken are
-- ImpedanceLaws, of `impedance` (mj_imp)
--   impedance-between *    it lies between dmin and dmax, whatever the violation is;  impedance-some: it is above 0
--
-- ConstraintLaws, of `constraints` (mj_rows)
--   constraints-lawful *   each of them is lawful (specs/Lawful)
--
-- LawfulLaws, of `dual_of`
--   dual-regular, -zero    of lawful constraints the dual is regular, and holds the force 0
--   state_dual-regular *, -zero *      and so does that of each state
--
-- ReadLaws: row_list-reads *, dual_of-reads *, assembly_fault-reads *     an assembly reads the dynamics at the dofs alone
pub mod AssemblyLaws
pub mod ConstraintLaws
pub mod ContactLaws
pub mod EntryLaws
pub mod ImpedanceLaws
pub mod LawfulLaws
pub mod PassingLaws
pub mod ReadLaws
pub mod ReductionLaws
pub mod RegularLaws
pub mod RowLaws
pub mod TakingLaws
