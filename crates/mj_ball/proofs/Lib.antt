-- The lemmas of this crate, by file: cite each as Rattle.mj_ball.proofs.FILE.{NAME}. The definitions are in specs/. With a star: a public call
-- of src/laws.rt has the law as its clause.
--
-- ShiftLaws: pivots_nonneg, no_fault (what a good shift has), ball_encloses *, ball_if_some
-- BoundLaws: diagonal_least, too_high, no_ball: no shift that reaches the diagonal is good
-- SameLaws: what stands below n alone counts, so that a stored factor may stand for that of the definition: low_by, low_refused;  ball-reads;  product_before
-- PairLaws: product_swap, no_entry, product_apart (where neither dof is above the other), meets_too
-- SumFits: sums of at most 64 numbers of at most 2^116
-- Examples: the ball of one body, and of two links
pub mod BoundLaws
pub mod Examples
pub mod PairLaws
pub mod SameLaws
pub mod ShiftLaws
pub mod SumFits
