-- The lemmas of this crate, by file: cite each as Rattle.mj_factor.proofs.FILE.{NAME}. The definitions are in specs/. With a star: a public
-- call of src/laws.rt has the law as its clause.
--
-- PlaceLaws, of a factor's lists: forest_in, where lists begin and end, above_by (one look tells whether i is above k), bounds of places
-- FactorLaws, of `work` and `lower` (specs/Factors): work_is * (the equation of an entry), work_apart *, lower_apart * (0 where neither is above
--   the other), sum_is_stored (a sum over the later rows is one over those that are stored)
-- RowLaws, of sums for a row: where they begin, that they fit
-- MakingLaws, of `HasRows` (specs/Stored): rows_begin, rows_more, and what all rows are;  of `shifted_mass`: shifted_beside, shifted_by_none
-- RangeLaws: what is in its range where there is no fault
-- NumberLaws, of lists of plain numbers and of a pivot's root
-- SolveLaws, of `back` and `forth` (specs/Solves): back_is *, forth_is *, sums over the rows from p on
-- ScatterLaws, of a number that is added to the sums of the dofs above its dof;  GatherLaws, of a sum over the dofs above a dof
-- BackLaws, of `IsBackTo`: back_begins, back_here, back_more
-- ReadLaws: a factor, a solve and a residual read what stands below n alone;  greatest-more, -reads, -above, of `greatest_to`
-- ResidualLaws: sums of a row of a mass matrix fit
pub mod BackLaws
pub mod FactorLaws
pub mod GatherLaws
pub mod MakingLaws
pub mod NumberLaws
pub mod PlaceLaws
pub mod ReadLaws
pub mod RangeLaws
pub mod ResidualLaws
pub mod RowLaws
pub mod ScatterLaws
pub mod SolveLaws
