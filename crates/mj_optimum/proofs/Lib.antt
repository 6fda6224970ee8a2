-- The lemmas of this crate, by file: cite each as Rattle.mj_optimum.proofs.FILE.{NAME}. The definitions are in specs/.
-- Those that a public call of src/laws.rt states are marked by a star.
--
-- CostLaws, of `reach`, `cost` and `gradient` (specs/Cost)
--   reach_ext, cost_ext        only the forces below m count
--   reach_of_zero, cost_of_zero      of no force at all
--   reach_sum                  reach is linear;  reach_product: G^T t . G^T f, row by row
--   cost_expands *             the identity of the quadratic around f
--   gradient_over_rows *       the gradient over all pairs of rows
--
-- ParabolaLaws, of one row's parabola, over plain numbers (specs/Enclosure, specs/Shortfall)
--   parabola_turned            -g and -s give the same
--   fall_covers, row_covers    it falls by at most `fall` within the room, and within the bounds
--   risen_covers, rise_past_vertex *      it rises past its vertex
--
-- BoundLaws, of `shortfall`, `total_shortfall` and `bound2` (specs/Shortfall)
--   parabola_is_least *        each parabola is at least minus its row's shortfall
--   parabola_is_low            and at most what the other rows can gain, where n / d costs no more than f
--   shortfall_nonneg, left_to_nonneg      where f is feasible
--   bound_holds *, optimum_holds *
--   shortfall_from_zero *      a row with the low bound 0 and no high one;  fall_from_zero: the same over plain numbers
--
-- RiseLaws, of `rise` and `has_risen` (specs/Box)
--   rise_is_least *            the least step that has risen
--   rise_at_most               rise g r t <= k, if and only if k has risen
--   has_risen_is, has_risen_from      the test and the record;  risen_stays: what has risen stays so
--   rise_is_zero, rise_is      the rise at given numbers, by two tests
--   least_to_is_least, least_to_below      the bounded search
--
-- BoxLaws (specs/Box)
--   box_holds *, optimum_is_only *
--
-- ClampLaws, of `at_least`, `at_most` and `clamp` (specs/Sweep)
--   at_least_low, at_most_below_high, at_most_rests      at a bound, and past it
--   clamp_above, clamp_below   the clamped number is within the bounds;  clamp_between: so is the step to it
--   at_least_keeps, at_most_keeps      bounds of n / d
--
-- SweepLaws (specs/Sweep)
--   put_at_same, _other, _own  one force put in place
--   reach_put *, cost_put *    what it changes
--   change_never_rises *       a step between none and the nearest one;  next_force_never_rises: at every divisor
--   next_force_rests           at the low bound, on a slope that isn't downhill
--   update_is_feasible, update_never_rises      one row
--   pass_more, pass_stays, pass_is_feasible, pass_never_rises, pass_cost      the rows below n
--   iterate_next, iterate_more, iterate_past, iterate_is_feasible *
--   sweep_lowers_cost *, iterate_costs_no_more, iterate_costs_at_most_zero *, drop_over_rows *
--
-- StopLaws (specs/Stop)
--   stop_without_rows *, stop_at_tolerance *, stop_at_limit *
--
-- LimitLaws (specs/Limits)
--   cost_at_least              the cost, by the sums that have a limit
--
-- SameCounts, SameSweeps, SameCertificates, SamePromises, of two problems that have the same rows (specs/Agreement)
--   sum-same, first-same   over two equal counts
--   turned                 the record the other way round;  row-over: a row of one is a row of the other
--   reach-, cost- *, gradient-, divisor-, update-, put-same      (specs/Cost, specs/Sweep)
--   pass-, sweep-, iterate- *, drop-same
--   stop_after-, stop- *-same  (specs/Stop)
--   shortfall-, total-, bound- *, left-, rise_up-, rise_down-, low- *, high- *-same      (specs/Shortfall, specs/Box)
--   weight_to-, pull_to-, shortfall_to-same      (specs/Limits)
--   regular-, feasible- *, bound_holds- *, box_holds- *-over     what holds of one problem holds of the other
--
-- Examples: the definitions at worked examples.
-- Combining and Tests: sums of combinations, a term below its sum, tests of ℤ.
pub mod BoundLaws
pub mod BoxLaws
pub mod ClampLaws
pub mod Combining
pub mod CostLaws
pub mod Examples
pub mod LimitLaws
pub mod ParabolaLaws
pub mod RiseLaws
pub mod SameCertificates
pub mod SameCounts
pub mod SamePromises
pub mod SameSweeps
pub mod StopLaws
pub mod SweepLaws
pub mod Tests
