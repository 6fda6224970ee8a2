-- ShareLaws, of `over`, `times` and `pw` (specs/Impedance)
--   over_between, times_between      a share of 1, and a share of a
--   over_nonneg                      a / b, for any size of a
--   between_both, step_size          a share of the way from a to b, and of the step
--   pw_one, pw_more                  one factor, and one more
--
-- ScaleLaws, of the positive form of solref (specs/Reference)
--   time_low, ratio_some             dmax tc and dmax tc dr are above 0, rounded too
pub mod ScaleLaws
pub mod ShareLaws
