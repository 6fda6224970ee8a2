-- The lemmas of this crate, by file: cite each as Rattle.fx_whole.proofs.FILE.{NAME}. The definitions are in specs/.
--
-- NearestLaws, of `nearest` (specs/Nearest)
--   nearest-is_nearest     has the property IsNearest, for d > 0
--   nearest-unique         whatever has the property is it
--   nearest-at, -none      the formula for d > 0; 0 for d <= 0
--   nearest-size           |nearest n d| <= |n|, for every d
--   nearest-size_product   2 |nearest n d| |d| < 2 |n| + |d|, for d > 0
--   nearest-within         |n| <= limit |d|  gives  |nearest n d| <= limit, for every d
--   nearest-within_twice   2 |n| <= (2 limit + 1) |d|  gives  |nearest n d| <= limit; -twice_within is the converse
--   nearest-mono           n <= k  gives  nearest n d <= nearest k d
--   nearest-neg            nearest (-n) d = -(nearest n d)
--   nearest-multiple       nearest (m d) d = m, for d > 0;  nearest-zero: nearest 0 d = 0
--   with_sign-size         |with_sign n q| = q
--
-- Ring, of ℤ
--   *ℤ_distrib_left, _right, *ℤ_assoc, _left_comm, *ℤ-neg_ℤ, neg_ℤ-*ℤ, *ℤ-pos_one, pos_one-*ℤ, *ℤ-pos_two, pos_two-*ℤ
--   ring                   the set for `simp ring (omega (arith, ints))`, which proves identities of small degree
--   squares_apart          an identity so proved
--   mul_nonneg, mul_pos, square_nonneg             products that are not negative
--   mul_mono               a <= b  gives  a k <= b k, for k >= 0;  mul_mono_both: both factors grow, from 0 up
--   mul_step               a < b  gives  a k + k <= b k, for k > 0
--   nonneg_of_mul, le_of_mul, lt_of_mul                   a factor k > 0 taken away
--   abs-neg, abs-add, abs-sub, abs_turned, abs_between, abs_mul_le, abs_square      sizes of results
--   abs_nonneg, abs_mono                           sizes and bounds
--
-- RootLaws, of `isqrt` (specs/Roots)
--   isqrt-root             has the property IsRoot, for n >= 0;  isqrt-unique: whatever has it is it
--   isqrt-negative, -nonneg, -square, -mono, -below
--
-- ShiftLaws, of `nearest` by a power of two
--   nearest_by_shift       half is added, less one where the number isn't negative, and the quotient is rounded down
--   within_by_size         whether the nearest is within a limit is told by the number itself
--   rest_small, twice_half, greatest_small, scaled_bound
--
-- SumLaws, of `sum_to`, `sum_ℕ_to` and `when` (specs/Sums)
--   sum_to-more            one more term, at n + 1
--   sum_to-ext, -add, -sub, -neg, -scale_left, -scale_right, -zero, -none, -const, -swap, -split, -first, -past, -single
--   sum_to-mono, -nonneg   order;  sum_to-size, -bounded: sizes, against a sum of naturals and against n m
--   sum_ℕ_to-more, -ext, -add, -scale_left, -scale_right, -const, -mono, -bounded, -le, -term
--   when-true, -false, -zero, -size;  grows: a sum with one term more
--
-- AddingLaws, of `sum_in`, `when_in` and `IsAdding` (specs/Adding): of anything that is added up
--   of any adding          sum_in-more, -ext;  sum_in-map: a map that keeps sums of two goes through
--                          sum_in-holds: what passes on with each term, as a bound that grows;  sum_in-both: of two sums side by side
--   with IsAdding          sum_in-none, -add, -swap, -split, -first, -past, -single;  empty_plus, plus_across
--   when_in-true, -false, -empty, -map;  with IsAdding when_in-sum
--   integers-is_adding;  sum_in-integers, sum_in-naturals: these are sum_to and sum_ℕ_to
--
-- CountLaws, of `count_to` (specs/Counting)
--   count_to-yes, -no      one more place, at n + 1;  count_to-ext, -mono, -below, -size, -none, -all
--   sum_in-listed, sum_to-listed, first_to-listed  from the places that pass a test to the list that names them
--
-- FirstLaws, of `or_first` and `first_to` (specs/First)
--   or_pass, or_stop, or_none, or_assoc, or_both, or_which
--   first_more             one more, at n + 1
--   first_none             None, if and only if each is absent
--   first_some             what is found is at the least place that has one
--   first_stop, first_here, first_ext, first_split
--   stop_here, pass_more, pass_all                 in a loop, with the call's `refusal_of result` at the left, as clauses have it
--   stop_first, pass_first                         the same of two calls in a row
--
-- JoinedLaws, of `joined` (specs/Joined)
--   joined-none, -more, -ext, -length, -within, -split, -empty, -holds, -all
--   grow-none, grow-more              a loop that adds part after part to a list
--
-- TableLaws, of `value`, `down` and `sum_after` (specs/Tables)
--   value-zero, -suc       the table filled upwards;  made-is: a place that was made is the table's
--   value-next             value-suc, where `next n` is known to read the places up to n alone
--   down-is                the table filled downwards, where `step` looks later;  down-past: the rest of it
--   filled_down-here, -other, -is, -none           the loop that fills it: the new place, the others, those reached, those not yet
--   sum_after-ext          sums of later places look later
--
-- LeastLaws, of `IsLeast` and `ceil_div` (specs/Least)
--   ceil_div-least, ceil_div-past
--
-- EntryLaws, of `below` (specs/Entries)
--   below-within, -past;  below-is: a list of n entries is what it holds below n, and none past it
--   put-keeps, put-more    what holds of each entry below i holds below i + 1 after a write at i
--
-- Powers, of 2
--   pow-split, pow-add_ℤ, pow_positive (std has pow-add, pow_pos, pow_below, pow_mono)
pub mod AddingLaws
pub mod CountLaws
pub mod EntryLaws
pub mod FirstLaws
pub mod JoinedLaws
pub mod LeastLaws
pub mod NearestLaws
pub mod Powers
pub mod Ring
pub mod RootLaws
pub mod ShiftLaws
pub mod SumLaws
pub mod TableLaws
