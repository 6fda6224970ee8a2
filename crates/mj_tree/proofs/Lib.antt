-- The lemmas of this crate, by file: cite each as Rattle.mj_tree.proofs.FILE.{NAME}. The definitions are in specs/. With a star: a public call
-- of src/laws.rt has the law as its clause.
--
-- BodyLaws, of `at_or_above` and `moves` (specs/Tree); each takes `parent` and that it `IsTree` first, the laws of `moves` then `body`
--   parent_le, by_parents   a parent isn't past its child; what holds of the world and passes to children holds of all
--   above_by_parent *       a at or above b: a is b, or at or above b's parent;  above_cases, above_from_parent, above_parent: parts of it
--   above_itself *, world_is_above *, parent_is_above, above_trans *, above_antisym
--   above_le *, not_above, above_at      what is at or above b isn't past b
--   above_chain, above_either *      of two at or above a third the earlier is at or above the later
--   child_above, child_is_only       what is below b is at or below one child of b;  parent_of_child, child_is_later
--   moves_by_parent *       what moves b is b's own, or moves b's parent;  moves_parent, moves_cases *: parts of it
--   moves_own *, moves_below *, moves_le, not_moves
--
-- DofLaws, of `above` and `IsLayout` (specs/Tree)
--   dof_is_before, dof_moves, above_from             what `above` says, and how to show it
--   above_of_one_body *     of two dofs of one body the earlier is above the later
--   body_le, body_from_place, none_moves_world *     dofs in the order of their bodies
--   layout_is_forest *      IsForest, from IsLayout
--   layout_begin, layout_body, layout_dof            a layout that grows by a body, or by a dof of the last body;  layout_same: of other functions
--
-- UpLaws, of `climb`, `held` and `sum_under` (specs/TreeSums), of anything that is added up
--   held_start, held_step, held_end      a loop from the last body down: what each entry holds at first, after one more turn, in the end
--   held_put                the turn again, where the parent's entry alone is written;  held_more: the equation behind both
--   carried_up *            the whole loop
--   sum_under_children *    own, and the children's sums;  sum_under_world
--   climb_is                b is at or above k where k climbs to b;  climb_stays, climb_up, climb_le
--
-- DownLaws, of `sum_moving` and `sum_before` (specs/TreeSums)
--   moving_start *          the parent's whole sum is b's before its own dofs
--   own_step, moving_more *, moving_other            one more dof
--   moving_end_at_next *, moving_end_at, moving_end  b's sum is whole
--   moving_world *, moving_by_parent *               nothing moves the world; the parent's sum, and that over b's own dofs
--   moving_is_above         of the dofs before j those that move its body are those above it
--
-- ListingLaws, of `height`, `start`, `listed` and `IsListing` (specs/Listing)
--   of a forest             height_place, height_less: those above k before i are those above i;  none_later_is_above
--   of any listing          list_begins, list_ends, list_length, list_within: where k's list stands in `names`;  start_more, start_le, start_within, height_le
--                           listed_is_above *, listed_is_before, listed_ascends *, listed_place, named_at *: what it names, and where
--                           listed_is, name_positive, name_le: the numbers from 1
--   sums                    sum_listed, sum_over_listed *, sum_listed_to, of integers sum_to_listed, sum_to_over_listed
--   first faults            first_over_listed *
--   of both                 place_of, listed_at_height *: i stands in k's list at height i;  height_of_listed
--                           above_by_place *: whether i is above k, by one look;  shared_names: k's list begins with that of each dof above it
--   count_to_reach          the place that passes after c others
--
-- WritingLaws, of `AreEnds` and `IsListedTo` (specs/Listing): a listing that is written dof after dof
--   ends_begin, ends_more;  listed_begin, listed_skip, listed_push, listed_row;  listing_from: the listing, in the end
--
--
-- Examples: the definitions at a tree of four bodies.
pub mod BodyLaws
pub mod DofLaws
pub mod DownLaws
pub mod Examples
pub mod ListingLaws
pub mod UpLaws
pub mod WritingLaws
