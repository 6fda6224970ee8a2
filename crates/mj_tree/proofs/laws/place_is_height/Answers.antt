use Rattle.mj_tree.proofs.ListingLaws.{listed_at_height, above_by_place}
use Rattle.mj_tree.proofs.laws.place_is_height.Goals as goal

pub returns : goal.returns
returns c = record {
  place = listed_at_height;
  test = λ above n at names listing forest k i. above_by_place above n at names listing forest i k;
}
