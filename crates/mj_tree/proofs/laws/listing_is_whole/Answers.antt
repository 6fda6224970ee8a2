use Rattle.mj_tree.proofs.ListingLaws.{listed_is_above, listed_ascends, named_at}
use Rattle.mj_tree.proofs.laws.listing_is_whole.Goals as goal

pub returns : goal.returns
returns c = record { above = listed_is_above; ascends = listed_ascends; each = named_at }
