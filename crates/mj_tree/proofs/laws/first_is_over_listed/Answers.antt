use Rattle.mj_tree.proofs.ListingLaws.{first_over_listed}
use Rattle.mj_tree.proofs.laws.first_is_over_listed.Goals as goal

pub returns : goal.returns
returns g c = λ above n at names listing. first_over_listed above n at names listing
