use Rattle.mj_tree.proofs.ListingLaws.{sum_over_listed}
use Rattle.mj_tree.proofs.laws.sum_is_over_listed.Goals as goal

pub returns : goal.returns
returns g c = λ m laws above n at names listing. sum_over_listed above n at names listing m laws
