use Rattle.mj_words.proofs.Accepted.{accepted-have_no_bad_place}
use Rattle.mj_words.proofs.words.accepted_words_have_no_bad_place.Goals as goal

pub returns : goal.returns
returns c = accepted-have_no_bad_place
