use Rattle.mj_form.specs.Keys.{optional}
use Rattle.mj_form.proofs.key.optional.Goals as goal

pub returns : goal.returns
unfolding optional
returns g c = c.at_key.ensures _ (rw c.value_at.ensures at c.if_present.ensures)
