use Rattle.mj_form.specs.Keys.{required}
use Rattle.mj_form.proofs.key.required.Goals as goal

pub returns : goal.returns
unfolding required
returns g c = c.at_key.ensures _ (rw c.value_at.ensures at c.if_required.ensures)
