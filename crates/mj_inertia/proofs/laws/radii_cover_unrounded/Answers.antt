use Rattle.mj_inertia.proofs.MassLaws.{entry_covers}
use Rattle.mj_inertia.proofs.laws.radii_cover_unrounded.Goals as goal

pub returns : goal.returns
returns c = entry_covers
