use Rattle.std.proofs.Common.{subst}
use Rattle.mj_types.specs.declared.parts.Geom.{Geom}
use Rattle.mj_types.specs.Lawful.{IsGeom}
use Rattle.mj_types.specs.Parts.{no_geom}
use Rattle.mj_contact.proofs.pair.geom_at.Goals as goal

pub returns-clause-lawful : goal.returns-clause-lawful
returns-clause-lawful c =
    let P = λ (x : Geom). IsGeom x in
    subst P (c.entry.ensures no_geom) (c.args.model.now.of_geoms.each c.args.g c.requires)
