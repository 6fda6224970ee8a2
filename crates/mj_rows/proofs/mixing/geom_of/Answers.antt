use Rattle.std.proofs.Common.{◌≤◌, ◌-◌, length, subst, arith}
use Rattle.mj_types.specs.declared.parts.Geom.{Geom}
use Rattle.mj_types.specs.Lawful.{IsGeom}
use Rattle.mj_types.specs.Parts.{no_geom}
use Rattle.mj_rows.proofs.mixing.geom_of.Goals as goal

pub returns-clause-lawful : goal.returns-clause-lawful
returns-clause-lawful c =
    let P = λ (x : Geom). IsGeom x in
    subst P (c.entry.ensures no_geom) (c.args.model.now.of_geoms.each (c.args.number - 1) (omega arith))

pub returns-clause-body : goal.returns-clause-body
returns-clause-body c =
    let P = λ (x : Geom). x.body ≤ length c.args.model.now.bodies in
    subst P (c.entry.ensures no_geom) (c.args.model.now.of_geoms.on_body (c.args.number - 1) (omega arith))
