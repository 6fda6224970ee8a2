use Rattle.std.proofs.Common.{◌+◌, ◌≤◌, subst}
use Rattle.mj_types.specs.declared.parts.Body.{Body}
use Rattle.mj_types.specs.Lawful.{IsBody}
use Rattle.mj_types.specs.Parts.{no_body}
use Rattle.mj_types.proofs.ModelLaws.{root_there}
use Rattle.mj_kin.proofs.bodies.body_at.Goals as goal

pub returns-clause-lawful : goal.returns-clause-lawful
returns-clause-lawful c =
    let P = λ (x : Body). IsBody x in
    subst P (c.entry.ensures no_body) (c.args.model.now.of_bodies.each c.args.b c.requires)

pub returns-clause-parent : goal.returns-clause-parent
returns-clause-parent c =
    let P = λ (x : Body). x.parent ≤ c.args.b in
    subst P (c.entry.ensures no_body) (c.args.model.now.of_bodies.parents c.args.b c.requires)

pub returns-clause-root : goal.returns-clause-root
returns-clause-root c =
    let P = λ (x : Body). 1 ≤ x.root in
    subst P (c.entry.ensures no_body) (root_there c.args.model.now c.args.b c.requires).0

pub returns-clause-above : goal.returns-clause-above
returns-clause-above c =
    let P = λ (x : Body). x.root ≤ c.args.b + 1 in
    subst P (c.entry.ensures no_body) (root_there c.args.model.now c.args.b c.requires).1
