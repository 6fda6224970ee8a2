use Rattle.std.proofs.Common.{◌≡◌, sym, ap, arith}
use Rattle.mj_types.specs.declared.parts.Body.{Body}
use Rattle.mj_types.specs.Parts.{body, no_body}
use Rattle.mj_kin.proofs.ModelLaws.{joint_there}
use Rattle.mj_kin.proofs.joints.own_place.Goals as goal

pub overflow_add-result : goal.overflow_add-result
overflow_add-result c =
    let e : c.entry.result.now.jntadr ≡ (body c.args.model.now.bodies c.args.b).jntadr = ap (λ (x : Body). x.jntadr) (sym (c.entry.ensures no_body)) in
    omega (arith, joint_there c.args.model.now c.args.b c.args.i c.requires.body c.requires.own)

pub returns-clause-there : goal.returns-clause-there
returns-clause-there c =
    let e : c.entry.result.now.jntadr ≡ (body c.args.model.now.bodies c.args.b).jntadr = ap (λ (x : Body). x.jntadr) (sym (c.entry.ensures no_body)) in
    omega (arith, joint_there c.args.model.now c.args.b c.args.i c.requires.body c.requires.own)
