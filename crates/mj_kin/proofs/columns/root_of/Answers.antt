use Rattle.std.proofs.Common.{◌≡◌, ℕ, ◌-◌, ap, sym, ◌∙◌, arith}
use Rattle.mj_types.specs.declared.parts.Body.{Body}
use Rattle.mj_types.specs.declared.parts.Joint.{Joint}
use Rattle.mj_types.specs.Parts.{body, joint, no_joint}
use Rattle.mj_kin.proofs.columns.root_of.Goals as goal

pub body_at-requires : goal.body_at-requires
body_at-requires c =
    let m = c.args.model.now in
    let e : (joint m.joints c.args.j).body ≡ c.entry.result.now.body = ap (λ (x : Joint). x.body) (c.entry.ensures no_joint) in
    omega (arith, e, m.of_joints.on_body c.args.j c.requires, m.of_joints.not_world c.args.j c.requires)

pub returns-clause-value : goal.returns-clause-value
returns-clause-value c =
    let m = c.args.model.now in
    let e : (joint m.joints c.args.j).body ≡ c.entry.result.now.body = ap (λ (x : Joint). x.body) (c.entry.ensures no_joint) in
    let f : c.body_at.result.now.root ≡ (body m.bodies ((joint m.joints c.args.j).body - 1)).root =
    ap (λ (x : Body). x.root) c.body_at.ensures.value ∙ ap (λ (n : ℕ). (body m.bodies (n - 1)).root) (sym e) in
    omega (arith, f, c.body_at.ensures.root)

pub returns-clause-there : goal.returns-clause-there
returns-clause-there c =
    let m = c.args.model.now in
    let e : (joint m.joints c.args.j).body ≡ c.entry.result.now.body = ap (λ (x : Joint). x.body) (c.entry.ensures no_joint) in
    omega (arith, e, m.of_joints.on_body c.args.j c.requires, m.of_joints.not_world c.args.j c.requires, c.body_at.ensures.root, c.body_at.ensures.above)
