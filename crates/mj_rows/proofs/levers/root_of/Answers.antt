use Rattle.std.proofs.Common.{◌≡◌, ℕ, ◌-◌, ◌<◌, ◌≤◌, length, ap, ◌∙◌, arith}
use Rattle.mj_types.specs.declared.model.Model.{Model}
use Rattle.mj_types.specs.declared.parts.Body.{Body}
use Rattle.mj_types.specs.declared.parts.Dof.{Dof}
use Rattle.mj_types.specs.Parts.{body, dof, no_body, no_dof}
use Rattle.mj_types.proofs.ModelLaws.{root_there}
use Rattle.mj_rows.proofs.TreeLaws.{body_there}
use Rattle.mj_rows.proofs.levers.root_of.Goals as goal

-- the root of the body that was read
root_is : (m : Model) (d b : ℕ) (x : Body) → d < m.nv → (dof m.dofs d).body ≡ b → body m.bodies (b - 1) ≡ x → (1 ≤ x.root) × (x.root ≤ length m.bodies)
root_is m d b x h e f =
    let there = body_there m d h in
    let r = root_there m ((dof m.dofs d).body - 1) (omega (arith, there.0, there.1)) in
    let g : (body m.bodies ((dof m.dofs d).body - 1)).root ≡ x.root = ap (λ (n : ℕ). (body m.bodies (n - 1)).root) e ∙ ap (λ (y : Body). y.root) f in
    (omega (arith, r.0, g), omega (arith, r.1, g, there.0, there.1))

pub overflow_sub-result : goal.overflow_sub-result
overflow_sub-result c =
    (root_is c.args.model.now c.args.d c.entry.result.now.body c.entry-2.result.now c.requires (ap (λ (x : Dof). x.body) (c.entry.ensures no_dof)) (c.entry-2.ensures no_body)).0

pub returns-clause-there : goal.returns-clause-there
returns-clause-there c =
    let r = root_is c.args.model.now c.args.d c.entry.result.now.body c.entry-2.result.now c.requires (ap (λ (x : Dof). x.body) (c.entry.ensures no_dof)) (c.entry-2.ensures no_body) in
    omega (arith, r.0, r.1)
