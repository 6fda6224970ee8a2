use Rattle.std.proofs.Common.{◌-◌, ◌^◌, ap, ap₂, ◌∙◌, sym, subst, arith}
use Rattle.fx_vec.specs.Spatial.{plus_inertia}
use Rattle.fx_vec.specs.Views.{inertia}
use Rattle.fx_vec.specs.declared.inertia.Inertia10.{Inertia10}
use Rattle.mj_types.specs.declared.parts.Body.{Body}
use Rattle.mj_types.specs.Parts.{no_body, no_inertia}
use Rattle.mj_types.specs.Placed.{WithinInertia, inertia_at}
use Rattle.mj_inertia.proofs.CompositeLaws.{added}
use Rattle.mj_inertia.proofs.composing.add_to_parent.Goals as goal

pub plus-sum-requires-clause-a : goal.plus-sum-requires-clause-a
plus-sum-requires-clause-a c =
    let at = c.entry-then-parent-gt0.ensures no_inertia in
    let within = c.requires.small (c.entry.result.now.parent - 1) (omega (arith, c.args.model.now.of_bodies.parents c.args.b c.requires.body, ap (λ (x : Body). x.parent) (c.entry.ensures no_body))) in
    subst (λ (x : Inertia10). WithinInertia (inertia x) (2 ^ 70)) at within

pub returns-then-parent-gt0-clause-sums : goal.returns-then-parent-gt0-clause-sums
returns-then-parent-gt0-clause-sums c k h =
    let up = ap (λ (x : Body). x.parent) (sym (c.entry.ensures no_body)) in
    added c.args.model.now.bodies c.args.b c.entry.result.now.parent (inertia_at c.args.out.now.list) (inertia_at c.put.new.self) up c.if-parent-gt0.true
    (ap inertia (c.put.ensures.same no_inertia) ∙ c.plus-sum.ensures
    ∙ ap₂ (λ (a b : Inertia10). plus_inertia (inertia a) (inertia b)) (sym (c.entry-then-parent-gt0.ensures no_inertia)) (sym (c.entry-then-parent-gt0-2.ensures no_inertia)))
    (λ d n. ap inertia (c.put.ensures.others no_inertia d n)) k
