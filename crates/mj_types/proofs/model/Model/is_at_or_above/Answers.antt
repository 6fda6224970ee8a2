use Rattle.std.proofs.Common.{arith, ◌∙◌, ap, sym}
use Rattle.mj_types.specs.declared.parts.Body.{Body}
use Rattle.mj_types.specs.Parts.{no_body}
use Rattle.mj_types.proofs.LayoutLaws.{climb_step, climb_room, climb_ends}
use Rattle.mj_types.proofs.model.Model.is_at_or_above.Goals as goal

pub loop-at-preserved : goal.loop-at-preserved
loop-at-preserved c =
    let up = ap (λ (x : Body). x.parent) (sym (c.entry.ensures no_body)) in
    let room = climb_room c.args.self.now.bodies c.args.self.now.of_bodies c.args.a c.loop-at.at c.entry.result.now.parent c.loop-at-test.true c.loop-at.invariant.0 up in
    (omega (arith, room, c.loop-at.invariant.0), climb_step c.args.self.now.bodies c.args.self.now.of_bodies c.args.a c.loop-at.at c.entry.result.now.parent c.loop-at-test.true up ∙ c.loop-at.invariant.1)

pub returns : goal.returns
returns c = climb_ends c.args.self.now.bodies c.args.self.now.of_bodies c.args.a c.loop-at.at c.loop-at-test.false ∙ c.loop-at.invariant.1
