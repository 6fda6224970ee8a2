use Rattle.std.proofs.Common.{arith, ◌∙◌, ap, sym}
use Rattle.mj_types.specs.declared.parts.Body.{Body}
use Rattle.mj_types.specs.Parts.{no_body}
use Rattle.mj_types.proofs.LayoutLaws.{climb_step, climb_room}
use Rattle.mj_inertia.proofs.matrix.climb.Goals as goal

pub loop-at-preserved : goal.loop-at-preserved
loop-at-preserved c =
    let m = c.args.model.now in
    let up = ap (λ (x : Body). x.parent) (sym (c.entry.ensures no_body)) in
    record {
      there = omega (arith, c.loop-at.invariant.there, climb_room m.bodies m.of_bodies c.args.body c.loop-at.at c.entry.result.now.parent c.loop-at-test.true c.loop-at.invariant.there up);
      same = λ b h. climb_step m.bodies m.of_bodies b c.loop-at.at c.entry.result.now.parent (omega arith) up ∙ c.loop-at.invariant.same b h;
    }
