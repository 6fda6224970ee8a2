use Rattle.std.proofs.Common.{refl, sym, ap, ◌∙◌, arith}
use Rattle.mj_types.specs.declared.parts.Body.{Body}
use Rattle.mj_types.specs.Parts.{no_body}
use Rattle.mj_bias.specs.Measures.{totals_at}
use Rattle.mj_bias.proofs.PlaceLaws.{place_end}
use Rattle.mj_bias.proofs.CarryLaws.{begun_first, carried_more}
use Rattle.mj_bias.proofs.down.move_body.Goals as goal

pub copy_sum-requires-clause-from : goal.copy_sum-requires-clause-from
copy_sum-requires-clause-from g c =
    omega (arith, c.args.model.now.of_bodies.parents c.args.b c.requires.place, ap (λ (x : Body). x.parent) (c.entry.ensures no_body), c.requires.room.motion)

pub copy_sum-requires-2-clause-from : goal.copy_sum-requires-2-clause-from
copy_sum-requires-2-clause-from g c =
    omega (arith, c.args.model.now.of_bodies.parents c.args.b c.requires.place, ap (λ (x : Body). x.parent) (c.entry.ensures no_body), c.requires.room.drift)

pub move_dofs-requires-clause-begun : goal.move_dofs-requires-clause-begun
move_dofs-requires-clause-begun g c =
    let e = ap (λ (x : Body). x.parent) (sym (c.entry.ensures no_body)) in
    begun_first g.K.Carry.settled c.args.model.now c.args.frames.now c.args.state.now g.K.Carry.width g.K.Carry.wide_width c.args.b c.args.out.now _ c.requires.place c.requires.carried refl
    c.copy_sum.ensures.others c.copy_sum-2.ensures.others
    (c.copy_sum.ensures.here ∙ ap (totals_at g.K.Carry.wide_width c.args.out.now.motion) e)
    (c.copy_sum-2.ensures.here ∙ ap (totals_at g.K.Carry.wide_width c.args.out.now.drift) e)

pub returns-clause-carried : goal.returns-clause-carried
returns-clause-carried g c =
    carried_more g.K.Carry.settled c.args.model.now c.args.frames.now c.args.state.now g.K.Carry.width g.K.Carry.wide_width c.args.b _ _ c.requires.place
    (place_end c.args.model.now c.args.b c.requires.place) c.in_ok-move_dofs.ensures.begun
