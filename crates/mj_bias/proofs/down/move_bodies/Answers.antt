use Rattle.std.proofs.Common.{◌≡◌, ℕ, ◌+◌, ◌<◌, length, sym, ap, ◌∙◌, subst, arith}
use Rattle.std.proofs.lemmas.Result.{err_from_is_err_and}
use Rattle.fx_whole.specs.First.{first_to}
use Rattle.fx_whole.proofs.FirstLaws.{first_stop, pass_all}
use Rattle.mj_types.specs.Parts.{body}
use Rattle.mj_bias.specs.Faults.{dof_fault}
use Rattle.mj_bias.specs.Carried.{movement, IsCarried}
use Rattle.mj_bias.proofs.PlaceLaws.{place, place_none, place_first, place_end, place_le, place_all}
use Rattle.mj_bias.proofs.CarryLaws.{carried_world}
use Rattle.mj_bias.proofs.down.move_bodies.Goals as goal

pub loop-b-init : goal.loop-b-init
loop-b-init g c =
    let m = movement c.args.model.now c.args.frames.now c.args.state.now in
    record {
      room = record {
        c = c.requires.room.c;
        column = c.requires.room.column;
        turn = c.requires.room.turn;
        rate = c.requires.room.rate;
        motion = c.begin_world.ensures.len ∙ c.requires.room.motion;
        drift = c.begin_world-2.ensures.len ∙ c.requires.room.drift;
        wrench = c.requires.room.wrench;
      };
      carried = carried_world g.K.Carry.settled c.args.model.now c.args.frames.now c.args.state.now g.K.Carry.width g.K.Carry.wide_width _ c.begin_world.ensures.here c.begin_world-2.ensures.here;
      passed = ap (λ (n : ℕ). first_to n (dof_fault g.K.Carry.settled m)) (place_none c.args.model.now);
    }

pub move_body-requires-clause-carried : goal.move_body-requires-clause-carried
move_body-requires-clause-carried g c =
    let m = movement c.args.model.now c.args.frames.now c.args.state.now in
    let there : c.loop-b.b < length c.args.model.now.bodies = omega arith in
    subst (λ (n : ℕ). IsCarried g.K.Carry.settled g.K.Carry.width g.K.Carry.wide_width m c.loop-b.b n c.loop-b.out) (sym (place_first c.args.model.now c.loop-b.b there)) c.loop-b.invariant.carried

pub move_body-requires-clause-passed : goal.move_body-requires-clause-passed
move_body-requires-clause-passed g c =
    let m = movement c.args.model.now c.args.frames.now c.args.state.now in
    let there : c.loop-b.b < length c.args.model.now.bodies = omega arith in
    ap (λ (n : ℕ). first_to n (dof_fault g.K.Carry.settled m)) (place_first c.args.model.now c.loop-b.b there) ∙ c.loop-b.invariant.passed

pub loop-b-preserved : goal.loop-b-preserved
loop-b-preserved g c =
    let m = movement c.args.model.now c.args.frames.now c.args.state.now in
    let there : c.loop-b.b < length c.args.model.now.bodies = omega arith in
    let e = place_end c.args.model.now c.loop-b.b there in
    record {
      room = c.move_body.ensures.room;
      carried = subst (λ (n : ℕ). IsCarried g.K.Carry.settled g.K.Carry.width g.K.Carry.wide_width m (c.loop-b.b + 1) n c.move_body.new.out) e c.in_ok-move_body.ensures.carried;
      passed = ap (λ (n : ℕ). first_to n (dof_fault g.K.Carry.settled m)) (sym e) ∙ sym c.in_ok-move_body.ensures.first;
    }

pub returns-in_err-move_body-clause-first : goal.returns-in_err-move_body-clause-first
returns-in_err-move_body-clause-first g c =
    let m = movement c.args.model.now c.args.frames.now c.args.state.now in
    let there : c.loop-b.b < length c.args.model.now.bodies = omega arith in
    let x = body c.args.model.now.bodies c.loop-b.b in
    let r = err_from_is_err_and c.from_residual.result c.from_residual.ensures.1 in
    rw (r.1, r.2)
    (sym (first_stop (x.dofadr + x.dofnum) c.args.model.now.nv (dof_fault g.K.Carry.settled m) _ (omega (arith, place_end c.args.model.now c.loop-b.b there, place_le c.args.model.now (c.loop-b.b + 1) (omega arith))) (sym c.in_err-move_body.ensures.first)))

pub returns : goal.returns
returns g c =
    let m = movement c.args.model.now c.args.frames.now c.args.state.now in
    let e : c.loop-b.b ≡ length c.args.model.now.bodies = omega arith in
    let all = ap (place c.args.model.now) e ∙ place_all c.args.model.now in
    record {
      room = c.loop-b.invariant.room;
      carried = subst (λ (n : ℕ). IsCarried g.K.Carry.settled g.K.Carry.width g.K.Carry.wide_width m (length c.args.model.now.bodies) n c.loop-b.out) all
          (subst (λ (b : ℕ). IsCarried g.K.Carry.settled g.K.Carry.width g.K.Carry.wide_width m b (place c.args.model.now c.loop-b.b) c.loop-b.out) e c.loop-b.invariant.carried);
      first = pass_all (place c.args.model.now c.loop-b.b) c.args.model.now.nv (dof_fault g.K.Carry.settled m) all c.loop-b.invariant.passed;
    }
