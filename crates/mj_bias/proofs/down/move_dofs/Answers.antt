use Rattle.std.proofs.Common.{◌≡◌, ℕ, ◌+◌, ◌<◌, ◌≤◌, sym, ap, ◌∙◌, subst, arith}
use Rattle.std.proofs.lemmas.Result.{err_from_is_err_and}
use Rattle.fx_whole.specs.First.{first_to}
use Rattle.fx_whole.proofs.FirstLaws.{stop_here, pass_more, pass_all}
use Rattle.mj_types.specs.declared.parts.Body.{Body}
use Rattle.mj_types.specs.Parts.{body, no_body}
use Rattle.mj_bias.specs.Faults.{dof_fault}
use Rattle.mj_bias.specs.Carried.{movement, IsBegun}
use Rattle.mj_bias.proofs.PlaceLaws.{place_first, place_end, place_le, of_body}
use Rattle.mj_bias.proofs.down.move_dofs.Goals as goal

pub overflow_add-end : goal.overflow_add-end
overflow_add-end g c =
    let m = c.args.model.now in
    omega (arith, ap (λ (x : Body). x.dofadr) (c.entry.ensures no_body), ap (λ (x : Body). x.dofnum) (c.entry-2.ensures no_body), place_end m c.args.b c.requires.place, place_le m (c.args.b + 1) (omega arith), m.of_joints.few)

pub loop-j-init : goal.loop-j-init
loop-j-init g c =
    let m = movement c.args.model.now c.args.frames.now c.args.state.now in
    let e = ap (λ (x : Body). x.dofadr) (c.entry.ensures no_body) in
    record {
      room = c.requires.room;
      begun = subst (λ (j : ℕ). IsBegun g.K.Carry.settled g.K.Carry.width g.K.Carry.wide_width m c.args.b j c.args.out.now) e c.requires.begun;
      passed = ap (λ (j : ℕ). first_to j (dof_fault g.K.Carry.settled m)) (sym e) ∙ c.requires.passed;
    }

pub move_dof-requires-clause-dof : goal.move_dof-requires-clause-dof
move_dof-requires-clause-dof g c =
    let m = c.args.model.now in
    omega (arith, ap (λ (x : Body). x.dofadr) (c.entry.ensures no_body), ap (λ (x : Body). x.dofnum) (c.entry-2.ensures no_body), place_end m c.args.b c.requires.place, place_le m (c.args.b + 1) (omega arith))

pub move_dof-requires-clause-body : goal.move_dof-requires-clause-body
move_dof-requires-clause-body g c =
    let m = c.args.model.now in
    of_body m c.args.b c.loop-j.j c.requires.place
    (omega (arith, ap (λ (x : Body). x.dofadr) (c.entry.ensures no_body), place_first m c.args.b c.requires.place))
    (omega (arith, ap (λ (x : Body). x.dofadr) (c.entry.ensures no_body), ap (λ (x : Body). x.dofnum) (c.entry-2.ensures no_body), place_end m c.args.b c.requires.place))

pub loop-j-preserved : goal.loop-j-preserved
loop-j-preserved g c =
    let m = movement c.args.model.now c.args.frames.now c.args.state.now in
    record {
      room = c.move_dof.ensures.room;
      begun = c.in_ok-move_dof.ensures.begun;
      passed = pass_more c.loop-j.j (dof_fault g.K.Carry.settled m) c.loop-j.invariant.passed c.in_ok-move_dof.ensures.first;
    }

pub returns-in_err-move_dof-clause-first : goal.returns-in_err-move_dof-clause-first
returns-in_err-move_dof-clause-first g c =
    let m = movement c.args.model.now c.args.frames.now c.args.state.now in
    let x = body c.args.model.now.bodies c.args.b in
    let r = err_from_is_err_and c.from_residual.result c.from_residual.ensures.1 in
    let before : c.loop-j.j < x.dofadr + x.dofnum = omega (arith, ap (λ (x : Body). x.dofadr) (c.entry.ensures no_body), ap (λ (x : Body). x.dofnum) (c.entry-2.ensures no_body)) in
    rw (r.1, r.2) (stop_here c.loop-j.j (x.dofadr + x.dofnum) (dof_fault g.K.Carry.settled m) _ before c.loop-j.invariant.passed c.in_err-move_dof.ensures.first)

pub returns : goal.returns
returns g c =
    let m = movement c.args.model.now c.args.frames.now c.args.state.now in
    let x = body c.args.model.now.bodies c.args.b in
    let last : c.loop-j.j ≤ c.entry.result.now.dofadr + c.entry-2.result.now.dofnum = c.loop-j.auto.j-end (omega arith) in
    let e : c.loop-j.j ≡ x.dofadr + x.dofnum = omega (arith, ap (λ (x : Body). x.dofadr) (c.entry.ensures no_body), ap (λ (x : Body). x.dofnum) (c.entry-2.ensures no_body)) in
    record {
      room = c.loop-j.invariant.room;
      begun = subst (λ (j : ℕ). IsBegun g.K.Carry.settled g.K.Carry.width g.K.Carry.wide_width m c.args.b j c.loop-j.out) e c.loop-j.invariant.begun;
      first = pass_all c.loop-j.j (x.dofadr + x.dofnum) (dof_fault g.K.Carry.settled m) e c.loop-j.invariant.passed;
    }
