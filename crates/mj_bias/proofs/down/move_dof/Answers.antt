use Rattle.std.proofs.Common.{◌+◌, ◌^◌, ◌<◌, ℤ, pos, length, refl, sym, ap, ap₂, ◌∙◌, subst, arith, lit≤}
use Rattle.std.proofs.lemmas.Result.{err_from_is_err_and}
use Rattle.fx_num.specs.Radii.{radius_limit}
use Rattle.fx_vec.specs.Views.{spatial}
use Rattle.mj_types.specs.Parts.{plain, no_motion}
use Rattle.mj_bias.specs.Measures.{Measured, exact, numbers, no_measure, totals_at, sum_of, multiple, IsWithin}
use Rattle.mj_bias.specs.Carried.{movement}
use Rattle.mj_bias.proofs.SeenLaws.{seen-read}
use Rattle.mj_bias.proofs.StepLaws.{exact_within, within-le}
use Rattle.mj_bias.proofs.MovingLaws.{AreSlow, layout_of, carrier_is, rate_there_is, dof_fault_is, motion_within, drift_within, begun_more}
use Rattle.mj_bias.proofs.down.move_dof.Goals as goal

pub returns-in_err-make_dof-clause-first : goal.returns-in_err-make_dof-clause-first
returns-in_err-make_dof-clause-first g c =
    let m = movement c.args.model.now c.args.frames.now c.args.state.now in
    let turn = carrier_is g.K.Carry.settled g.K.Carry.width g.K.Carry.wide_width c.args.model.now m c.args.out.now c.args.b c.args.j (λ i. refl) (λ i. refl) c.requires.dof c.requires.body c.requires.begun in
    let r = err_from_is_err_and c.from_residual.result c.from_residual.ensures.1 in
    rw (r.1, r.2) (c.in_err-make_dof.ensures.first ∙ dof_fault_is g.K.Carry.settled m c.args.j _ turn)

pub add_at-requires-clause-factor : goal.add_at-requires-clause-factor
add_at-requires-clause-factor g c = rw (c.entry-v.ensures (plain (pos 0))) at (c.requires.fits.velocities.each c.args.j c.requires.dof)

pub add_at-requires-clause-vector : goal.add_at-requires-clause-vector
add_at-requires-clause-vector g c =
    let e = c.exact6-column.ensures ∙ ap (λ s. exact (spatial s)) (sym (c.entry.ensures no_motion)) in
    within-le _ (2 ^ 42) 0 (2 ^ 56) radius_limit (subst (λ (s : Measured). IsWithin s (2 ^ 42) 0) (sym e) (exact_within _ (2 ^ 42) (c.requires.frames.column c.args.j c.requires.dof))) (lit≤ tt) (lit≤ tt)

pub add_at-requires-clause-sum : goal.add_at-requires-clause-sum
add_at-requires-clause-sum g c =
    let m = movement c.args.model.now c.args.frames.now c.args.state.now in
    let slow : AreSlow g.K.Carry.settled m c.args.j = record {
      few = omega (arith, c.args.model.now.of_joints.few);
      columns = λ i l. c.requires.frames.column i (omega arith);
      speeds = λ i l. c.requires.fits.velocities.each i (omega arith);
      rates = c.requires.begun.earlier.rates;
    } in
    subst (λ (s : Measured). IsWithin s (2 ^ 110) (2 ^ 100))
    (sym (ap (λ xs. totals_at g.K.Carry.wide_width xs (c.args.b + 1)) c.make_dof.ensures.motion ∙ c.requires.begun.motion_here))
    (motion_within g.K.Carry.settled m c.args.j (c.args.b + 1) slow)

pub add_at-requires-2-clause-factor : goal.add_at-requires-2-clause-factor
add_at-requires-2-clause-factor g c = rw (c.entry-v.ensures (plain (pos 0))) at (c.requires.fits.velocities.each c.args.j c.requires.dof)

pub add_at-requires-2-clause-vector : goal.add_at-requires-2-clause-vector
add_at-requires-2-clause-vector g c =
    let there : c.args.j < length c.make_dof.new.out.rate = omega (arith, c.make_dof.ensures.room.rate) in
    subst (λ (s : Measured). IsWithin s (2 ^ 56) radius_limit)
    (seen-read (numbers g.K.Carry.width) no_measure c.make_dof.new.out.rate c.args.j c.entry-2.result.now there c.entry-2.ensures)
    c.in_ok-make_dof.ensures.small_rate

pub add_at-requires-2-clause-sum : goal.add_at-requires-2-clause-sum
add_at-requires-2-clause-sum g c =
    let m = movement c.args.model.now c.args.frames.now c.args.state.now in
    let slow : AreSlow g.K.Carry.settled m c.args.j = record {
      few = omega (arith, c.args.model.now.of_joints.few);
      columns = λ i l. c.requires.frames.column i (omega arith);
      speeds = λ i l. c.requires.fits.velocities.each i (omega arith);
      rates = c.requires.begun.earlier.rates;
    } in
    subst (λ (s : Measured). IsWithin s (2 ^ 110) (2 ^ 100))
    (sym (ap (λ xs. totals_at g.K.Carry.wide_width xs (c.args.b + 1)) c.make_dof.ensures.drift ∙ c.requires.begun.drift_here))
    (drift_within g.K.Carry.settled m c.args.j (c.args.b + 1) slow)

pub returns-clause-begun : goal.returns-clause-begun
returns-clause-begun g c =
    let m = movement c.args.model.now c.args.frames.now c.args.state.now in
    let rule = g.K.Carry.settled in
    let made = c.in_ok-make_dof.ensures in
    let turn = carrier_is rule g.K.Carry.width g.K.Carry.wide_width c.args.model.now m c.args.out.now c.args.b c.args.j (λ i. refl) (λ i. refl) c.requires.dof c.requires.body c.requires.begun in
    let rate = made.rate ∙ rate_there_is rule m c.args.j _ turn in
    let rated : c.args.j < length c.make_dof.new.out.rate = omega (arith, c.make_dof.ensures.room.rate) in
    let v = ap (λ x. x.mid) (sym (c.entry-v.ensures (plain (pos 0)))) in
    let s = c.exact6-column.ensures ∙ ap (λ s. exact (spatial s)) (sym (c.entry.ensures no_motion)) in
    let t = sym (seen-read (numbers g.K.Carry.width) no_measure c.make_dof.new.out.rate c.args.j c.entry-2.result.now rated c.entry-2.ensures) ∙ rate in
    begun_more rule g.K.Carry.width g.K.Carry.wide_width m c.args.b c.args.j c.args.out.now _ (layout_of c.args.model.now).tree c.requires.body c.requires.begun
    (made.turn ∙ turn) made.small_turn (subst (λ (x : Measured). IsWithin x (2 ^ 56) radius_limit) rate made.small_rate)
    c.make_dof.ensures.other_turns
    (λ k n. c.add_at.ensures.others k n ∙ ap (λ xs. totals_at g.K.Carry.wide_width xs k) c.make_dof.ensures.motion)
    (λ k n. c.add_at-2.ensures.others k n ∙ ap (λ xs. totals_at g.K.Carry.wide_width xs k) c.make_dof.ensures.drift)
    (c.add_at.ensures.here ∙ ap (λ xs. sum_of (totals_at g.K.Carry.wide_width xs (c.args.b + 1)) (multiple c.entry-v.result.now.mid (numbers g.K.Carry.width c.exact6-column.result))) c.make_dof.ensures.motion
    ∙ ap₂ (λ (k : ℤ) (x : Measured). sum_of (totals_at g.K.Carry.wide_width c.args.out.now.motion (c.args.b + 1)) (multiple k x)) v s)
    (c.add_at-2.ensures.here ∙ ap (λ xs. sum_of (totals_at g.K.Carry.wide_width xs (c.args.b + 1)) (multiple c.entry-v.result.now.mid (numbers g.K.Carry.width c.entry-2.result.now))) c.make_dof.ensures.drift
    ∙ ap₂ (λ (k : ℤ) (x : Measured). sum_of (totals_at g.K.Carry.wide_width c.args.out.now.drift (c.args.b + 1)) (multiple k x)) v t)

pub returns-clause-first : goal.returns-clause-first
returns-clause-first g c =
    let m = movement c.args.model.now c.args.frames.now c.args.state.now in
    let turn = carrier_is g.K.Carry.settled g.K.Carry.width g.K.Carry.wide_width c.args.model.now m c.args.out.now c.args.b c.args.j (λ i. refl) (λ i. refl) c.requires.dof c.requires.body c.requires.begun in
    c.in_ok-make_dof.ensures.first ∙ dof_fault_is g.K.Carry.settled m c.args.j _ turn
