use Rattle.std.proofs.Common.{refl, ℕ, ◌+◌, ◌^◌, ◌≤◌, length, sym, ◌∙◌, subst, arith}
use Rattle.std.proofs.lemmas.Result.{err_from_is_err_and}
use Rattle.fx_whole.proofs.FirstLaws.{first_ext, stop_first, pass_first}
use Rattle.mj_types.specs.Parts.{parent_of, body_of}
use Rattle.mj_bias.specs.Measures.{Measured, totals_at, IsWithin}
use Rattle.mj_bias.specs.Carried.{movement, wrench_at}
use Rattle.mj_bias.proofs.CarryLaws.{next_velocity}
use Rattle.mj_bias.proofs.MovingLaws.{AreSlow, layout_of, drift_within}
use Rattle.mj_bias.proofs.PartLaws.{all_within, all_wrenches, body_wrench_is, body_fault_is, sum_there_is, dof_force_is, dof_radius_is, dof_force_fault_is}
use Rattle.mj_bias.proofs.forces.bias.Goals as goal

pub weigh_bodies-requires-clause-drifts : goal.weigh_bodies-requires-clause-drifts
weigh_bodies-requires-clause-drifts g c = λ k h.
    let m = movement c.args.model.now c.args.frames.now c.args.state.now in
    let carried = c.in_ok-move_bodies.ensures.carried in
    let slow : AreSlow g.K.Carry.settled m c.args.model.now.nv = record {
      few = c.args.model.now.of_joints.few;
      columns = c.requires.frames.column;
      speeds = c.requires.fits.velocities.each;
      rates = carried.rates;
    } in
    subst (λ (s : Measured). IsWithin s (2 ^ 110) (2 ^ 100)) (sym (carried.drift_ k h)) (drift_within g.K.Carry.settled m c.args.model.now.nv k slow)

pub weigh_bodies-requires-clause-shared : goal.weigh_bodies-requires-clause-shared
weigh_bodies-requires-clause-shared g c = λ k h.
    next_velocity g.K.Carry.settled c.args.model.now c.args.frames.now c.args.state.now g.K.Carry.width g.K.Carry.wide_width c.move_bodies.new.out c.in_ok-move_bodies.ensures.carried k h

pub carry_up-requires-clause-within : goal.carry_up-requires-clause-within
carry_up-requires-clause-within g c =
    all_within (totals_at g.K.Carry.wide_width c.weigh_bodies.new.wrench) (length c.args.model.now.bodies) c.in_ok-weigh_bodies.ensures.world c.in_ok-weigh_bodies.ensures.within

pub make_forces-requires-clause-columns : goal.make_forces-requires-clause-columns
make_forces-requires-clause-columns g c = λ i h.
    c.requires.frames.column i h

pub returns-in_err-move_bodies-clause-first : goal.returns-in_err-move_bodies-clause-first
returns-in_err-move_bodies-clause-first g c =
    let r = err_from_is_err_and c.from_residual.result c.from_residual.ensures.1 in
    rw (r.1, r.2) (stop_first _ _ _ c.in_err-move_bodies.ensures.first)

pub returns-in_err-weigh_bodies-clause-first : goal.returns-in_err-weigh_bodies-clause-first
returns-in_err-weigh_bodies-clause-first g c =
    let m = movement c.args.model.now c.args.frames.now c.args.state.now in
    let carried = c.in_ok-move_bodies.ensures.carried in
    let r = err_from_is_err_and c.from_residual-in_err-weigh_bodies.result c.from_residual-in_err-weigh_bodies.ensures.1 in
    rw (r.1, r.2)
    (pass_first _ _ _ c.in_ok-move_bodies.ensures.first
    (stop_first _ _ _ (c.in_err-weigh_bodies.ensures.first
    ∙ first_ext (length c.args.model.now.bodies) _ _ (λ b h. body_fault_is g.K.Carry.settled m b _ _ (carried.motion_ (b + 1) (omega arith)) (carried.drift_ (b + 1) (omega arith))))))

pub returns-in_err-make_forces-clause-first : goal.returns-in_err-make_forces-clause-first
returns-in_err-make_forces-clause-first g c =
    let model = c.args.model.now in
    let m = movement model c.args.frames.now c.args.state.now in
    let rule = g.K.Carry.settled in
    let wide = g.K.Carry.wide_width in
    let carried = c.in_ok-move_bodies.ensures.carried in
    let weighed = c.in_ok-weigh_bodies.ensures in
    let wrenches = all_wrenches rule m (totals_at wide c.weigh_bodies.new.wrench) (length model.bodies) weighed.world
    (λ b h. weighed.wrenches b h ∙ body_wrench_is rule m b _ _ (carried.motion_ (b + 1) (omega arith)) (carried.drift_ (b + 1) (omega arith))) in
    let sums = λ (k : ℕ) (h : k ≤ length model.bodies).
    c.carry_up.ensures.sums k h ∙ sum_there_is (parent_of model.bodies) (length model.bodies + 1) (totals_at wide c.weigh_bodies.new.wrench) (wrench_at rule m) k (λ a l. wrenches a (omega arith)) in
    let r = err_from_is_err_and c.from_residual-in_err-make_forces.result c.from_residual-in_err-make_forces.ensures.1 in
    rw (r.1, r.2)
    (pass_first _ _ _ c.in_ok-move_bodies.ensures.first
    (pass_first _ _ _ (c.in_ok-weigh_bodies.ensures.first
    ∙ first_ext (length model.bodies) _ _ (λ b h. body_fault_is rule m b _ _ (carried.motion_ (b + 1) (omega arith)) (carried.drift_ (b + 1) (omega arith))))
    (c.in_err-make_forces.ensures.first
    ∙ first_ext model.nv _ _ (λ i h. dof_force_fault_is rule m i _ _ refl (sums (body_of model.dofs i) ((layout_of model).on_body i h))))))

pub returns-clause-first : goal.returns-clause-first
returns-clause-first g c =
    let model = c.args.model.now in
    let m = movement model c.args.frames.now c.args.state.now in
    let rule = g.K.Carry.settled in
    let wide = g.K.Carry.wide_width in
    let carried = c.in_ok-move_bodies.ensures.carried in
    let weighed = c.in_ok-weigh_bodies.ensures in
    let wrenches = all_wrenches rule m (totals_at wide c.weigh_bodies.new.wrench) (length model.bodies) weighed.world
    (λ b h. weighed.wrenches b h ∙ body_wrench_is rule m b _ _ (carried.motion_ (b + 1) (omega arith)) (carried.drift_ (b + 1) (omega arith))) in
    let sums = λ (k : ℕ) (h : k ≤ length model.bodies).
    c.carry_up.ensures.sums k h ∙ sum_there_is (parent_of model.bodies) (length model.bodies + 1) (totals_at wide c.weigh_bodies.new.wrench) (wrench_at rule m) k (λ a l. wrenches a (omega arith)) in
    pass_first _ _ _ c.in_ok-move_bodies.ensures.first
    (pass_first _ _ _ (c.in_ok-weigh_bodies.ensures.first
    ∙ first_ext (length model.bodies) _ _ (λ b h. body_fault_is rule m b _ _ (carried.motion_ (b + 1) (omega arith)) (carried.drift_ (b + 1) (omega arith))))
    (c.in_ok-make_forces.ensures.first
    ∙ first_ext model.nv _ _ (λ i h. dof_force_fault_is rule m i _ _ refl (sums (body_of model.dofs i) ((layout_of model).on_body i h)))))

pub returns-clause-values : goal.returns-clause-values
returns-clause-values g c =
    let model = c.args.model.now in
    let m = movement model c.args.frames.now c.args.state.now in
    let rule = g.K.Carry.settled in
    let wide = g.K.Carry.wide_width in
    let carried = c.in_ok-move_bodies.ensures.carried in
    let weighed = c.in_ok-weigh_bodies.ensures in
    let wrenches = all_wrenches rule m (totals_at wide c.weigh_bodies.new.wrench) (length model.bodies) weighed.world
    (λ b h. weighed.wrenches b h ∙ body_wrench_is rule m b _ _ (carried.motion_ (b + 1) (omega arith)) (carried.drift_ (b + 1) (omega arith))) in
    let sums = λ (k : ℕ) (h : k ≤ length model.bodies).
    c.carry_up.ensures.sums k h ∙ sum_there_is (parent_of model.bodies) (length model.bodies + 1) (totals_at wide c.weigh_bodies.new.wrench) (wrench_at rule m) k (λ a l. wrenches a (omega arith)) in
    let holds = c.in_ok-make_forces.ensures.values in
    record {
      value_ = λ i h d. holds.value_ i h d ∙ dof_force_is rule m i _ _ refl (sums (body_of model.dofs i) ((layout_of model).on_body i h));
      radius_ = λ i h d. holds.radius_ i h d ∙ dof_radius_is rule m i _ _ refl (sums (body_of model.dofs i) ((layout_of model).on_body i h));
    }
