use Rattle.std.proofs.Common.{List, ℤ, pos, length, Some, None, ap, sym, ◌∙◌}
use Rattle.std.proofs.lemmas.Result.{err_from_is_err_and}
use Rattle.fx_whole.specs.First.{first_to}
use Rattle.fx_whole.proofs.EntryLaws.{below-is}
use Rattle.fx_whole.proofs.FirstLaws.{stop_first, pass_first}
use Rattle.fx_num.specs.declared.number.Number.{Number}
use Rattle.mj_types.specs.Control.{Control}
use Rattle.mj_types.specs.Duals.{wide_at}
use Rattle.mj_types.specs.Parts.{dof, plain, number_at}
use Rattle.mj_passive.specs.Forces.{tau_of, tau, tendon_fault, tau_fault}
use Rattle.mj_passive.proofs.AppliedLaws.{AreAdded, tendon_faults-are, added-is, tau_faults-are, are_applied}
use Rattle.mj_passive.proofs.dofs.applied.Goals as goal

pub returns-in_err-take_tendons-clause-first : goal.returns-in_err-take_tendons-clause-first
returns-in_err-take_tendons-clause-first c =
    let m = c.args.model.now in
    let s = c.args.state.now in
    let u = c.args.controls.now in
    let r = err_from_is_err_and c.from_residual.result c.from_residual.ensures.1 in
    rw (r.1, r.2)
    (stop_first (first_to (length m.tendons) (tendon_fault m s u)) (first_to m.nv (tau_fault m s u)) _
    (c.in_err-take_tendons.ensures.first ∙ tendon_faults-are m s u (wide_at c.push_all.new.tendons) c.push_all.ensures.tendons))

pub returns-in_err-write_dofs-clause-first : goal.returns-in_err-write_dofs-clause-first
returns-in_err-write_dofs-clause-first c =
    let m = c.args.model.now in
    let s = c.args.state.now in
    let u = c.args.controls.now in
    let added : AreAdded m s u (wide_at c.take_tendons.new.dofs) = λ d h. added-is m s u (wide_at c.push_all.new.tendons) (dof m.dofs d).joint (wide_at c.take_tendons.new.dofs d) (wide_at c.push_all.new.dofs d)
    c.push_all.ensures.tendons (c.in_ok-take_tendons.ensures.dofs d h) (c.push_all.ensures.dofs d h) in
    let r = err_from_is_err_and c.from_residual-in_err-write_dofs.result c.from_residual-in_err-write_dofs.ensures.1 in
    rw (r.1, r.2)
    (pass_first (first_to (length m.tendons) (tendon_fault m s u)) (first_to m.nv (tau_fault m s u)) (Some _)
    (c.in_ok-take_tendons.ensures.first ∙ tendon_faults-are m s u (wide_at c.push_all.new.tendons) c.push_all.ensures.tendons)
    (c.in_err-write_dofs.ensures.first ∙ tau_faults-are m s u (wide_at c.take_tendons.new.dofs) added))

pub returns-clause-first : goal.returns-clause-first
returns-clause-first c =
    let m = c.args.model.now in
    let s = c.args.state.now in
    let u = c.args.controls.now in
    let added : AreAdded m s u (wide_at c.take_tendons.new.dofs) = λ d h. added-is m s u (wide_at c.push_all.new.tendons) (dof m.dofs d).joint (wide_at c.take_tendons.new.dofs d) (wide_at c.push_all.new.dofs d)
    c.push_all.ensures.tendons (c.in_ok-take_tendons.ensures.dofs d h) (c.push_all.ensures.dofs d h) in
    pass_first (first_to (length m.tendons) (tendon_fault m s u)) (first_to m.nv (tau_fault m s u)) None
    (c.in_ok-take_tendons.ensures.first ∙ tendon_faults-are m s u (wide_at c.push_all.new.tendons) c.push_all.ensures.tendons)
    (c.in_ok-write_dofs.ensures.first ∙ tau_faults-are m s u (wide_at c.take_tendons.new.dofs) added)

pub returns-clause-tau : goal.returns-clause-tau
returns-clause-tau c =
    let m = c.args.model.now in
    let s = c.args.state.now in
    let u = c.args.controls.now in
    let added : AreAdded m s u (wide_at c.take_tendons.new.dofs) = λ d h. added-is m s u (wide_at c.push_all.new.tendons) (dof m.dofs d).joint (wide_at c.take_tendons.new.dofs d) (wide_at c.push_all.new.dofs d)
    c.push_all.ensures.tendons (c.in_ok-take_tendons.ensures.dofs d h) (c.push_all.ensures.dofs d h) in
    below-is (λ (x : Number (Unit {0}) 32). x.mid) (plain (pos 0)) c.write_dofs.new.out.tau m.nv (tau m s u) c.write_dofs.ensures.room.tau
    (λ d h. c.in_ok-write_dofs.ensures.tau d h ∙ ap (λ (x : ℤ). tau_of m s x d) (added d h))

pub returns-clause-ranges : goal.returns-clause-ranges
returns-clause-ranges c =
    let a = c.write_dofs.new.out in
    are_applied c.args.model.now c.args.state.now (wide_at c.push_all.new.tendons) (wide_at c.take_tendons.new.dofs) a c.write_dofs.ensures.room
    (record {
      lengths = λ t h. ap (λ (xs : List Control). number_at xs t) c.write_dofs.ensures.lengths ∙ c.in_ok-take_tendons.ensures.stretches.lengths t h;
      rates = λ t h. ap (λ (xs : List Control). number_at xs t) c.write_dofs.ensures.rates ∙ c.in_ok-take_tendons.ensures.stretches.rates t h;
    })
    c.in_ok-write_dofs.ensures.tau (sym c.in_ok-take_tendons.ensures.first) (sym c.in_ok-write_dofs.ensures.first)
