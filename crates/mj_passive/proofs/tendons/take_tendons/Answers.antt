use Rattle.std.proofs.Common.{◌≡◌, ℕ, ◌+ℤ◌, ap, ◌∙◌, length, arith}
use Rattle.std.proofs.lemmas.Result.{err_from_is_err_and}
use Rattle.fx_whole.specs.Sums.{sum_to}
use Rattle.fx_whole.proofs.FirstLaws.{stop_here, pass_more}
use Rattle.mj_types.specs.Duals.{wide_at}
use Rattle.mj_types.specs.Parts.{dof}
use Rattle.mj_passive.specs.Forces.{pull_from, tendon_fault_from}
use Rattle.mj_passive.proofs.TendonLaws.{stretch_more}
use Rattle.mj_passive.proofs.SumLaws.{more}
use Rattle.mj_passive.proofs.tendons.take_tendons.Goals as goal

pub loop-t-preserved : goal.loop-t-preserved
loop-t-preserved c =
    let m = c.args.model.now in
    let s = c.args.state.now in
    let motors = wide_at c.args.motors.now in
    let t = c.loop-t.t in
    record {
      room = c.take_tendon.ensures.room;
      stretches = stretch_more m s t c.loop-t.out c.take_tendon.new.out c.loop-t.invariant.stretches c.in_ok-take_tendon.ensures.writes;
      dofs = λ d h. more (wide_at c.take_tendon.new.dofs d) (wide_at c.args.dofs.now d) (wide_at c.loop-t.dofs d) t (pull_from m s (dof m.dofs d).joint motors)
          (c.in_ok-take_tendon.ensures.dofs d h) (c.loop-t.invariant.dofs d h);
      sizes = λ d. omega (arith, c.in_ok-take_tendon.ensures.sizes d, c.loop-t.invariant.sizes d);
      passed = pass_more t (λ (k : ℕ). tendon_fault_from m s k (motors k)) c.loop-t.invariant.passed c.in_ok-take_tendon.ensures.first;
    }

pub returns-in_err-take_tendon-clause-first : goal.returns-in_err-take_tendon-clause-first
returns-in_err-take_tendon-clause-first c =
    let m = c.args.model.now in
    let s = c.args.state.now in
    let r = err_from_is_err_and c.from_residual.result c.from_residual.ensures.1 in
    rw (r.1, r.2)
    (stop_here c.loop-t.t (length m.tendons) (λ (t : ℕ). tendon_fault_from m s t (wide_at c.args.motors.now t)) _ (omega arith) c.loop-t.invariant.passed c.in_err-take_tendon.ensures.first)

pub returns-clause-dofs : goal.returns-clause-dofs
returns-clause-dofs c d h =
    let m = c.args.model.now in
    let whole : c.loop-t.t ≡ length m.tendons = omega (arith, c.len-t-end.ensures) in
    c.loop-t.invariant.dofs d h
    ∙ ap (λ (n : ℕ). wide_at c.args.dofs.now d +ℤ sum_to n (pull_from m c.args.state.now (dof m.dofs d).joint (wide_at c.args.motors.now))) whole
