use Rattle.std.proofs.Common.{ℤ, suc, ◌+ℤ◌, ap, ◌∙◌, sym, arith}
use Rattle.fx_whole.proofs.SumLaws.{sum_to-more}
use Rattle.mj_types.specs.Parts.{dof, number_at}
use Rattle.mj_passive.specs.Forces.{joint_push, tendon_push, joint_motor, tendon_motor}
use Rattle.mj_passive.proofs.motors.push_all.Goals as goal

pub loop-k-preserved : goal.loop-k-preserved
loop-k-preserved c =
    let m = c.args.model.now in
    let controls = c.args.controls.now in
    let k = c.loop-k.k in
    record {
      dofs = λ d h. c.push.ensures.dofs d h ∙ ap (λ (x : ℤ). x +ℤ joint_push m k (dof m.dofs d).joint (number_at controls k)) (c.loop-k.invariant.dofs d h)
          ∙ sym (sum_to-more k (joint_motor m controls (dof m.dofs d).joint));
      tendons = λ t h. c.push.ensures.tendons t h ∙ ap (λ (x : ℤ). x +ℤ tendon_push m k (suc t) (number_at controls k)) (c.loop-k.invariant.tendons t h)
          ∙ sym (sum_to-more k (tendon_motor m controls (suc t)));
      dof_sizes = λ d. omega (arith, c.push.ensures.dof_sizes d, c.loop-k.invariant.dof_sizes d);
      tendon_sizes = λ t. omega (arith, c.push.ensures.tendon_sizes t, c.loop-k.invariant.tendon_sizes t);
    }
