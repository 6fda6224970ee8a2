use Rattle.std.proofs.Common.{ℕ, ap, sym, ◌∙◌, cond, arith}
use Rattle.mj_rows.specs.Joints.{frictions, has_friction, friction_of}
use Rattle.mj_rows.proofs.CountLaws.{count_none, count_more, one_or_none}
use Rattle.mj_rows.proofs.count.friction_count.Goals as goal

pub loop-j-init : goal.loop-j-init
loop-j-init c = record { counted = count_none (frictions c.args.model.now); few = omega arith }

pub loop-j-preserved : goal.loop-j-preserved
loop-j-preserved c =
    let m = c.args.model.now in
    let j = c.loop-j.j in
    record {
      counted = count_more j c.loop-j.count c.one_if-count.result (frictions m) c.loop-j.invariant.counted
          (c.one_if-count.ensures.value ∙ ap (λ b. cond {A = ℕ} b 1 0) c.has_friction.ensures ∙ sym (one_or_none (has_friction m j) (friction_of m j)));
      few = omega (arith, c.loop-j.invariant.few, c.one_if-count.ensures.few);
    }
