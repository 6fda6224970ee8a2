use Rattle.std.proofs.Common.{ℕ, length, ap, sym, ◌∙◌, arith}
use Rattle.std.proofs.lemmas.Result.{err_from_is_err_and}
use Rattle.fx_whole.proofs.FirstLaws.{stop_here, pass_more}
use Rattle.fx_vec.specs.Views.{inertia}
use Rattle.fx_vec.specs.declared.inertia.Inertia10.{Inertia10}
use Rattle.mj_types.specs.Parts.{no_inertia}
use Rattle.mj_types.specs.Placed.{inertia_at}
use Rattle.mj_kin.specs.Bodies.{light_fault}
use Rattle.mj_kin.proofs.inertias.judge_inertias.Goals as goal

pub returns-in_err-judge_inertia : goal.returns-in_err-judge_inertia
returns-in_err-judge_inertia c =
    let p = err_from_is_err_and c.from_residual.result c.from_residual.ensures.1 in
    let b = c.loop-b.b in
    rw (p.1, p.2)
    (stop_here b (length c.args.inertias.now) (λ (b : ℕ). light_fault b (inertia_at c.args.inertias.now b)) _ (omega arith) c.loop-b.invariant.passed
    (c.in_err-judge_inertia.ensures ∙ ap (λ (x : Inertia10). light_fault b (inertia x)) (sym (c.entry.ensures no_inertia))))

pub loop-b-preserved : goal.loop-b-preserved
loop-b-preserved c =
    let b = c.loop-b.b in
    record {
      passed = pass_more b (λ (b : ℕ). light_fault b (inertia_at c.args.inertias.now b)) c.loop-b.invariant.passed
          (c.in_ok-judge_inertia.ensures ∙ ap (λ (x : Inertia10). light_fault b (inertia x)) (sym (c.entry.ensures no_inertia)));
    }
