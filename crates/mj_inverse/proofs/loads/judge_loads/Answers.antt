use Rattle.std.proofs.Common.{◌≡◌, ℕ, ℤ, max, length, sym, ap₂, ◌∙◌, arith, rules}
use Rattle.std.proofs.lemmas.Result.{err_from_is_err_and}
use Rattle.fx_whole.proofs.FirstLaws.{stop_here, pass_more}
use Rattle.mj_types.specs.Masses.{mass_at}
use Rattle.mj_types.specs.Parts.{number_at}
use Rattle.mj_factor.specs.Residuals.{residual_at}
use Rattle.mj_inverse.specs.Carriers.{jacobian_of}
use Rattle.mj_inverse.specs.Separated.{load, load_fault}
use Rattle.mj_inverse.proofs.ReadLaws.{greatest_more}
use Rattle.mj_inverse.proofs.loads.judge_loads.Goals as goal

pub loop-i-preserved : goal.loop-i-preserved
loop-i-preserved c =
    let a = c.args in
    let n = length a.accel.now in
    let s : ℕ → ℤ = load a.dual.now.m (jacobian_of n a.rows.now a.dual.now) (number_at a.free.now) (number_at a.x.now) in
    let inv = c.loop-i.invariant in
    let did = c.in_ok-far.ensures in
    let top : c.max-greatest.result ≡ max c.loop-i.greatest c.in_ok-far.far = search rules in
    record {
      so_far = top ∙ ap₂ (λ (x y : ℕ). max x y) inv.so_far did.value ∙ sym (greatest_more c.loop-i.i (residual_at n (mass_at n a.mass.now.m) (number_at a.accel.now) s));
      small = omega (arith, top, inv.small, did.small);
      passed = pass_more c.loop-i.i (load_fault s) inv.passed did.first;
    }

pub returns-in_err-far-clause-first : goal.returns-in_err-far-clause-first
returns-in_err-far-clause-first c =
    let a = c.args in
    let n = length a.accel.now in
    let s : ℕ → ℤ = load a.dual.now.m (jacobian_of n a.rows.now a.dual.now) (number_at a.free.now) (number_at a.x.now) in
    let r = err_from_is_err_and c.from_residual.result c.from_residual.ensures.1 in
    rw (r.1, r.2) (stop_here c.loop-i.i n (load_fault s) _ (omega arith) c.loop-i.invariant.passed c.in_err-far.ensures.first)
