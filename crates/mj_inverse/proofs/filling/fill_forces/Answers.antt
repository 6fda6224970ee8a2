use Rattle.std.proofs.Common.{◌≡◌, ℕ, ◌^◌, ◌≤◌, ℤ, ◌-ℤ◌, max, pos, unsigned_abs, length, Option, sym, ap, ap₂, ◌∙◌, subst, arith, rules, inl, inr}
use Rattle.std.proofs.lemmas.Bool.{cases_eq}
use Rattle.std.proofs.lemmas.Result.{err_from_is_err_and}
use Rattle.fx_whole.proofs.FirstLaws.{stop_here, pass_more}
use Rattle.mj_types.specs.declared.range.OutOfRange.{OutOfRange}
use Rattle.mj_types.specs.Parts.{number_at, plain}
use Rattle.mj_types.specs.Problems.{forces}
use Rattle.mj_inverse.specs.Carriers.{motion_of, row_of}
use Rattle.mj_inverse.specs.Rows.{separate, row_fault}
use Rattle.mj_inverse.proofs.ReadLaws.{greatest_more}
use Rattle.mj_inverse.proofs.filling.fill_forces.Goals as goal

pub loop-k-preserved : goal.loop-k-preserved
loop-k-preserved c =
    let a = c.args in
    let k = c.loop-k.k in
    let inv = c.loop-k.invariant in
    let did = c.in_ok-x.ensures in
    let force : ℕ → ℤ = λ j. separate (motion_of a.smooth.now a.accel.now) (row_of (length a.accel.now) a.rows.now a.dual.now j) in
    let fault : ℕ → Option OutOfRange = λ j. row_fault (motion_of a.smooth.now a.accel.now) (row_of (length a.accel.now) a.rows.now a.dual.now j) in
    let here : number_at c.put.new.self k ≡ c.in_ok-x.x.mid = ap (λ y. y.mid) (c.put.ensures.same (plain (pos 0))) in
    let step : c.at-f.result.mid ≡ forces a.step.now k = ap (λ y. y.mid) (sym (c.at-f.ensures (plain (pos 0)))) in
    let way : c.away.result ≡ unsigned_abs (force k -ℤ forces a.step.now k) = c.away.ensures.value ∙ ap₂ (λ x y. unsigned_abs (x -ℤ y)) did.value step in
    let top : c.max-gap.result ≡ max c.loop-k.gap c.away.result = search rules in
    record {
      room = c.put.ensures.len ∙ inv.room;
      values = λ j h. elim (cases_eq j k) [
        | inl e ↦ subst (λ (i : ℕ). number_at c.put.new.self i ≡ force i) (sym e) (here ∙ did.value)
        | inr e ↦ ap (λ y. y.mid) (c.put.ensures.others (plain (pos 0)) j e) ∙ inv.values j (omega arith)
      ];
      small = λ j h. elim (cases_eq j k) [
        | inl e ↦ subst (λ (i : ℕ). unsigned_abs (number_at c.put.new.self i) ≤ 2 ^ 50) (sym e) (omega (arith, ap unsigned_abs here, did.small))
        | inr e ↦ omega (arith, ap (λ y. unsigned_abs y.mid) (c.put.ensures.others (plain (pos 0)) j e), inv.small j (omega arith))
      ];
      gap = top ∙ ap₂ (λ (x y : ℕ). max x y) inv.gap way ∙ sym (greatest_more k (λ (j : ℕ). unsigned_abs (force j -ℤ forces a.step.now j)));
      near = omega (arith, top, inv.near, c.away.ensures.small);
      passed = pass_more k fault inv.passed did.first;
    }

pub returns-in_err-x-clause-first : goal.returns-in_err-x-clause-first
returns-in_err-x-clause-first c =
    let a = c.args in
    let r = err_from_is_err_and c.from_residual.result c.from_residual.ensures.1 in
    let fault : ℕ → Option OutOfRange = λ j. row_fault (motion_of a.smooth.now a.accel.now) (row_of (length a.accel.now) a.rows.now a.dual.now j) in
    rw (r.1, r.2) (stop_here c.loop-k.k a.dual.now.m fault _ (omega arith) c.loop-k.invariant.passed c.in_err-x.ensures.first)
