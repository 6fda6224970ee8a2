use Rattle.std.proofs.Common.{ℕ, ◌≡◌, ◌≤◌, ◌^◌, ◌*ℤ◌, pos, set, subst, unsigned_abs, ap, ap₂, sym, ◌∙◌, arith, inl, inr}
use Rattle.std.proofs.lemmas.Bool.{cases_eq}
use Rattle.std.proofs.lemmas.Result.{err_from_is_err_and}
use Rattle.fx_whole.specs.First.{or_first}
use Rattle.fx_whole.specs.Nearest.{nearest}
use Rattle.fx_whole.proofs.FirstLaws.{stop_here, pass_more, pass_all}
use Rattle.mj_types.specs.Forests.{above_in}
use Rattle.mj_types.specs.Parts.{number_at}
use Rattle.mj_factor.specs.Solves.{forth, over_pivots, accel_fault}
use Rattle.mj_factor.specs.Stored.{entry}
use Rattle.mj_factor.proofs.NumberLaws.{number_at_same, number_at_other}
use Rattle.mj_factor.proofs.SolveLaws.{forth_at}
use Rattle.mj_factor.proofs.passes.go_forth.Goals as goal

pub loop-i-preserved : goal.loop-i-preserved
loop-i-preserved c =
    let l = entry (above_in c.args.model.now) c.args.factor.now.l in
    let d = number_at c.args.factor.now.d in
    let z = over_pivots d (number_at c.args.a.now) in
    let i = c.loop-i.i in
    let inv = c.loop-i.invariant in
    let same = ap (λ y. nearest (y *ℤ pos (2 ^ 40)) (d i)) (inv.rest i (omega arith)) in
    let value = forth_at l z (over_pivots d (number_at c.loop-i.a)) (number_at c.loop-i.a) i same inv.numbers in
    let here = number_at_same c.loop-i.a i c.in_ok-x.x (omega (arith, c.loop-i.auto.a, c.requires.width)) in
    record {
      numbers = λ k h. elim (cases_eq k i) [
        | inl q ↦ subst (λ (j : ℕ). number_at (set c.loop-i.a i c.in_ok-x.x) j ≡ forth l z j) (sym q) (here ∙ c.in_ok-x.ensures.value ∙ value)
        | inr q ↦ number_at_other c.loop-i.a i k c.in_ok-x.x q ∙ inv.numbers k (omega arith)
      ];
      small = λ k h. elim (cases_eq k i) [
        | inl q ↦ subst (λ (j : ℕ). unsigned_abs (number_at (set c.loop-i.a i c.in_ok-x.x) j) ≤ 2 ^ 56) (sym q) (omega (arith, ap unsigned_abs here, c.in_ok-x.ensures.within))
        | inr q ↦ omega (arith, ap unsigned_abs (number_at_other c.loop-i.a i k c.in_ok-x.x q), inv.small k (omega arith))
      ];
      rest = λ k h. number_at_other c.loop-i.a i k c.in_ok-x.x (λ e. omega (arith, e)) ∙ inv.rest k (omega arith);
      passed = pass_more i (λ (k : ℕ). or_first (accel_fault k (z k)) (accel_fault k (forth l z k))) inv.passed
          (c.in_ok-x.ensures.first ∙ ap₂ (λ x y. or_first (accel_fault i x) (accel_fault i y)) same value);
    }

pub returns-in_err-x-clause-first : goal.returns-in_err-x-clause-first
returns-in_err-x-clause-first c =
    let l = entry (above_in c.args.model.now) c.args.factor.now.l in
    let d = number_at c.args.factor.now.d in
    let z = over_pivots d (number_at c.args.a.now) in
    let i = c.loop-i.i in
    let inv = c.loop-i.invariant in
    let same = ap (λ y. nearest (y *ℤ pos (2 ^ 40)) (d i)) (inv.rest i (omega arith)) in
    let value = forth_at l z (over_pivots d (number_at c.loop-i.a)) (number_at c.loop-i.a) i same inv.numbers in
    let r = err_from_is_err_and c.from_residual.result c.from_residual.ensures.1 in
    rw (r.1, r.2)
    (stop_here i c.args.model.now.nv (λ (k : ℕ). or_first (accel_fault k (z k)) (accel_fault k (forth l z k))) _ (omega arith) inv.passed
    (c.in_err-x.ensures.first ∙ ap₂ (λ x y. or_first (accel_fault i x) (accel_fault i y)) same value))

pub returns-clause-first : goal.returns-clause-first
returns-clause-first c =
    let l = entry (above_in c.args.model.now) c.args.factor.now.l in
    let z = over_pivots (number_at c.args.factor.now.d) (number_at c.args.a.now) in
    pass_all c.loop-i.i c.args.model.now.nv (λ (k : ℕ). or_first (accel_fault k (z k)) (accel_fault k (forth l z k))) (omega arith) c.loop-i.invariant.passed
