use Rattle.std.proofs.Common.{ℕ, ◌≡◌, ◌+◌, ◌-◌, ◌<◌, ◌≤◌, ◌^◌, refl, subst, unsigned_abs, ap, sym, ◌∙◌, arith, inl, inr, set}
use Rattle.std.proofs.lemmas.Bool.{cases_eq}
use Rattle.std.proofs.lemmas.Result.{err_from_is_err_and}
use Rattle.fx_whole.proofs.FirstLaws.{stop_here, pass_more, pass_all}
use Rattle.mj_types.specs.Forests.{above_in}
use Rattle.mj_types.specs.Parts.{number_at}
use Rattle.mj_factor.specs.Solves.{back, half, reduced, reduced_fault}
use Rattle.mj_factor.specs.Stored.{entry}
use Rattle.mj_factor.proofs.NumberLaws.{number_at_same, number_at_other}
use Rattle.mj_factor.proofs.BackLaws.{IsBackTo, back_begins, back_here, back_more, sums_small}
use Rattle.mj_factor.proofs.solving.half_solve_by.Goals as goal

pub loop-s-init : goal.loop-s-init
loop-s-init c =
    let m = c.args.model.now in
    let f = c.args.factor.now in
    let x = number_at c.args.row.now in
    let e : m.nv ≡ m.nv - 0 = omega arith in
    record {
      far = subst (λ (p : ℕ). IsBackTo m f x p c.no_sums-sums.result) e (back_begins m f c.requires.factor x c.no_sums-sums.result c.no_sums-sums.ensures.none);
      numbers = λ k h p. absurd (omega arith);
      small = λ k h p. absurd (omega arith);
      passed = refl;
    }

pub half_number-requires-clause-sums : goal.half_number-requires-clause-sums
half_number-requires-clause-sums c = λ i h.
    let m = c.args.model.now in
    let e : m.nv - c.loop-s.s ≡ m.nv - 1 - c.loop-s.s + 1 = omega arith in
    sums_small m c.args.factor.now c.requires.factor (number_at c.args.row.now) (m.nv - 1 - c.loop-s.s) (omega arith) c.loop-s.sums
    (subst (λ (p : ℕ). IsBackTo m c.args.factor.now (number_at c.args.row.now) p c.loop-s.sums) e c.loop-s.invariant.far) i

pub returns-in_err-g-clause-first : goal.returns-in_err-g-clause-first
returns-in_err-g-clause-first c =
    let m = c.args.model.now in
    let f = c.args.factor.now in
    let x = number_at c.args.row.now in
    let l = entry (above_in m) f.l in
    let d = number_at f.d in
    let k : ℕ = m.nv - 1 - c.loop-s.s in
    let in_model : k < m.nv = omega arith in
    let e : m.nv - c.loop-s.s ≡ k + 1 = omega arith in
    let far = subst (λ (p : ℕ). IsBackTo m f x p c.loop-s.sums) e c.loop-s.invariant.far in
    let value = back_here m f c.requires.factor x k in_model c.loop-s.sums far in
    let r = err_from_is_err_and c.from_residual.result c.from_residual.ensures.1 in
    rw (r.1, r.2)
    (stop_here c.loop-s.s m.nv (λ (s : ℕ). reduced_fault (m.nv - 1 - s) (back m.nv l x (m.nv - 1 - s)) (half m.nv l d x (m.nv - 1 - s))) _ (omega arith) c.loop-s.invariant.passed
    (c.in_err-g.ensures.first ∙ ap (λ y. reduced_fault k y (reduced y (d k))) value))

pub loop-s-preserved : goal.loop-s-preserved
loop-s-preserved c =
    let m = c.args.model.now in
    let f = c.args.factor.now in
    let x = number_at c.args.row.now in
    let l = entry (above_in m) f.l in
    let d = number_at f.d in
    let k : ℕ = m.nv - 1 - c.loop-s.s in
    let in_model : k < m.nv = omega arith in
    let e : m.nv - c.loop-s.s ≡ k + 1 = omega arith in
    let e' : k ≡ m.nv - (c.loop-s.s + 1) = omega arith in
    let far = subst (λ (p : ℕ). IsBackTo m f x p c.loop-s.sums) e c.loop-s.invariant.far in
    let value = back_here m f c.requires.factor x k in_model c.loop-s.sums far in
    let here = number_at_same c.loop-s.out k c.in_ok-g.g (omega (arith, c.loop-s.auto.out, c.requires.out)) in
    record {
      far = subst (λ (p : ℕ). IsBackTo m f x p c.half_number.new.sums) e'
          (back_more m f c.requires.factor x k in_model c.loop-s.sums far _ refl c.in_ok-g.ensures.back c.half_number.new.sums c.in_ok-g.ensures.sums);
      numbers = λ j h p. elim (cases_eq j k) [
        | inl q ↦ subst (λ (i : ℕ). number_at (set c.loop-s.out k c.in_ok-g.g) i ≡ half m.nv l d x i) (sym q)
            (here ∙ c.in_ok-g.ensures.value ∙ ap (λ y. reduced y (d k)) value)
        | inr q ↦ number_at_other c.loop-s.out k j c.in_ok-g.g q ∙ c.loop-s.invariant.numbers j (omega arith) p
      ];
      small = λ j h p. elim (cases_eq j k) [
        | inl q ↦ subst (λ (i : ℕ). unsigned_abs (number_at (set c.loop-s.out k c.in_ok-g.g) i) ≤ 2 ^ 44) (sym q) (omega (arith, ap unsigned_abs here, c.in_ok-g.ensures.within))
        | inr q ↦ omega (arith, ap unsigned_abs (number_at_other c.loop-s.out k j c.in_ok-g.g q), c.loop-s.invariant.small j (omega arith) p)
      ];
      passed = pass_more c.loop-s.s (λ (s : ℕ). reduced_fault (m.nv - 1 - s) (back m.nv l x (m.nv - 1 - s)) (half m.nv l d x (m.nv - 1 - s))) c.loop-s.invariant.passed
          (c.in_ok-g.ensures.first ∙ ap (λ y. reduced_fault k y (reduced y (d k))) value);
    }

pub returns-clause-first : goal.returns-clause-first
returns-clause-first c =
    let m = c.args.model.now in
    let x = number_at c.args.row.now in
    let l = entry (above_in m) c.args.factor.now.l in
    let d = number_at c.args.factor.now.d in
    pass_all c.loop-s.s m.nv (λ (s : ℕ). reduced_fault (m.nv - 1 - s) (back m.nv l x (m.nv - 1 - s)) (half m.nv l d x (m.nv - 1 - s))) (omega arith) c.loop-s.invariant.passed
