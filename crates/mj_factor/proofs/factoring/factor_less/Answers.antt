use Rattle.std.proofs.Common.{ℕ, ◌≡◌, ◌+◌, ◌-◌, refl, subst, arith}
use Rattle.std.proofs.lemmas.Result.{err_from_is_err_and}
use Rattle.fx_whole.proofs.FirstLaws.{stop_here, pass_more}
use Rattle.mj_factor.specs.Factors.{row_fault}
use Rattle.mj_factor.specs.Stored.{shifted_mass, HasRows}
use Rattle.mj_factor.proofs.MakingLaws.{rows_begin, is_factor, works_are, lowers_are}
use Rattle.mj_factor.proofs.factoring.factor_less.Goals as goal

pub loop-s-init : goal.loop-s-init
loop-s-init c =
    let m = c.args.model.now in
    let f = c.args.out.now in
    let e : m.nv ≡ m.nv - 0 = omega arith in
    record {
      room = c.requires.room;
      rows = subst (λ (k : ℕ). HasRows c.args.shift.now.mid m c.args.mass.now k f) e (rows_begin c.args.shift.now.mid m c.args.mass.now f c.requires.room);
      passed = refl;
    }

pub loop-s-preserved : goal.loop-s-preserved
loop-s-preserved c =
    let m = c.args.model.now in
    let x = c.args.mass.now in
    let e : m.nv - 1 - c.loop-s.s ≡ m.nv - (c.loop-s.s + 1) = omega arith in
    record {
      room = c.factor_row.ensures.room;
      rows = subst (λ (k : ℕ). HasRows c.args.shift.now.mid m x k c.factor_row.new.out) e c.in_ok-factor_row.ensures.rows;
      passed = pass_more c.loop-s.s (λ (s : ℕ). row_fault m.nv (shifted_mass c.args.shift.now.mid m x) (m.nv - 1 - s)) c.loop-s.invariant.passed c.in_ok-factor_row.ensures.first;
    }

pub returns-in_err-factor_row-clause-first : goal.returns-in_err-factor_row-clause-first
returns-in_err-factor_row-clause-first c =
    let m = c.args.model.now in
    let x = c.args.mass.now in
    let r = err_from_is_err_and c.from_residual.result c.from_residual.ensures.1 in
    rw (r.1, r.2)
    (stop_here c.loop-s.s m.nv (λ (s : ℕ). row_fault m.nv (shifted_mass c.args.shift.now.mid m x) (m.nv - 1 - s)) _ (omega arith) c.loop-s.invariant.passed
    c.in_err-factor_row.ensures.first)

pub returns-clause-ranges : goal.returns-clause-ranges
returns-clause-ranges c =
    let m = c.args.model.now in
    let e : m.nv - c.loop-s.s ≡ 0 = omega arith in
    is_factor c.args.shift.now.mid m c.args.mass.now c.requires.mass c.loop-s.out c.loop-s.invariant.room (subst (λ (k : ℕ). HasRows c.args.shift.now.mid m c.args.mass.now k c.loop-s.out) e c.loop-s.invariant.rows)

pub returns-clause-works : goal.returns-clause-works
returns-clause-works c =
    let m = c.args.model.now in
    let e : m.nv - c.loop-s.s ≡ 0 = omega arith in
    works_are c.args.shift.now.mid m c.args.mass.now c.requires.mass c.loop-s.out c.loop-s.invariant.room (subst (λ (k : ℕ). HasRows c.args.shift.now.mid m c.args.mass.now k c.loop-s.out) e c.loop-s.invariant.rows)

pub returns-clause-lowers : goal.returns-clause-lowers
returns-clause-lowers c =
    let m = c.args.model.now in
    let e : m.nv - c.loop-s.s ≡ 0 = omega arith in
    lowers_are c.args.shift.now.mid m c.args.mass.now c.requires.mass c.loop-s.out c.loop-s.invariant.room (subst (λ (k : ℕ). HasRows c.args.shift.now.mid m c.args.mass.now k c.loop-s.out) e c.loop-s.invariant.rows)
