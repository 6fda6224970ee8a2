use Rattle.std.proofs.Common.{ℕ, ◌≡◌, max, ap, ap₂, sym, ◌∙◌, arith, rules}
use Rattle.std.proofs.lemmas.Result.{err_from_is_err_and}
use Rattle.fx_whole.proofs.FirstLaws.{stop_here, pass_more, pass_all}
use Rattle.mj_types.specs.Forests.{above_in}
use Rattle.mj_types.specs.Parts.{number_at}
use Rattle.mj_factor.specs.Residuals.{greatest_to}
use Rattle.mj_factor.specs.Stored.{entry, shifted_mass}
use Rattle.mj_quadratic.specs.Forms as forms
use Rattle.mj_ball.specs.Shifts.{with_diagonal, error_at, row_fault}
use Rattle.mj_factor.proofs.ReadLaws.{greatest-more}
use Rattle.mj_ball.proofs.errors.largest_row.Goals as goal

pub loop-i-preserved : goal.loop-i-preserved
loop-i-preserved c =
    let m = c.args.model.now in
    let f = c.args.factor.now in
    let x = shifted_mass c.args.shift.now.mid m c.args.mass.now in
    let l = with_diagonal (entry (above_in m) f.l) in
    let inv = c.loop-i.invariant in
    let did = c.in_ok-size.ensures in
    let top : c.max-greatest.result ≡ max c.loop-i.greatest c.in_ok-size.size = search rules in
    record {
      so_far = top ∙ ap₂ (λ (a b : ℕ). max a b) inv.so_far did.value ∙ sym (greatest-more c.loop-i.i (forms.row_size m.nv (error_at m.nv x (number_at f.d) l)));
      small = omega (arith, top, inv.small, did.small);
      passed = pass_more c.loop-i.i (row_fault m.nv x (number_at f.d) l) inv.passed did.first;
    }

pub returns-in_err-size-clause-first : goal.returns-in_err-size-clause-first
returns-in_err-size-clause-first c =
    let m = c.args.model.now in
    let f = c.args.factor.now in
    let r = err_from_is_err_and c.from_residual.result c.from_residual.ensures.1 in
    rw (r.1, r.2)
    (stop_here c.loop-i.i m.nv (row_fault m.nv (shifted_mass c.args.shift.now.mid m c.args.mass.now) (number_at f.d) (with_diagonal (entry (above_in m) f.l))) _ (omega arith) c.loop-i.invariant.passed c.in_err-size.ensures.first)

pub returns-clause-value : goal.returns-clause-value
returns-clause-value c =
    let m = c.args.model.now in
    let f = c.args.factor.now in
    let x = shifted_mass c.args.shift.now.mid m c.args.mass.now in
    let l = with_diagonal (entry (above_in m) f.l) in
    let all : c.loop-i.i ≡ m.nv = omega arith in
    c.loop-i.invariant.so_far ∙ ap (λ (n : ℕ). greatest_to n (forms.row_size m.nv (error_at m.nv x (number_at f.d) l))) all

pub returns-clause-first : goal.returns-clause-first
returns-clause-first c =
    let m = c.args.model.now in
    let f = c.args.factor.now in
    pass_all c.loop-i.i m.nv (row_fault m.nv (shifted_mass c.args.shift.now.mid m c.args.mass.now) (number_at f.d) (with_diagonal (entry (above_in m) f.l))) (omega arith) c.loop-i.invariant.passed
