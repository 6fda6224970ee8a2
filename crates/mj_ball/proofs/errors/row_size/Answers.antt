use Rattle.std.proofs.Common.{ℕ, ◌≡◌, ◌+◌, ◌*◌, ◌^◌, ◌≤◌, unsigned_abs, ap, ap₂, sym, ◌∙◌, arith, rules, mul-le-mul_right}
use Rattle.std.proofs.lemmas.Result.{err_from_is_err_and}
use Rattle.fx_whole.specs.Sums.{sum_ℕ_to}
use Rattle.fx_whole.proofs.FirstLaws.{stop_here, pass_more, pass_all}
use Rattle.fx_whole.proofs.SumLaws.{sum_ℕ_to-more}
use Rattle.mj_types.specs.Forests.{above_in}
use Rattle.mj_types.specs.Parts.{number_at}
use Rattle.mj_factor.specs.Stored.{entry, shifted_mass}
use Rattle.mj_factor.proofs.PlaceLaws.{few_dofs}
use Rattle.mj_ball.specs.Shifts.{with_diagonal, error_at, error_fault}
use Rattle.mj_ball.proofs.errors.row_size.Goals as goal

few : (r n b : ℕ) → r ≤ n → n ≤ 64 → r * b ≤ 64 * b
few r n b h k = mul-le-mul_right b (omega arith)

pub overflow_add-size : goal.overflow_add-size
overflow_add-size c =
    let size : c.unsigned_abs-size.result ≡ unsigned_abs c.in_ok-left.left.raw = search rules in
    omega (arith, size, c.in_ok-left.ensures.small, c.loop-j.invariant.small, few c.loop-j.j c.args.model.now.nv (2 ^ 116) (omega arith) (few_dofs c.args.model.now))

pub loop-j-preserved : goal.loop-j-preserved
loop-j-preserved c =
    let m = c.args.model.now in
    let f = c.args.factor.now in
    let x = shifted_mass c.args.shift.now.mid m c.args.mass.now in
    let l = with_diagonal (entry (above_in m) f.l) in
    let inv = c.loop-j.invariant in
    let did = c.in_ok-left.ensures in
    let size : c.unsigned_abs-size.result ≡ unsigned_abs c.in_ok-left.left.raw = search rules in
    record {
      so_far = ap₂ (λ (a b : ℕ). a + b) inv.so_far (size ∙ ap unsigned_abs did.value)
          ∙ sym (sum_ℕ_to-more c.loop-j.j (λ (j : ℕ). unsigned_abs (error_at m.nv x (number_at f.d) l c.args.i j)));
      small = omega (arith, size, did.small, inv.small);
      passed = pass_more c.loop-j.j (error_fault m.nv x (number_at f.d) l c.args.i) inv.passed did.first;
    }

pub returns-in_err-left-clause-first : goal.returns-in_err-left-clause-first
returns-in_err-left-clause-first c =
    let m = c.args.model.now in
    let f = c.args.factor.now in
    let r = err_from_is_err_and c.from_residual.result c.from_residual.ensures.1 in
    rw (r.1, r.2)
    (stop_here c.loop-j.j m.nv (error_fault m.nv (shifted_mass c.args.shift.now.mid m c.args.mass.now) (number_at f.d) (with_diagonal (entry (above_in m) f.l)) c.args.i) _ (omega arith) c.loop-j.invariant.passed c.in_err-left.ensures.first)

pub returns-clause-value : goal.returns-clause-value
returns-clause-value c =
    let m = c.args.model.now in
    let f = c.args.factor.now in
    let x = shifted_mass c.args.shift.now.mid m c.args.mass.now in
    let l = with_diagonal (entry (above_in m) f.l) in
    let all : c.loop-j.j ≡ m.nv = omega arith in
    c.loop-j.invariant.so_far ∙ ap (λ (n : ℕ). sum_ℕ_to n (λ (j : ℕ). unsigned_abs (error_at m.nv x (number_at f.d) l c.args.i j))) all

pub returns-clause-small : goal.returns-clause-small
returns-clause-small c = omega (arith, c.loop-j.invariant.small, few c.loop-j.j c.args.model.now.nv (2 ^ 116) (omega arith) (few_dofs c.args.model.now))

pub returns-clause-first : goal.returns-clause-first
returns-clause-first c =
    let m = c.args.model.now in
    let f = c.args.factor.now in
    pass_all c.loop-j.j m.nv (error_fault m.nv (shifted_mass c.args.shift.now.mid m c.args.mass.now) (number_at f.d) (with_diagonal (entry (above_in m) f.l)) c.args.i) (omega arith) c.loop-j.invariant.passed
