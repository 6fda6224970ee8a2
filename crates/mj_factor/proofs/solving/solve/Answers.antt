use Rattle.std.proofs.Common.{ℕ, ℤ, ap, ◌∙◌}
use Rattle.std.proofs.lemmas.Result.{err_from_is_err_and}
use Rattle.fx_whole.specs.First.{or_first, first_to}
use Rattle.fx_whole.proofs.FirstLaws.{pass_first}
use Rattle.mj_types.specs.Forests.{above_in}
use Rattle.mj_types.specs.Parts.{number_at}
use Rattle.mj_factor.specs.Solves.{back, forth, over_pivots, accel_fault}
use Rattle.mj_factor.specs.Stored.{entry}
use Rattle.mj_factor.proofs.NumberLaws.{number_at_is}
use Rattle.mj_factor.proofs.SolveLaws.{back_past}
use Rattle.mj_factor.proofs.solving.solve.Goals as goal

pub returns-in_err-go_forth-clause-first : goal.returns-in_err-go_forth-clause-first
returns-in_err-go_forth-clause-first c =
    let n = c.args.model.now.nv in
    let l = entry (above_in c.args.model.now) c.args.factor.now.l in
    let d = number_at c.args.factor.now.d in
    let y = back n l (number_at c.args.rhs.now) in
    let same = number_at_is c.go_back.new.out n y (c.go_back.auto.out ∙ c.requires.out) c.in_ok-go_back.ensures.numbers (back_past n l (number_at c.args.rhs.now)) in
    let r = err_from_is_err_and c.from_residual-in_err-go_forth.result c.from_residual-in_err-go_forth.ensures.1 in
    rw (r.1, r.2)
    (pass_first _ _ _ c.in_ok-go_back.ensures.first
    (c.in_err-go_forth.ensures.first
    ∙ ap (λ (a : ℕ → ℤ). first_to n (λ (i : ℕ). or_first (accel_fault i (over_pivots d a i)) (accel_fault i (forth l (over_pivots d a) i)))) same))

pub returns-clause-value : goal.returns-clause-value
returns-clause-value c = λ i h.
    let n = c.args.model.now.nv in
    let l = entry (above_in c.args.model.now) c.args.factor.now.l in
    let d = number_at c.args.factor.now.d in
    let y = back n l (number_at c.args.rhs.now) in
    let same = number_at_is c.go_back.new.out n y (c.go_back.auto.out ∙ c.requires.out) c.in_ok-go_back.ensures.numbers (back_past n l (number_at c.args.rhs.now)) in
    c.in_ok-go_forth.ensures.numbers i h ∙ ap (λ (a : ℕ → ℤ). forth l (over_pivots d a) i) same

pub returns-clause-first : goal.returns-clause-first
returns-clause-first c =
    let n = c.args.model.now.nv in
    let l = entry (above_in c.args.model.now) c.args.factor.now.l in
    let d = number_at c.args.factor.now.d in
    let y = back n l (number_at c.args.rhs.now) in
    let same = number_at_is c.go_back.new.out n y (c.go_back.auto.out ∙ c.requires.out) c.in_ok-go_back.ensures.numbers (back_past n l (number_at c.args.rhs.now)) in
    pass_first _ _ _ c.in_ok-go_back.ensures.first
    (c.in_ok-go_forth.ensures.first
    ∙ ap (λ (a : ℕ → ℤ). first_to n (λ (i : ℕ). or_first (accel_fault i (over_pivots d a i)) (accel_fault i (forth l (over_pivots d a) i)))) same)
