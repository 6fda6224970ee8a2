use Rattle.std.proofs.Common.{◌≡◌, ℕ, ◌-◌, ◌<◌, ℤ, IfOk, length, ap, ◌∙◌, subst}
use Rattle.mj_types.specs.Duals.{entry_at}
use Rattle.mj_types.specs.Parts.{number_at}
use Rattle.mj_inverse.specs.Carriers.{motion_of, row_problem, row_of}
use Rattle.mj_inverse.proofs.ReadLaws.{separate_same, row_fault_same}
use Rattle.mj_inverse.proofs.filling.separate_at.Goals as goal

pub returns-clause-value : goal.returns-clause-value
returns-clause-value c =
    let g = c.args in
    let n = length g.accel.now in
    let t = c.held_row-row.ensures in
    let same = λ (i : ℕ) (p : i < n). c.jacobian_row.ensures.numbers i p ∙ ap (λ (q : ℕ). entry_at n g.rows.now.jac.list (q - 1) i) t.place in
    let y = motion_of g.smooth.now g.accel.now in
    let x = row_problem c.held_row-row.result (number_at c.jacobian_row.result.now) in
    let w = row_of n g.rows.now g.dual.now g.k in
    subst (λ (z : ℤ). IfOk c.separate.result (λ v. v.mid ≡ z)) (separate_same y x w same t.b t.r t.low t.high) c.separate.ensures.value

pub returns-clause-first : goal.returns-clause-first
returns-clause-first c =
    let g = c.args in
    let n = length g.accel.now in
    let t = c.held_row-row.ensures in
    let same = λ (i : ℕ) (p : i < n). c.jacobian_row.ensures.numbers i p ∙ ap (λ (q : ℕ). entry_at n g.rows.now.jac.list (q - 1) i) t.place in
    let y = motion_of g.smooth.now g.accel.now in
    let x = row_problem c.held_row-row.result (number_at c.jacobian_row.result.now) in
    let w = row_of n g.rows.now g.dual.now g.k in
    c.separate.ensures.first ∙ row_fault_same y x w same t.b t.r t.low t.high t.place
