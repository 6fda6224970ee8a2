use Rattle.std.proofs.Common.{ℕ, ℤ, ◌≡◌, IfOk, ap, ◌∙◌, subst}
use Rattle.fx_whole.proofs.FirstLaws.{first_ext}
use Rattle.fx_whole.proofs.SumLaws.{sum_to-ext}
use Rattle.mj_types.specs.Forests.{above_in}
use Rattle.mj_types.specs.Parts.{number_at}
use Rattle.mj_factor.specs.Stored.{entry}
use Rattle.mj_quadratic.specs.Forms.{product}
use Rattle.mj_ball.specs.Shifts.{with_diagonal, too_large}
use Rattle.mj_ball.proofs.PairLaws.{product_swap}
use Rattle.mj_ball.proofs.errors.products_of.Goals as goal

pub returns-else-j-i-clause-value : goal.returns-else-j-i-clause-value
returns-else-j-i-clause-value c =
    let n = c.args.model.now.nv in
    let d = number_at c.args.factor.now.d in
    let l = with_diagonal (entry (above_in c.args.model.now) c.args.factor.now.l) in
    let same = sum_to-ext n (product d l c.args.j c.args.i) (product d l c.args.i c.args.j) (λ r p. product_swap d l c.args.j c.args.i r) in
    subst (λ (x : ℤ). IfOk c.products-else-j-i.result (λ y. y.raw ≡ x)) same c.products-else-j-i.ensures.value

pub returns-else-j-i-clause-first : goal.returns-else-j-i-clause-first
returns-else-j-i-clause-first c =
    let n = c.args.model.now.nv in
    let d = number_at c.args.factor.now.d in
    let l = with_diagonal (entry (above_in c.args.model.now) c.args.factor.now.l) in
    c.products-else-j-i.ensures.first ∙ first_ext n (λ (r : ℕ). too_large (product d l c.args.j c.args.i r)) (λ (r : ℕ). too_large (product d l c.args.i c.args.j r)) (λ r p. ap too_large (product_swap d l c.args.j c.args.i r))
