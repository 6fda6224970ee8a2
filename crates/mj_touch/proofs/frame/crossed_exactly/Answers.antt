use Rattle.std.proofs.Common.{◌≡◌, ℤ, ap, ◌∙◌, arith}
use Rattle.std.proofs.lemmas.Int.{ints}
use Rattle.fx_vec.specs.Vectors.{Triple, cross, plus, no_vector}
use Rattle.fx_vec.specs.Views.{mids}
use Rattle.fx_vec.proofs.Same.{same3}
use Rattle.mj_touch.proofs.frame.crossed_exactly.Goals as goal

none_plus : (v : Triple ℤ) → plus no_vector v ≡ v
none_plus v = same3 (plus no_vector v) v (omega (arith, ints)) (omega (arith, ints)) (omega (arith, ints))

pub returns-clause-value : goal.returns-clause-value
returns-clause-value c =
    let v = cross (mids c.args.a.now) (mids c.args.b.now) in
    c.cross_into.ensures.mid ∙ ap (λ (s : Triple ℤ). plus s v) c.no_sums-total.ensures ∙ none_plus v
