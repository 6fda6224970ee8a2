use Rattle.std.proofs.Common.{◌+◌, sym, subst}
use Rattle.fx_vec.specs.Sizes.{Within}
use Rattle.fx_vec.specs.Vectors.{minus}
use Rattle.fx_vec.specs.Views.{mids}
use Rattle.fx_vec.proofs.Bounds.{minus-within}
use Rattle.fx_vec.proofs.Same.{same3}
use Rattle.fx_vec.proofs.plain.minus.Goals as goal

pub returns-clause-linear : goal.returns-clause-linear
returns-clause-linear g c m n h k =
    let a = mids c.args.a.now in
    let b = mids c.args.b.now in
    let e = same3 (record { x = c.subtract.result.mid; y = c.subtract-2.result.mid; z = c.subtract-3.result.mid }) (minus a b) c.subtract.ensures.value c.subtract-2.ensures.value c.subtract-3.ensures.value in
    subst (λ v. Within v (m + n)) (sym e) (minus-within a b m n h k)
