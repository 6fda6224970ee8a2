use Rattle.std.proofs.Common.{◌≡◌, pos, arith}
use Rattle.std.proofs.lemmas.Int.{ints}
use Rattle.mj_types.specs.Forests.{above_in}
use Rattle.mj_factor.specs.Stored.{entry}
use Rattle.mj_factor.proofs.FactorLaws.{zero_right}
use Rattle.mj_factor.proofs.passes.scatter.Goals as goal

pub returns-else-y-ne0 : goal.returns-else-y-ne0
returns-else-y-ne0 c = λ i.
    let none : c.args.y.now.mid ≡ pos 0 = omega (arith, ints, c.if-y-ne0.false) in
    omega (arith, ints, zero_right (entry (above_in c.args.model.now) c.args.factor.now.l c.args.k i) c.args.y.now.mid none)
