use Rattle.std.proofs.Common.{◌≡◌, ◌^◌, pos, sym, arith}
use Rattle.std.proofs.lemmas.Int.{ints}
use Rattle.mj_factor.proofs.FactorLaws.{none_of}
use Rattle.mj_factor.proofs.numbers.over_root.Goals as goal

pub returns-then-y-eq0 : goal.returns-then-y-eq0
returns-then-y-eq0 c =
    let none : c.args.y.now.mid ≡ pos 0 = omega (arith, ints, c.if-y-eq0.true) in
    sym (none_of c.args.y.now.mid (pos (2 ^ 24)) c.args.root.now.mid none)
