use Rattle.std.proofs.Common.{◌≡◌, ◌==◌, false, arith}
use Rattle.std.proofs.lemmas.Bool.Decides.{nat_tests}
use Rattle.mj_read.proofs.joints.only_hinge_keys.Goals as goal

pub returns-then-format-eq2 : goal.returns-then-format-eq2
returns-then-format-eq2 c = rw c.if-format-eq2.true c.only.ensures

pub returns-else-format-eq2 : goal.returns-else-format-eq2
returns-else-format-eq2 c =
    let other : (c.args.format == 2) ≡ false = grind (arith, nat_tests) in
    rw other c.only-else-format-eq2.ensures
