use Rattle.mj_dual.proofs.PassingLaws.{passing-each, passing-below, passing-passes}
use Rattle.mj_dual.proofs.laws.passing_rows_are_found.Goals as goal

pub returns : goal.returns
returns c = record { each = passing-each; below = λ n k p. passing-below n p k; passes = λ n k p. passing-passes n p k }
