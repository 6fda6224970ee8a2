use Rattle.mj_check.proofs.dual.read_bounds_again.Goals as goal

pub returns-then-bounds : goal.returns-then-bounds
returns-then-bounds c = rw c.if-bounds.true c.read_both_again.ensures
