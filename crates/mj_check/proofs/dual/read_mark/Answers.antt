use Rattle.mj_check.proofs.dual.read_mark.Goals as goal

pub returns-then-bounds : goal.returns-then-bounds
returns-then-bounds c = rw c.if-bounds.true c.word.ensures
