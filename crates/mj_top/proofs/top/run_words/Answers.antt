use Rattle.mj_top.proofs.top.run_words.Goals as goal

pub returns : goal.returns
returns g c = c.run_gated.ensures
