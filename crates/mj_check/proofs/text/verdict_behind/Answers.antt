use Rattle.mj_check.proofs.text.verdict_behind.Goals as goal

pub returns : goal.returns
returns c = (c.judge_rest.result, c.judge_rest.ensures.rest, c.verdict_of.ensures)
