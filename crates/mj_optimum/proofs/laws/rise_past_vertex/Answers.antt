use Rattle.mj_optimum.proofs.ParabolaLaws.{rise_past_vertex}
use Rattle.mj_optimum.proofs.laws.rise_past_vertex.Goals as goal

pub returns : goal.returns
returns c = rise_past_vertex
