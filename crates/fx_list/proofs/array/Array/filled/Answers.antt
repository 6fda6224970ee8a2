use Rattle.std.proofs.Common.{rules}
use Rattle.std.proofs.lemmas.List.{replicate_more}
use Rattle.fx_list.proofs.array.Array.filled.Goals as goal

pub loop-i-preserved : goal.loop-i-preserved
loop-i-preserved g c = search (rules, replicate_more)
