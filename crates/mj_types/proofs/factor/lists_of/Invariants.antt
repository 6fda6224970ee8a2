use Rattle.mj_tree.specs.Listing.{AreEnds, IsListedTo}
use Rattle.mj_types.specs.Forests.{above_in}
use Rattle.mj_types.proofs.factor.lists_of.Given as goal

abbrev pub invariant-loop-k : goal.invariant-loop-k
invariant-loop-k l = AreEnds (above_in l.model) l.k l.lists.at.items × IsListedTo (above_in l.model) l.k 0 l.lists.names.items
