use Rattle.mj_tree.specs.Listing.{IsListedTo}
use Rattle.mj_types.specs.Forests.{above_in}
use Rattle.mj_types.proofs.factor.add_names.Given as goal

abbrev pub invariant-loop-i : goal.invariant-loop-i
invariant-loop-i l = IsListedTo (above_in l.model) l.k l.i l.names.items
