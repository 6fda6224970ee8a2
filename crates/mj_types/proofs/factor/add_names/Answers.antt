use Rattle.std.proofs.Common.{◌≡◌, ℕ, subst, arith}
use Rattle.mj_tree.specs.Listing.{IsListedTo}
use Rattle.mj_tree.proofs.WritingLaws.{listed_row}
use Rattle.mj_types.specs.Forests.{above_in}
use Rattle.mj_types.proofs.factor.add_names.Goals as goal

pub returns : goal.returns
returns c =
    let last : c.loop-i.i ≡ c.args.k = omega arith in
    let whole = subst (λ (n : ℕ). IsListedTo (above_in c.args.model.now) c.args.k n c.loop-i.names.items) last c.loop-i.invariant in
    listed_row (above_in c.args.model.now) c.args.k c.loop-i.names.items whole
