use Rattle.std.proofs.Common.{◌∙◌, sym}
use Rattle.mj_tree.proofs.WritingLaws.{listed_push, listed_skip}
use Rattle.mj_types.specs.Forests.{above_in}
use Rattle.mj_types.proofs.factor.add_name.Goals as goal

pub returns-in_ok-push : goal.returns-in_ok-push
returns-in_ok-push c =
    rw c.in_ok-push.ensures
    (listed_push (above_in c.args.model.now) c.args.k c.args.i c.args.names.now.items c.requires.before c.requires.listed (sym c.is_above.ensures ∙ c.if-is_above.true))

pub returns-else-is_above : goal.returns-else-is_above
returns-else-is_above c =
    listed_skip (above_in c.args.model.now) c.args.k c.args.i c.args.names.now.items c.requires.listed (sym c.is_above.ensures ∙ c.if-is_above.false)
