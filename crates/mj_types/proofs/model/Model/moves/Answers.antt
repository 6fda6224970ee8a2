use Rattle.std.proofs.Common.{◌∙◌, ap, sym}
use Rattle.mj_tree.specs.Tree.{at_or_above}
use Rattle.mj_types.specs.declared.parts.Dof.{Dof}
use Rattle.mj_types.specs.Parts.{no_dof, parent_of}
use Rattle.mj_types.proofs.model.Model.moves.Goals as goal

pub returns : goal.returns
returns c = c.is_at_or_above.ensures ∙ ap (λ (x : Dof). at_or_above (parent_of c.args.self.now.bodies) x.body c.args.body) (sym (c.at.ensures no_dof))
