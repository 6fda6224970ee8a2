use Rattle.std.proofs.Common.{◌∙◌, ◌&&◌, ap, sym}
use Rattle.std.proofs.lemmas.Bool.{lt-ltb}
use Rattle.mj_tree.specs.Tree.{moves}
use Rattle.mj_types.specs.declared.parts.Dof.{Dof}
use Rattle.mj_types.specs.Parts.{no_dof, parent_of, body_of}
use Rattle.mj_types.proofs.model.Model.is_above.Goals as goal

pub returns-then-i-k : goal.returns-then-i-k
returns-then-i-k c =
    c.moves.ensures ∙ ap (λ (x : Dof). moves (parent_of c.args.self.now.bodies) (body_of c.args.self.now.dofs) c.args.i x.body) (sym (c.at.ensures no_dof))
    ∙ sym (ap (λ b. b && moves (parent_of c.args.self.now.bodies) (body_of c.args.self.now.dofs) c.args.i (body_of c.args.self.now.dofs c.args.k)) (lt-ltb c.args.i c.args.k c.if-i-k.true))
