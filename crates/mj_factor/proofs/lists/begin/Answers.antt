use Rattle.std.proofs.Common.{arith, ◌∙◌, sym}
use Rattle.mj_factor.proofs.PlaceLaws.{places_are, places_length, start_small}
use Rattle.mj_factor.proofs.lists.begin.Goals as goal

pub at-requires : goal.at-requires
at-requires c = omega (arith, places_length c.args.model.now c.args.factor.now c.requires.room)

pub returns-clause-start : goal.returns-clause-start
returns-clause-start c = sym (c.at.ensures 0) ∙ places_are c.args.model.now c.args.factor.now c.requires.room c.args.k c.requires.dof

pub returns-clause-small : goal.returns-clause-small
returns-clause-small c =
    omega (
      arith,
      c.at.ensures 0,
      places_are c.args.model.now c.args.factor.now c.requires.room c.args.k c.requires.dof,
      start_small c.args.model.now c.args.k c.requires.dof,
    )
