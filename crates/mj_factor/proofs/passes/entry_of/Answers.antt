use Rattle.std.proofs.Common.{ℕ, ◌+◌, pos, ap, sym, ◌∙◌, arith}
use Rattle.mj_types.specs.Parts.{plain, number_at}
use Rattle.mj_factor.proofs.PlaceLaws.{places_small, row_within}
use Rattle.mj_factor.proofs.passes.entry_of.Goals as goal

pub overflow_add-begin : goal.overflow_add-begin
overflow_add-begin c = omega (arith, places_small c.args.model.now c.args.k c.args.c c.requires.dof c.requires.place)

pub entry-requires : goal.entry-requires
entry-requires c =
    omega (arith, c.requires.place, c.requires.factor.room.l, row_within c.args.model.now c.args.factor.now c.requires.factor.room c.args.k c.requires.dof)

pub returns-clause-entry : goal.returns-clause-entry
returns-clause-entry c =
    ap (λ x. x.mid) (sym (c.entry.ensures (plain (pos 0)))) ∙ ap (λ (p : ℕ). number_at c.args.factor.now.l (p + c.args.c)) c.begin.ensures.start

pub returns-clause-small : goal.returns-clause-small
returns-clause-small c = rw (c.entry.ensures (plain (pos 0))) at (c.requires.factor.lower (c.begin.result + c.args.c))
