use Rattle.std.proofs.Common.{◌+◌, ℕ, pos, sym, ap, ap₂, ◌∙◌, arith}
use Rattle.fx_whole.proofs.SumLaws.{when-true}
use Rattle.mj_tree.proofs.ListingLaws.{height_le, height_place}
use Rattle.mj_types.specs.Forests.{above_in}
use Rattle.mj_types.specs.Parts.{plain, number_at}
use Rattle.mj_factor.proofs.PlaceLaws.{few_dofs, forest_in}
use Rattle.mj_factor.proofs.RowLaws.{place_there}
use Rattle.mj_ball.proofs.entries.listed_entry.Goals as goal

pub overflow_add-begin : goal.overflow_add-begin
overflow_add-begin c = omega (arith, c.begin.ensures.small, c.requires.height, height_le (above_in c.args.model.now) c.args.i, few_dofs c.args.model.now, c.requires.column)

pub entry-requires : goal.entry-requires
entry-requires c =
    omega (arith, c.requires.factor.room.l, c.begin.ensures.start, c.requires.height, place_there c.args.model.now c.args.factor.now c.requires.factor.room c.args.i c.args.r c.requires.row c.requires.meets)

pub returns-clause-value : goal.returns-clause-value
returns-clause-value c =
    let m = c.args.model.now in
    let f = c.args.factor.now in
    ap (λ x. x.mid) (sym (c.entry.ensures (plain (pos 0))))
    ∙ ap₂ (λ (x y : ℕ). number_at f.l (x + y)) c.begin.ensures.start (c.requires.height ∙ sym (height_place m.nv (above_in m) (forest_in m) c.args.i c.args.r c.requires.row c.requires.meets))
    ∙ sym (when-true (above_in m c.args.i c.args.r) _ c.requires.meets)

pub returns-clause-small : goal.returns-clause-small
returns-clause-small c = rw (c.entry.ensures (plain (pos 0))) at (c.requires.factor.lower (c.begin.result + c.args.above))
