use Rattle.std.proofs.Common.{◌≡◌, ◌+◌, true, ℕ, pos, sym, ap, ap₂, ◌∙◌, arith}
use Rattle.fx_whole.proofs.SumLaws.{when-true}
use Rattle.mj_tree.proofs.ListingLaws.{height_le, height_place}
use Rattle.mj_types.specs.Forests.{above_in}
use Rattle.mj_types.specs.Parts.{plain, number_at}
use Rattle.mj_factor.proofs.PlaceLaws.{few_dofs, forest_in}
use Rattle.mj_factor.proofs.RowLaws.{place_there}
use Rattle.mj_ball.proofs.entries.stored.Goals as goal

pub overflow_add-place : goal.overflow_add-place
overflow_add-place c = omega (arith, c.begin.ensures.small, c.requires.height, height_le (above_in c.args.model.now) c.args.i, few_dofs c.args.model.now)

pub entry-requires : goal.entry-requires
entry-requires c =
    omega (arith, c.requires.factor.room.l, c.begin.ensures.start, c.requires.height, place_there c.args.model.now c.args.factor.now c.requires.factor.room c.args.i c.args.r c.requires.row (sym c.is_named.ensures ∙ c.if-is_named.true))

pub returns-then-is_named-clause-value : goal.returns-then-is_named-clause-value
returns-then-is_named-clause-value c =
    let m = c.args.model.now in
    let f = c.args.factor.now in
    let e : above_in m c.args.i c.args.r ≡ true = sym c.is_named.ensures ∙ c.if-is_named.true in
    ap (λ x. x.mid) (sym (c.entry.ensures (plain (pos 0))))
    ∙ ap₂ (λ (x y : ℕ). number_at f.l (x + y)) c.begin.ensures.start (c.requires.height ∙ sym (height_place m.nv (above_in m) (forest_in m) c.args.i c.args.r c.requires.row e))
    ∙ sym (when-true (above_in m c.args.i c.args.r) _ e)

pub returns-then-is_named-clause-small : goal.returns-then-is_named-clause-small
returns-then-is_named-clause-small c = rw (c.entry.ensures (plain (pos 0))) at (c.requires.factor.lower (c.begin.result + c.args.above))
