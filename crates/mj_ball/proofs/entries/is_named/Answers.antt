use Rattle.std.proofs.Common.{ℕ, ◌+◌, ◌∙◌, ◌==◌, ◌&&◌, ap, ap₂, sym, arith, slice_index_or}
use Rattle.std.proofs.lemmas.Bool.{lt-ltb, le-ltb}
use Rattle.mj_tree.specs.Listing.{start}
use Rattle.mj_types.specs.Forests.{above_in}
use Rattle.mj_factor.proofs.PlaceLaws.{above_by, place_end}
use Rattle.mj_ball.proofs.entries.is_named.Goals as goal

pub at-requires : goal.at-requires
at-requires c =
    omega (arith, c.if-place-begin.true, c.begin.ensures.start, place_end c.args.model.now c.args.factor.now c.requires.room c.args.r c.requires.row)

pub returns-then-place-begin : goal.returns-then-place-begin
returns-then-place-begin c =
    let m = c.args.model.now in
    let f = c.args.factor.now in
    let p = c.args.place in
    sym (above_by m f c.requires.room c.args.i c.args.r c.requires.row p c.requires.place
    ∙ ap₂ (λ x (y : ℕ). x && y == c.args.i + 1) (lt-ltb p (start (above_in m) (c.args.r + 1)) (omega (arith, c.if-place-begin.true, c.begin.ensures.start))) (c.at.ensures 0))

pub returns-else-place-begin : goal.returns-else-place-begin
returns-else-place-begin c =
    let m = c.args.model.now in
    let f = c.args.factor.now in
    let p = c.args.place in
    le-ltb p c.begin.result c.if-place-begin.false
    ∙ sym (above_by m f c.requires.room c.args.i c.args.r c.requires.row p c.requires.place
    ∙ ap (λ x. x && slice_index_or f.above p 0 == c.args.i + 1) (le-ltb p (start (above_in m) (c.args.r + 1)) (omega (arith, c.if-place-begin.false, c.begin.ensures.start))))
