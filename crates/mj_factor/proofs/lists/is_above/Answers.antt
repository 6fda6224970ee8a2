use Rattle.std.proofs.Common.{ℕ, ◌+◌, ◌∙◌, ◌≡◌, ◌==◌, ◌&&◌, ap, ap₂, sym, arith, slice_index_or}
use Rattle.std.proofs.lemmas.Bool.{lt-ltb, le-ltb}
use Rattle.mj_tree.specs.Listing.{start, height}
use Rattle.mj_types.specs.Forests.{above_in}
use Rattle.mj_factor.proofs.PlaceLaws.{above_by, place_end}
use Rattle.mj_factor.proofs.lists.is_above.Goals as goal

pub at-requires : goal.at-requires
at-requires c =
    omega (arith, c.if-place-begin.true, c.begin-2.ensures.start, place_end c.args.model.now c.args.factor.now c.requires.room c.args.k c.requires.second)

pub returns-then-place-begin : goal.returns-then-place-begin
returns-then-place-begin c =
    let m = c.args.model.now in
    let f = c.args.factor.now in
    let p = c.begin.result + c.height.result in
    let e : p ≡ start (above_in m) c.args.k + height (above_in m) c.args.i = ap₂ (λ (x y : ℕ). x + y) c.begin.ensures.start c.height.ensures.height in
    sym (above_by m f c.requires.room c.args.i c.args.k c.requires.second p e
    ∙ ap₂ (λ x (y : ℕ). x && y == c.args.i + 1) (lt-ltb p (start (above_in m) (c.args.k + 1)) (omega (arith, c.if-place-begin.true, c.begin-2.ensures.start))) (c.at.ensures 0))

pub returns-else-place-begin : goal.returns-else-place-begin
returns-else-place-begin c =
    let m = c.args.model.now in
    let f = c.args.factor.now in
    let p = c.begin.result + c.height.result in
    let e : p ≡ start (above_in m) c.args.k + height (above_in m) c.args.i = ap₂ (λ (x y : ℕ). x + y) c.begin.ensures.start c.height.ensures.height in
    le-ltb p c.begin-2.result c.if-place-begin.false
    ∙ sym (above_by m f c.requires.room c.args.i c.args.k c.requires.second p e
    ∙ ap (λ x. x && slice_index_or f.above p 0 == c.args.i + 1) (le-ltb p (start (above_in m) (c.args.k + 1)) (omega (arith, c.if-place-begin.false, c.begin-2.ensures.start))))
