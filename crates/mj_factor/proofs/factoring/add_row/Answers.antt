use Rattle.std.proofs.Common.{ℕ, ◌≡◌, ◌+◌, ◌<◌, ◌+ℤ◌, ◌*ℤ◌, true, pos, unsigned_abs, length, ap, ap₂, sym, ◌∙◌, arith}
use Rattle.fx_whole.proofs.SumLaws.{when-true}
use Rattle.mj_tree.specs.Listing.{height, start}
use Rattle.mj_tree.proofs.ListingLaws.{start_le}
use Rattle.mj_types.specs.Forests.{above_in}
use Rattle.mj_types.specs.Parts.{number_at, plain}
use Rattle.mj_types.specs.Duals.{wide_at}
use Rattle.mj_factor.proofs.RowLaws.{place_there}
use Rattle.mj_factor.proofs.factoring.add_row.Goals as goal

pub entry-requires : goal.entry-requires
entry-requires c =
    omega (arith, c.requires.room.l, c.begin-first.ensures.start, c.height.ensures.height, place_there c.args.model.now c.args.factor.now c.requires.room c.args.k c.args.j c.requires.dof (sym c.is_above.ensures ∙ c.if-is_above.true))

pub part-requires-clause-end : goal.part-requires-clause-end
part-requires-clause-end c =
    omega (arith, c.requires.room.w, c.begin-first.ensures.start, c.height.ensures.height, place_there c.args.model.now c.args.factor.now c.requires.room c.args.k c.args.j c.requires.dof (sym c.is_above.ensures ∙ c.if-is_above.true))

pub add_scaled-requires-clause-lower : goal.add_scaled-requires-clause-lower
add_scaled-requires-clause-lower c =
    let there = c.requires.lower (c.begin-first.result + c.height.result) (omega (arith, c.begin-first.ensures.start, start_le (above_in c.args.model.now) (c.args.k + 1) c.args.j (omega arith))) in
    rw (c.entry.ensures (plain (pos 0))) at there

pub add_scaled-requires-clause-work : goal.add_scaled-requires-clause-work
add_scaled-requires-clause-work c = λ p h.
    let there = c.requires.work (c.begin-first.result + p) (omega (arith, c.begin-first.ensures.start, start_le (above_in c.args.model.now) (c.args.k + 1) c.args.j (omega arith))) in
    omega (arith, there, ap unsigned_abs (c.part.ensures.numbers p (omega (arith, c.part.ensures.width))))

pub returns-then-is_above : goal.returns-then-is_above
returns-then-is_above c = λ p h.
    let m = c.args.model.now in
    let f = c.args.factor.now in
    let e : above_in m c.args.k c.args.j ≡ true = sym c.is_above.ensures ∙ c.if-is_above.true in
    let inside : p < length c.part.result.now = omega (arith, c.part.ensures.width, c.height.ensures.height) in
    let lower : c.entry.result.now.mid ≡ number_at f.l (start (above_in m) c.args.j + height (above_in m) c.args.k) =
    ap (λ x. x.mid) (sym (c.entry.ensures (plain (pos 0)))) ∙ ap₂ (λ (x y : ℕ). number_at f.l (x + y)) c.begin-first.ensures.start c.height.ensures.height in
    let work : number_at c.part.result.now p ≡ number_at f.w (start (above_in m) c.args.j + p) =
    c.part.ensures.numbers p (omega (arith, c.part.ensures.width)) ∙ ap (λ (x : ℕ). number_at f.w (x + p)) c.begin-first.ensures.start in
    c.add_scaled.ensures p inside
    ∙ ap (λ x. wide_at c.args.sums.now p +ℤ x) (ap₂ (λ x y. x *ℤ y) lower work ∙ sym (when-true (above_in m c.args.k c.args.j) _ e))
