use Rattle.std.proofs.Common.{◌≡◌, ◌*ℤ◌, ℤ, pos, IfOk, sym, ap, ap₂, ◌∙◌, subst, arith}
use Rattle.std.proofs.lemmas.Int.{ints}
use Rattle.mj_types.specs.Parts.{plain, number_at}
use Rattle.mj_types.specs.Forests.{above_in}
use Rattle.mj_factor.specs.Stored.{entry}
use Rattle.mj_factor.proofs.FactorLaws.{zero_left, zero_right}
use Rattle.mj_factor.proofs.PlaceLaws.{forest_in}
use Rattle.mj_ball.proofs.PairLaws.{meets_too}
use Rattle.mj_ball.specs.Shifts.{too_large, with_diagonal}
use Rattle.mj_ball.proofs.entries.product.Goals as goal

pub returns-clause-value : goal.returns-clause-value
returns-clause-value c =
    let f = c.args.factor.now in
    let d : c.entry.result.now.mid ≡ number_at f.d c.args.r = ap (λ x. x.mid) (sym (c.entry.ensures (plain (pos 0)))) in
    let whole = ap₂ (λ x y. x *ℤ y) (c.scaled.ensures ∙ ap₂ (λ x y. x *ℤ y) d c.lower_entry-left.ensures.value) c.known_entry-right.ensures.value in
    subst (λ (x : ℤ). IfOk c.times.result (λ y. y.raw ≡ x)) whole c.times.ensures.value

pub returns-clause-first : goal.returns-clause-first
returns-clause-first c =
    let f = c.args.factor.now in
    let d : c.entry.result.now.mid ≡ number_at f.d c.args.r = ap (λ x. x.mid) (sym (c.entry.ensures (plain (pos 0)))) in
    let whole = ap₂ (λ x y. x *ℤ y) (c.scaled.ensures ∙ ap₂ (λ x y. x *ℤ y) d c.lower_entry-left.ensures.value) c.known_entry-right.ensures.value in
    c.times.ensures.first ∙ ap too_large whole

pub known_entry-right-requires-clause-meets : goal.known_entry-right-requires-clause-meets
known_entry-right-requires-clause-meets c =
    let m = c.args.model.now in
    λ h. meets_too (above_in m) c.args.factor.now.l m.nv (forest_in m) c.args.i c.args.j c.args.r c.requires.row
    (λ z. let e : c.lower_entry-left.result.mid ≡ pos 0 = c.lower_entry-left.ensures.value ∙ z in omega (arith, ints, e, c.if-left-eq0.false)) c.requires.meets (λ t. h (sym t))

pub returns-then-left-eq0-clause-value : goal.returns-then-left-eq0-clause-value
returns-then-left-eq0-clause-value c =
    let f = c.args.factor.now in
    let l = with_diagonal (entry (above_in c.args.model.now) f.l) in
    let none : c.lower_entry-left.result.mid ≡ pos 0 = omega (arith, ints, c.if-left-eq0.true) in
    sym (zero_left (number_at f.d c.args.r *ℤ l c.args.r c.args.i) (l c.args.r c.args.j) (zero_right (number_at f.d c.args.r) (l c.args.r c.args.i) (sym c.lower_entry-left.ensures.value ∙ none)))

pub returns-then-left-eq0-clause-first : goal.returns-then-left-eq0-clause-first
returns-then-left-eq0-clause-first c = ap too_large (returns-then-left-eq0-clause-value c)
