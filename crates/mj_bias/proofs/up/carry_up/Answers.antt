use Rattle.std.proofs.Common.{◌≡◌, ℕ, ◌+◌, ◌-◌, ◌^◌, ◌<◌, ◌≤◌, length, sym, ap, ◌∙◌, subst, arith, lit≤}
use Rattle.mj_types.specs.declared.parts.Body.{Body}
use Rattle.mj_types.specs.Parts.{no_body}
use Rattle.mj_bias.specs.Measures.{Measured, totals_at, IsWithin}
use Rattle.mj_bias.proofs.StepLaws.{within-le}
use Rattle.mj_bias.proofs.RiseLaws.{held_there, held_begins, held_goes_on, held_ends, held_within, parent_there}
use Rattle.mj_bias.proofs.up.carry_up.Goals as goal

pub loop-s-init : goal.loop-s-init
loop-s-init g c = record {
  len = c.requires.room;
  sums = λ k h. held_begins c.args.model.now (totals_at g.K.Carry.wide_width c.args.wrench.now) (length c.args.model.now.bodies - 0) k (omega arith) h;
}

pub entry-requires : goal.entry-requires
entry-requires g c = omega (arith, c.len-bodies.ensures)

pub add_to-requires-clause-from : goal.add_to-requires-clause-from
add_to-requires-clause-from g c = omega (arith, c.len-bodies.ensures, c.loop-s.invariant.len)

pub add_to-requires-clause-to : goal.add_to-requires-clause-to
add_to-requires-clause-to g c =
    let k : ℕ = c.len-bodies.result - c.loop-s.s in
    let there : k - 1 < length c.args.model.now.bodies = omega (arith, c.len-bodies.ensures) in
    omega (arith, c.len-bodies.ensures, c.loop-s.invariant.len, c.args.model.now.of_bodies.parents (k - 1) there, ap (λ (x : Body). x.parent) (c.entry.ensures no_body))

pub add_to-requires-clause-added : goal.add_to-requires-clause-added
add_to-requires-clause-added g c =
    let m = c.args.model.now in
    let k : ℕ = c.len-bodies.result - c.loop-s.s in
    let there : k ≤ length m.bodies = omega (arith, c.len-bodies.ensures) in
    subst (λ (s : Measured). IsWithin s (2 ^ 126 - 1) (2 ^ 126)) (sym (c.loop-s.invariant.sums k there))
    (held_within m (totals_at g.K.Carry.wide_width c.args.wrench.now) (length m.bodies - c.loop-s.s) k c.requires.within)

pub add_to-requires-clause-sum : goal.add_to-requires-clause-sum
add_to-requires-clause-sum g c =
    let m = c.args.model.now in
    let k : ℕ = c.len-bodies.result - c.loop-s.s in
    let t : ℕ = c.entry.result.now.parent in
    let inside : k - 1 < length m.bodies = omega (arith, c.len-bodies.ensures) in
    let there : t ≤ length m.bodies = omega (arith, c.len-bodies.ensures, m.of_bodies.parents (k - 1) inside, ap (λ (x : Body). x.parent) (c.entry.ensures no_body)) in
    subst (λ (s : Measured). IsWithin s (2 ^ 126) (2 ^ 126)) (sym (c.loop-s.invariant.sums t there))
    (within-le _ (2 ^ 126 - 1) (2 ^ 126) (2 ^ 126) (2 ^ 126) (held_within m (totals_at g.K.Carry.wide_width c.args.wrench.now) (length m.bodies - c.loop-s.s) t c.requires.within) (lit≤ tt) (lit≤ tt))

pub loop-s-preserved : goal.loop-s-preserved
loop-s-preserved g c =
    let m = c.args.model.now in
    let wide = g.K.Carry.wide_width in
    let f : ℕ → Measured = totals_at wide c.args.wrench.now in
    let k : ℕ = c.len-bodies.result - c.loop-s.s in
    let q : ℕ = length m.bodies - (c.loop-s.s + 1) in
    let next : q + 1 ≡ k = omega (arith, c.len-bodies.ensures) in
    let there : k ≤ length m.bodies = omega (arith, c.len-bodies.ensures) in
    let same : length m.bodies - c.loop-s.s ≡ k = omega (arith, c.len-bodies.ensures) in
    let parent = ap (λ (x : Body). x.parent) (sym (c.entry.ensures no_body)) ∙ parent_there m k (omega arith) in
    record {
      len = c.add_to.ensures.len ∙ c.loop-s.invariant.len;
      sums = held_goes_on m f (totals_at wide c.loop-s.wrench) (totals_at wide c.add_to.new.wrench) k q c.entry.result.now.parent next there parent
          (λ a h. c.loop-s.invariant.sums a h ∙ ap (λ (p : ℕ). held_there m f p a) same)
          c.add_to.ensures.here c.add_to.ensures.others;
    }

pub returns-clause-sums : goal.returns-clause-sums
returns-clause-sums g c = λ k h.
    let m = c.args.model.now in
    c.loop-s.invariant.sums k h ∙ held_ends m (totals_at g.K.Carry.wide_width c.args.wrench.now) (length m.bodies - c.loop-s.s) k (omega (arith, c.len-bodies.ensures))
