use Rattle.std.proofs.Common.{ℕ, suc, ◌≡◌, ◌+◌, ◌-◌, ◌<◌, ◌^◌, ◌∙◌, sym, subst, arith, length}
use Rattle.mj_types.specs.Placed.{WithinInertia, inertia_at}
use Rattle.mj_inertia.proofs.CompositeLaws.{carried, carried-start, carried-step, carried-end, carried-within, composite-within}
use Rattle.mj_inertia.proofs.composing.composites.Goals as goal

pub loop-s-init : goal.loop-s-init
loop-s-init c =
    let bodies = c.args.model.now.bodies in
    let f = inertia_at c.args.frames.now.inertia in
    let e : length bodies ≡ length bodies - 0 = omega arith in
    record {
      room = record { list = c.copy_all.ensures.room ∙ c.requires.room.list };
      sums = λ d h. subst (λ (p : ℕ). inertia_at c.copy_all.new.to d ≡ carried bodies f p d) e
          (c.copy_all.ensures.same d (omega (arith, c.requires.frames.room.inertia)) ∙ sym (carried-start bodies f d h));
    }

pub loop-s-preserved : goal.loop-s-preserved
loop-s-preserved c =
    let m = c.args.model.now in
    let f = inertia_at c.args.frames.now.inertia in
    let q : ℕ = c.len-bodies.result - 1 - c.loop-s.s in
    let here : q < length m.bodies = omega (arith, c.len-bodies.ensures) in
    let before : length m.bodies - c.loop-s.s ≡ suc q = omega (arith, c.len-bodies.ensures) in
    let after : q ≡ length m.bodies - (c.loop-s.s + 1) = omega (arith, c.len-bodies.ensures) in
    record {
      room = c.add_to_parent.ensures.room;
      sums = λ d h. subst (λ (p : ℕ). inertia_at c.add_to_parent.new.out.list d ≡ carried m.bodies f p d) after
          (carried-step m.bodies m.of_bodies f (inertia_at c.loop-s.out.list) (inertia_at c.add_to_parent.new.out.list) q here
          (λ k l. subst (λ (p : ℕ). inertia_at c.loop-s.out.list k ≡ carried m.bodies f p k) before (c.loop-s.invariant.sums k l)) c.add_to_parent.ensures.sums d h);
    }

pub returns-clause-sums : goal.returns-clause-sums
returns-clause-sums c =
    let m = c.args.model.now in
    let f = inertia_at c.args.frames.now.inertia in
    let e : length m.bodies - c.loop-s.s ≡ 0 = omega (arith, c.len-bodies.ensures) in
    record {
      sums = λ d h. subst (λ (p : ℕ). inertia_at c.loop-s.out.list d ≡ carried m.bodies f p d) e (c.loop-s.invariant.sums d h) ∙ carried-end m f d;
    }

pub returns-clause-ranges : goal.returns-clause-ranges
returns-clause-ranges c =
    let m = c.args.model.now in
    let f = inertia_at c.args.frames.now.inertia in
    let e : length m.bodies - c.loop-s.s ≡ 0 = omega (arith, c.len-bodies.ensures) in
    record {
      room = c.loop-s.invariant.room;
      small = λ d h. subst (λ i. WithinInertia i (2 ^ 69))
          (sym (subst (λ (p : ℕ). inertia_at c.loop-s.out.list d ≡ carried m.bodies f p d) e (c.loop-s.invariant.sums d h) ∙ carried-end m f d))
          (composite-within m f c.requires.frames.inertia d);
    }

pub add_to_parent-requires-clause-small : goal.add_to_parent-requires-clause-small
add_to_parent-requires-clause-small c d h =
    let m = c.args.model.now in
    let f = inertia_at c.args.frames.now.inertia in
    subst (λ i. WithinInertia i (2 ^ 70)) (sym (c.loop-s.invariant.sums d h))
    (carried-within m.bodies f m.of_bodies c.requires.frames.inertia (length m.bodies - c.loop-s.s) d)
