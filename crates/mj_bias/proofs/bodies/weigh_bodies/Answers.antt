use Rattle.std.proofs.Common.{◌≢◌, ℕ, ◌+◌, ◌^◌, ◌<◌, length, Option, refl, sym, ap, ap₂, ◌∙◌, subst, arith, inl, inr}
use Rattle.std.proofs.lemmas.Bool.{cases_eq}
use Rattle.std.proofs.lemmas.Result.{err_from_is_err_and}
use Rattle.fx_whole.proofs.FirstLaws.{stop_here, pass_more, pass_all}
use Rattle.fx_vec.specs.Spatial.{Inertia}
use Rattle.fx_vec.specs.Views.{mids, inertia}
use Rattle.mj_types.specs.declared.range.OutOfRange.{OutOfRange}
use Rattle.mj_types.specs.Parts.{body, no_inertia}
use Rattle.mj_types.specs.Placed.{inertia_at}
use Rattle.mj_bias.specs.Carried.{IsVelocity}
use Rattle.mj_bias.specs.Measures.{Measured, totals, no_measure, numbers_at, totals_at, IsWithin}
use Rattle.mj_bias.specs.Steps.{body_wrench_there, body_fault_there}
use Rattle.mj_bias.proofs.SeenLaws.{seen-read, seen-same, seen-other}
use Rattle.mj_bias.proofs.bodies.weigh_bodies.Goals as goal

pub loop-b-init : goal.loop-b-init
loop-b-init g c = record {
  len = c.put.ensures.len ∙ c.requires.wrench;
  world = seen-same (totals g.K.Carry.wide_width) no_measure c.args.wrench.now c.put.new.self 0 c.no_sums.result c.put.ensures.len (omega (arith, c.requires.wrench)) c.put.ensures.same ∙ c.no_sums.ensures;
  wrenches = λ b h. absurd (omega arith);
  within = λ b h. absurd (omega arith);
  passed = refl;
}

pub body_wrench-requires-clause-inertia : goal.body_wrench-requires-clause-inertia
body_wrench-requires-clause-inertia g c = rw (c.entry.ensures no_inertia) at (c.requires.frames.inertia c.loop-b.b (omega arith))

pub body_wrench-requires-clause-drift : goal.body_wrench-requires-clause-drift
body_wrench-requires-clause-drift g c =
    subst (λ (s : Measured). IsWithin s (2 ^ 110) (2 ^ 100))
    (seen-read (totals g.K.Carry.wide_width) no_measure c.args.drift.now (c.loop-b.b + 1) c.entry-in-loop-b-2.result.now (omega (arith, c.requires.drift)) c.entry-in-loop-b-2.ensures)
    (c.requires.drifts (c.loop-b.b + 1) (omega arith))

pub body_wrench-requires-clause-shared : goal.body_wrench-requires-clause-shared
body_wrench-requires-clause-shared g c = λ h.
    subst (λ (s : Measured). IsVelocity g.K.Carry.settled s (numbers_at g.K.Carry.width c.args.turn.now (body c.args.model.now.bodies (c.loop-b.b + 1)).dofadr))
    (seen-read (totals g.K.Carry.wide_width) no_measure c.args.motion.now (c.loop-b.b + 1) c.entry-in-loop-b.result.now (omega (arith, c.requires.motion)) c.entry-in-loop-b.ensures)
    (c.requires.shared (c.loop-b.b + 1) h)

pub loop-b-preserved : goal.loop-b-preserved
loop-b-preserved g c =
    let wide = g.K.Carry.wide_width in
    let rule = g.K.Carry.settled in
    let gravity = mids c.args.model.now.gravity in
    let b = c.loop-b.b in
    let e = ap inertia (sym (c.entry.ensures no_inertia)) in
    let s = sym (seen-read (totals wide) no_measure c.args.motion.now (b + 1) c.entry-in-loop-b.result.now (omega (arith, c.requires.motion)) c.entry-in-loop-b.ensures) in
    let t = sym (seen-read (totals wide) no_measure c.args.drift.now (b + 1) c.entry-in-loop-b-2.result.now (omega (arith, c.requires.drift)) c.entry-in-loop-b-2.ensures) in
    let there : b + 1 < length c.loop-b.wrench = omega (arith, c.loop-b.invariant.len) in
    let new = seen-same (totals wide) no_measure c.loop-b.wrench c.put-in-loop-b.new.self (b + 1) c.in_ok-force.force c.put-in-loop-b.ensures.len there c.put-in-loop-b.ensures.same in
    let others = λ (k : ℕ) (n : k ≢ b + 1). seen-other (totals wide) no_measure c.loop-b.wrench c.put-in-loop-b.new.self (b + 1) k c.in_ok-force.force c.put-in-loop-b.ensures.len c.put-in-loop-b.ensures.others n in
    let made : ℕ → Measured = λ (a : ℕ). body_wrench_there rule gravity (inertia_at c.args.frames.now.inertia a) (totals_at wide c.args.motion.now (a + 1)) (totals_at wide c.args.drift.now (a + 1)) in
    let fault : ℕ → Option OutOfRange = λ (a : ℕ). body_fault_there rule gravity (inertia_at c.args.frames.now.inertia a) (totals_at wide c.args.motion.now (a + 1)) (totals_at wide c.args.drift.now (a + 1)) (a + 1) in
    let value = c.in_ok-force.ensures.value ∙ ap (λ (i : Inertia). body_wrench_there rule gravity i (totals wide c.entry-in-loop-b.result.now) (totals wide c.entry-in-loop-b-2.result.now)) e
    ∙ ap₂ (λ (x y : Measured). body_wrench_there rule gravity (inertia_at c.args.frames.now.inertia b) x y) s t in
    let first = c.in_ok-force.ensures.first ∙ ap (λ (i : Inertia). body_fault_there rule gravity i (totals wide c.entry-in-loop-b.result.now) (totals wide c.entry-in-loop-b-2.result.now) (b + 1)) e
    ∙ ap₂ (λ (x y : Measured). body_fault_there rule gravity (inertia_at c.args.frames.now.inertia b) x y (b + 1)) s t in
    record {
      len = c.put-in-loop-b.ensures.len ∙ c.loop-b.invariant.len;
      world = others 0 (λ q. omega arith) ∙ c.loop-b.invariant.world;
      wrenches = λ a h. elim (cases_eq a b) [
        | inl q ↦ ap (λ (k : ℕ). totals_at wide c.put-in-loop-b.new.self (k + 1)) q ∙ new ∙ value ∙ ap made (sym q)
        | inr q ↦ others (a + 1) (λ r. q (omega (arith, r))) ∙ c.loop-b.invariant.wrenches a (omega arith)
      ];
      within = λ a h. elim (cases_eq a b) [
        | inl q ↦ subst (λ (k : ℕ). IsWithin (totals_at wide c.put-in-loop-b.new.self (k + 1)) (2 ^ 118) (2 ^ 106)) (sym q) (subst (λ (x : Measured). IsWithin x (2 ^ 118) (2 ^ 106)) (sym new) c.in_ok-force.ensures.within)
        | inr q ↦ subst (λ (x : Measured). IsWithin x (2 ^ 118) (2 ^ 106)) (sym (others (a + 1) (λ r. q (omega (arith, r))))) (c.loop-b.invariant.within a (omega arith))
      ];
      passed = pass_more b fault c.loop-b.invariant.passed first;
    }

pub returns-in_err-force-clause-first : goal.returns-in_err-force-clause-first
returns-in_err-force-clause-first g c =
    let wide = g.K.Carry.wide_width in
    let rule = g.K.Carry.settled in
    let gravity = mids c.args.model.now.gravity in
    let b = c.loop-b.b in
    let e = ap inertia (sym (c.entry.ensures no_inertia)) in
    let s = sym (seen-read (totals wide) no_measure c.args.motion.now (b + 1) c.entry-in-loop-b.result.now (omega (arith, c.requires.motion)) c.entry-in-loop-b.ensures) in
    let t = sym (seen-read (totals wide) no_measure c.args.drift.now (b + 1) c.entry-in-loop-b-2.result.now (omega (arith, c.requires.drift)) c.entry-in-loop-b-2.ensures) in
    let fault : ℕ → Option OutOfRange = λ (a : ℕ). body_fault_there rule gravity (inertia_at c.args.frames.now.inertia a) (totals_at wide c.args.motion.now (a + 1)) (totals_at wide c.args.drift.now (a + 1)) (a + 1) in
    let first = c.in_err-force.ensures.first ∙ ap (λ (i : Inertia). body_fault_there rule gravity i (totals wide c.entry-in-loop-b.result.now) (totals wide c.entry-in-loop-b-2.result.now) (b + 1)) e
    ∙ ap₂ (λ (x y : Measured). body_fault_there rule gravity (inertia_at c.args.frames.now.inertia b) x y (b + 1)) s t in
    let r = err_from_is_err_and c.from_residual.result c.from_residual.ensures.1 in
    rw (r.1, r.2) (stop_here b (length c.args.model.now.bodies) fault _ (omega arith) c.loop-b.invariant.passed first)

pub returns-clause-within : goal.returns-clause-within
returns-clause-within g c = λ b h. c.loop-b.invariant.within b (omega arith)

pub returns-clause-first : goal.returns-clause-first
returns-clause-first g c =
    let wide = g.K.Carry.wide_width in
    let fault : ℕ → Option OutOfRange = λ (a : ℕ). body_fault_there g.K.Carry.settled (mids c.args.model.now.gravity) (inertia_at c.args.frames.now.inertia a) (totals_at wide c.args.motion.now (a + 1)) (totals_at wide c.args.drift.now (a + 1)) (a + 1) in
    pass_all c.loop-b.b (length c.args.model.now.bodies) fault (omega arith) c.loop-b.invariant.passed
