use Rattle.std.proofs.Common.{◌≡◌, ◌≢◌, ◌⊎◌, inl, inr, ◌<◌, ◌≤◌, ◌+◌, ◌^◌, ℕ, Some, None, length, refl, sym, ap, ◌∙◌, subst, arith, unsigned_abs}
use Rattle.std.proofs.lemmas.Bool.{cases_eq}
use Rattle.std.proofs.lemmas.Result.{err_from_is_err_and}
use Rattle.fx_whole.specs.First.{refusal_of}
use Rattle.fx_whole.proofs.FirstLaws.{stop_here, pass_more, pass_all}
use Rattle.mj_types.specs.declared.range.Quantity.TheVariants as kind
use Rattle.mj_types.specs.Lawful.{position_limit}
use Rattle.mj_types.specs.Parts.{joint, no_joint, number_at, position_count, velocity_count}
use Rattle.mj_types.specs.Ranges.{limited}
use Rattle.mj_euler.specs.Advance.{after, place_count, place_fault, position_fault}
use Rattle.mj_euler.specs.Written.{AreMoved}
use Rattle.mj_euler.proofs.Places.{end_of, speed_end_of, size_of, counts, limits}
use Rattle.mj_euler.proofs.joints.move_joint.Goals as goal

pub overflow_add-x : goal.overflow_add-x
overflow_add-x c =
    let m = c.args.model.now in
    let x = c.entry-x.result.now in
    let end = end_of m.bodies m.joints m.nq m.nv m.of_joints c.args.j c.requires.joint x (c.entry-x.ensures no_joint) in
    let few = m.of_joints.few_positions in
    let turn = c.loop-i-test.true in
    let three = c.place_count-i-end.ensures.few in
    record { fits = omega arith }

pub overflow_add-x-in-loop-i : goal.overflow_add-x-in-loop-i
overflow_add-x-in-loop-i c =
    let m = c.args.model.now in
    let x = c.entry-x.result.now in
    let end = speed_end_of m.bodies m.joints m.nq m.nv m.of_joints c.args.j c.requires.joint x (c.entry-x.ensures no_joint) in
    let few = m.of_joints.few in
    let turn = c.loop-i-test.true in
    let three = c.place_count-i-end.ensures.few in
    record { fits = omega arith }

pub move_place-requires-clause-p : goal.move_place-requires-clause-p
move_place-requires-clause-p c =
    let m = c.args.model.now in
    let x = c.entry-x.result.now in
    omega (arith, end_of m.bodies m.joints m.nq m.nv m.of_joints c.args.j c.requires.joint x (c.entry-x.ensures no_joint), c.requires.fits.positions.many, c.loop-i-test.true, c.place_count-i-end.ensures.value, (counts x.kind).0)

pub move_place-requires-clause-room : goal.move_place-requires-clause-room
move_place-requires-clause-room c =
    let m = c.args.model.now in
    let x = c.entry-x.result.now in
    omega (arith, end_of m.bodies m.joints m.nq m.nv m.of_joints c.args.j c.requires.joint x (c.entry-x.ensures no_joint), c.requires.room, c.loop-i.invariant.len, c.loop-i-test.true, c.place_count-i-end.ensures.value, (counts x.kind).0)

pub move_place-requires-clause-d : goal.move_place-requires-clause-d
move_place-requires-clause-d c =
    let m = c.args.model.now in
    let x = c.entry-x.result.now in
    omega (arith, speed_end_of m.bodies m.joints m.nq m.nv m.of_joints c.args.j c.requires.joint x (c.entry-x.ensures no_joint), c.requires.v, c.loop-i-test.true, c.place_count-i-end.ensures.value, (counts x.kind).1)

pub move_place-requires-clause-small : goal.move_place-requires-clause-small
move_place-requires-clause-small c =
    let m = c.args.model.now in
    let x = c.entry-x.result.now in
    let turn = c.loop-i-test.true in
    let count = c.place_count-i-end.ensures.value in
    let n = (counts x.kind).0 in
    omega (arith, size_of m.joints m.nq c.args.state.now.q c.requires.fits.positions c.args.j c.requires.joint x (c.entry-x.ensures no_joint) c.loop-i.i (omega arith), limits x.kind c.loop-i.i (omega arith))

pub move_place-requires-clause-few : goal.move_place-requires-clause-few
move_place-requires-clause-few c =
    let m = c.args.model.now in
    let x = c.entry-x.result.now in
    omega (arith, end_of m.bodies m.joints m.nq m.nv m.of_joints c.args.j c.requires.joint x (c.entry-x.ensures no_joint), m.of_joints.few_positions, c.loop-i-test.true, c.place_count-i-end.ensures.few)

pub returns-in_err-move_place-clause-first : goal.returns-in_err-move_place-clause-first
returns-in_err-move_place-clause-first c =
    let x = c.entry-x.result.now in
    let r = err_from_is_err_and c.from_residual.result c.from_residual.ensures.1 in
    let turn = c.loop-i-test.true in
    let count = c.place_count-i-end.ensures.value in
    let inside : c.loop-i.i < place_count x.kind = omega arith in
    rw (r.1, r.2, c.entry-x.ensures no_joint)
    (stop_here c.loop-i.i (place_count x.kind) (place_fault c.args.model.now c.args.state.now (number_at c.args.v.now) x) _ inside c.loop-i.invariant.passed
    (c.in_err-move_place.ensures.first ∙ ap (λ n. limited kind.Position (x.qadr + c.loop-i.i + 1) n (after c.args.model.now.h.mid (number_at c.args.state.now.q (x.qadr + c.loop-i.i)) (number_at c.args.v.now (x.dadr + c.loop-i.i)))) (c.place_limit.ensures.value c.loop-i.i inside)))

pub loop-i-preserved : goal.loop-i-preserved
loop-i-preserved c =
    let x = c.entry-x.result.now in
    let i = c.loop-i.i in
    let inv = c.loop-i.invariant in
    let turn = c.loop-i-test.true in
    let count = c.place_count-i-end.ensures.value in
    let inside : i < place_count x.kind = omega arith in
    let limit = c.place_limit.ensures.value i inside in
    let at : (k : ℕ) → x.qadr + k ≢ x.qadr + i → number_at c.move_place.new.q (x.qadr + k) ≡ number_at c.loop-i.q (x.qadr + k) = λ k h. c.move_place.ensures.others (x.qadr + k) h in
    record {
      len = c.move_place.ensures.len ∙ inv.len;
      value = λ k h. elim (cases_eq k i) [
        | inl e ↦ subst (λ (n : ℕ). number_at c.move_place.new.q (x.qadr + n) ≡ after c.args.model.now.h.mid (number_at c.args.state.now.q (x.qadr + n)) (number_at c.args.v.now (x.dadr + n))) (sym e) c.in_ok-move_place.ensures.value
        | inr e ↦ at k (λ s. e (omega arith)) ∙ inv.value k (omega arith)
      ];
      small = λ k h. elim (cases_eq k i) [
        | inl e ↦ subst (λ (n : ℕ). unsigned_abs (number_at c.move_place.new.q (x.qadr + n)) ≤ position_limit x.kind n) (sym e) (subst (λ (n : ℕ). unsigned_abs (number_at c.move_place.new.q (x.qadr + i)) ≤ n) limit c.in_ok-move_place.ensures.within)
        | inr e ↦ rw (at k (λ s. e (omega arith))) (inv.small k (omega arith))
      ];
      others = λ k h. c.move_place.ensures.others k (λ e. elim h [
        | inl p ↦ absurd (omega arith)
        | inr p ↦ absurd (omega arith)
      ]) ∙ inv.others k h;
      passed = pass_more i (place_fault c.args.model.now c.args.state.now (number_at c.args.v.now) x) inv.passed
          (c.in_ok-move_place.ensures.first ∙ ap (λ n. limited kind.Position (x.qadr + i + 1) n (after c.args.model.now.h.mid (number_at c.args.state.now.q (x.qadr + i)) (number_at c.args.v.now (x.dadr + i)))) limit);
    }

pub returns-clause-moved : goal.returns-clause-moved
returns-clause-moved c =
    let past = c.loop-i-test.false in
    let count = c.place_count-i-end.ensures.value in
    rw (c.entry-x.ensures no_joint) (record {
      value = λ i h. c.loop-i.invariant.value i (omega arith);
      small = λ i h. c.loop-i.invariant.small i (omega arith);
    })

pub returns-clause-first : goal.returns-clause-first
returns-clause-first c =
    let past = c.loop-i-test.false in
    let end = c.loop-i.auto.i-end in
    let count = c.place_count-i-end.ensures.value in
    rw (c.entry-x.ensures no_joint)
    (pass_all c.loop-i.i (place_count c.entry-x.result.now.kind) (place_fault c.args.model.now c.args.state.now (number_at c.args.v.now) c.entry-x.result.now) (omega arith) c.loop-i.invariant.passed)
