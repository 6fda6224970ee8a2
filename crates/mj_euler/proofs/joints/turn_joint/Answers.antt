use Rattle.std.proofs.Common.{◌≡◌, ◌<◌, ◌≤◌, ◌+◌, ◌^◌, ℕ, true, length, sym, ◌∙◌, arith}
use Rattle.mj_types.specs.Parts.{no_joint, position_count, velocity_count}
use Rattle.mj_euler.specs.Advance.{has_quaternion}
use Rattle.mj_euler.proofs.Places.{end_of, speed_end_of, counts, whole, orientation_small}
use Rattle.mj_euler.proofs.joints.turn_joint.Goals as goal

pub overflow_add-x : goal.overflow_add-x
overflow_add-x c =
    let m = c.args.model.now in
    let x = c.entry-x.result.now in
    let end = end_of m.bodies m.joints m.nq m.nv m.of_joints c.args.j c.requires.joint x (c.entry-x.ensures no_joint) in
    let few = m.of_joints.few_positions in
    let first = c.place_count-first.ensures.few in
    record { fits = omega arith }

pub overflow_add-x-then-has_quaternion : goal.overflow_add-x-then-has_quaternion
overflow_add-x-then-has_quaternion c =
    let m = c.args.model.now in
    let x = c.entry-x.result.now in
    let end = speed_end_of m.bodies m.joints m.nq m.nv m.of_joints c.args.j c.requires.joint x (c.entry-x.ensures no_joint) in
    let few = m.of_joints.few in
    let first = c.place_count-first.ensures.few in
    record { fits = omega arith }

pub turn_place-requires-clause-p : goal.turn_place-requires-clause-p
turn_place-requires-clause-p c =
    let m = c.args.model.now in
    let x = c.entry-x.result.now in
    omega (arith, end_of m.bodies m.joints m.nq m.nv m.of_joints c.args.j c.requires.joint x (c.entry-x.ensures no_joint), c.requires.fits.positions.many, c.place_count-first.ensures.value, (whole x.kind (sym c.has_quaternion.ensures ∙ c.if-has_quaternion.true)).0)

pub turn_place-requires-clause-room : goal.turn_place-requires-clause-room
turn_place-requires-clause-room c =
    let m = c.args.model.now in
    let x = c.entry-x.result.now in
    omega (arith, end_of m.bodies m.joints m.nq m.nv m.of_joints c.args.j c.requires.joint x (c.entry-x.ensures no_joint), c.requires.room, c.place_count-first.ensures.value, (whole x.kind (sym c.has_quaternion.ensures ∙ c.if-has_quaternion.true)).0)

pub turn_place-requires-clause-d : goal.turn_place-requires-clause-d
turn_place-requires-clause-d c =
    let m = c.args.model.now in
    let x = c.entry-x.result.now in
    omega (arith, speed_end_of m.bodies m.joints m.nq m.nv m.of_joints c.args.j c.requires.joint x (c.entry-x.ensures no_joint), c.requires.v, c.place_count-first.ensures.value, (whole x.kind (sym c.has_quaternion.ensures ∙ c.if-has_quaternion.true)).1)

pub turn_place-requires-clause-q : goal.turn_place-requires-clause-q
turn_place-requires-clause-q c =
    let m = c.args.model.now in
    let x = c.entry-x.result.now in
    rw c.place_count-first.ensures.value
    (orientation_small m.joints m.nq c.args.state.now.q c.requires.fits.positions c.args.j c.requires.joint x (c.entry-x.ensures no_joint) (sym c.has_quaternion.ensures ∙ c.if-has_quaternion.true))

pub turn_place-requires-clause-v : goal.turn_place-requires-clause-v
turn_place-requires-clause-v c =
    let m = c.args.model.now in
    let x = c.entry-x.result.now in
    let end = speed_end_of m.bodies m.joints m.nq m.nv m.of_joints c.args.j c.requires.joint x (c.entry-x.ensures no_joint) in
    let whole_ = (whole x.kind (sym c.has_quaternion.ensures ∙ c.if-has_quaternion.true)).1 in
    let first = c.place_count-first.ensures.value in
    record {
      x = c.requires.small _ (omega (arith, end, whole_, first));
      y = c.requires.small _ (omega (arith, end, whole_, first));
      z = c.requires.small _ (omega (arith, end, whole_, first));
    }
