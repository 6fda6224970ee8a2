use Rattle.std.proofs.Common.{◌≡◌, List, length, ap, ◌∙◌, arith}
use Rattle.mj_types.specs.declared.parts.Body.{Body}
use Rattle.mj_layout.specs.Layout.{part, body_from}
use Rattle.mj_layout.proofs.Upheld.{made-none, made-more, made-room}
use Rattle.mj_layout.proofs.layout.bodies_of.Goals as goal

pub next_body-body-requires-clause-room : goal.next_body-body-requires-clause-room
next_body-body-requires-clause-room c =
    rw c.as_slice.ensures.value (made-room _ _ _ _ _ c.loop-b.invariant (omega (arith, c.loop-b-test.true, c.len-b-end.ensures)) c.requires.whole)

pub overflow_add-place : goal.overflow_add-place
overflow_add-place c =
    let e : c.next_body-body.result.jntnum ≡ length (part c.args.parts.now (length c.as_slice.result.now)).joints = ap (λ (x : Body). x.jntnum) c.next_body-body.ensures in
    let room = made-room _ _ _ _ _ c.loop-b.invariant (omega (arith, c.loop-b-test.true, c.len-b-end.ensures)) c.requires.whole in
    let same : length (part c.args.parts.now (length c.as_slice.result.now)).joints ≡ length (part c.args.parts.now (length c.loop-b.made.items)).joints =
    ap (λ (m : List Body). length (part c.args.parts.now (length m)).joints) c.as_slice.ensures.value in
    omega (arith, e, same, room, c.requires.whole, c.requires.parts.few_joints)

pub loop-b-init : goal.loop-b-init
loop-b-init c = made-none _ _ _ c.new-made.ensures.items

pub loop-b-preserved : goal.loop-b-preserved
loop-b-preserved c =
    made-more _ _ _ _ _ _ _ c.loop-b.invariant
    (c.requires.parts.parents c.loop-b.b (omega (arith, c.loop-b-test.true, c.len-b-end.ensures)))
    (c.next_body-body.ensures ∙ ap (λ (m : List Body). body_from c.args.parts.now c.args.joints.now m (length m) c.loop-b.place) c.as_slice.ensures.value)
    c.in_ok-push.ensures.items
