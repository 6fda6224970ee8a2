use Rattle.std.proofs.Common.{◌≡◌, length, ap, sym, ◌∙◌, arith}
use Rattle.mj_layout.specs.declared.layout.BodyParts.{BodyParts}
use Rattle.mj_layout.specs.Layout.{part, no_parts}
use Rattle.mj_layout.proofs.layout.next_body.Goals as goal

pub overflow_add-place : goal.overflow_add-place
overflow_add-place c =
    let e : c.len-count.result ≡ length (part c.args.parts.now (length c.args.made.now)).joints =
    c.len-count.ensures ∙ ap (λ (x : BodyParts). length x.joints) (sym (c.entry-x.ensures no_parts)) in
    omega (arith, e, c.requires.room, c.requires.few_joints)
