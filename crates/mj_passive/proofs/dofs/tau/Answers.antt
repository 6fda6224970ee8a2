use Rattle.std.proofs.Common.{◌≡◌, ℤ, pos, ◌+◌, ◌-◌, ◌^◌, ◌<◌, ◌≤◌, unsigned_abs, length, IfOk, ap, sym, subst, arith, mul-le-mul}
use Rattle.fx_num.specs.Settled.{settled_mid}
use Rattle.fx_num.specs.declared.number.Number.{Number}
use Rattle.fx_whole.specs.First.{refusal_of}
use Rattle.mj_types.specs.declared.parts.Dof.{Dof}
use Rattle.mj_types.specs.declared.parts.Joint.{Joint}
use Rattle.mj_types.specs.declared.range.Quantity.TheVariants as kind
use Rattle.mj_types.specs.Parts.{no_dof, no_joint, plain}
use Rattle.mj_types.specs.Ranges.{limited}
use Rattle.mj_passive.specs.Forces.{tau_of}
use Rattle.mj_passive.proofs.AppliedLaws.{up_to, tau-is}
use Rattle.mj_passive.proofs.dofs.tau.Goals as goal

pub overflow_sub-number : goal.overflow_sub-number
overflow_sub-number c =
    let at = ap (λ (x : Dof). x.joint) (c.at-number.ensures no_dof) in
    omega (arith, at, (c.args.model.now.of_dofs.each c.args.d c.requires.dof).some)

pub minus_product-requires : goal.minus_product-requires
minus_product-requires c =
    let m = c.args.model.now in
    let x = m.of_dofs.each c.args.d c.requires.dof in
    let at = ap (λ (y : Dof). y.joint) (c.at-number.ensures no_dof) in
    let there : c.at-number.result.joint - 1 < length m.joints = omega (arith, at, x.some, x.joint_) in
    let damping : unsigned_abs c.entry.result.now.damping.mid ≤ 2 ^ 52
    = subst (λ (y : Joint). unsigned_abs y.damping.mid ≤ 2 ^ 52) (c.entry.ensures no_joint) (up_to _ (2 ^ 52) (m.of_joints.each (c.at-number.result.joint - 1) there).damping) in
    let velocity : unsigned_abs c.entry-2.result.now.mid ≤ 2 ^ 44
    = subst (λ (y : Number (Unit {0}) 32). unsigned_abs y.mid ≤ 2 ^ 44) (c.entry-2.ensures (plain (pos 0))) (c.requires.fits.velocities.each c.args.d c.requires.dof) in
    omega (arith, c.joint_force-force.ensures.small, mul-le-mul damping velocity)

is : (c : goal.After-settled) → settled_mid c.minus_product.result.raw 32 ≡ tau_of c.args.model.now c.args.state.now c.args.added.now.raw c.args.d
is c =
    tau-is c.args.model.now c.args.state.now c.args.d c.at-number.result c.entry.result.now c.entry-2.result.now c.args.added.now.raw c.joint_force-force.result.raw c.minus_product.result.raw
    (c.at-number.ensures no_dof) (c.entry.ensures no_joint) (ap (λ (x : Number (Unit {0}) 32). x.mid) (sym (c.entry-2.ensures (plain (pos 0))))) c.joint_force-force.ensures.value c.minus_product.ensures.value

pub returns-clause-value : goal.returns-clause-value
returns-clause-value c = subst (λ (x : ℤ). IfOk c.settled.result (λ y. y.mid ≡ x)) (is c) c.settled.ensures.value

pub returns-clause-first : goal.returns-clause-first
returns-clause-first c = subst (λ (x : ℤ). refusal_of c.settled.result ≡ limited kind.Applied (c.args.d + 1) (2 ^ 52) x) (is c) c.settled.ensures.first
