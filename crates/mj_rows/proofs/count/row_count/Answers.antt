use Rattle.std.proofs.Common.{◌≡◌, ℕ, ◌+◌, List, ◌++◌, length, ap₂, sym, ◌∙◌, length-append}
use Rattle.mj_types.specs.Parts.{number_at}
use Rattle.mj_rows.specs.Constraint.{Constraint}
use Rattle.mj_rows.specs.Constraints.{all_equalities, all_frictions, all_joint_limits, all_tendon_limits, all_edges}
use Rattle.mj_rows.specs.Joints.{equality_of}
use Rattle.mj_rows.proofs.CountLaws.{count_ones}
use Rattle.mj_rows.proofs.count.row_count.Goals as goal

together : (p q : List Constraint) (a b : ℕ) → a ≡ length p → b ≡ length q → a + b ≡ length (p ++ q)
together p q a b e f = ap₂ (λ (x y : ℕ). x + y) e f ∙ sym (length-append p q)

pub returns : goal.returns
returns c x =
    let m = c.args.model.now in
    let s = c.args.state.now in
    let l = number_at c.args.applied.now.length in
    let cs = c.args.contacts.now.list.list in
    together (all_equalities m s ++ all_frictions m ++ all_joint_limits m s ++ all_tendon_limits m l) (all_edges m x cs) _ c.all_edges_count.result
    (together (all_equalities m s ++ all_frictions m ++ all_joint_limits m s) (all_tendon_limits m l) _ c.tendon_limit_count.result
    (together (all_equalities m s ++ all_frictions m) (all_joint_limits m s) _ c.joint_limit_count.result
    (together (all_equalities m s) (all_frictions m) c.len.result c.friction_count.result
    (c.len.ensures ∙ sym (count_ones (length m.equalities) (equality_of m s))) c.friction_count.ensures.value)
    c.joint_limit_count.ensures.value) c.tendon_limit_count.ensures.value) (c.all_edges_count.ensures.value x)
