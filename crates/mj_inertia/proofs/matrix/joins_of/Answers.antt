use Rattle.std.proofs.Common.{◌≡◌, ℕ, false, ◌+◌, ◌-◌, ◌<◌, ◌==◌, length, ap, sym, ◌∙◌, subst, arith, inl, inr, get_or-set_other, get_or-set_same, slice_index_or, slice_set}
use Rattle.std.proofs.Math.ListN.{length-set}
use Rattle.std.proofs.lemmas.Bool.{cases_eq}
use Rattle.mj_tree.specs.Tree.{at_or_above}
use Rattle.mj_types.specs.declared.parts.Dof.{Dof}
use Rattle.mj_types.specs.Parts.{no_dof, parent_of, body_of}
use Rattle.mj_inertia.specs.MassEntries.{joins}
use Rattle.mj_inertia.proofs.MassLaws.{joins-by_bodies, bodies-order, climb-meets}
use Rattle.mj_inertia.proofs.matrix.joins_of.Goals as goal

pub loop-s-preserved : goal.loop-s-preserved
loop-s-preserved c =
    let m = c.args.model.now in
    let parent = parent_of m.bodies in
    let i : ℕ = c.args.j - c.loop-s.s in
    let body : ℕ = c.at-body.result.body in
    let own : body ≡ body_of m.dofs i = ap (λ (x : Dof). x.body) (sym (c.at-body.ensures no_dof)) in
    let here : i < length c.loop-s.joins = omega (arith, c.loop-s.invariant.width, m.of_joints.few) in
    let mark : (c.climb-at.result == body) ≡ joins m i c.args.j
    = climb-meets m body c.climb-at.result c.climb-at.ensures.low ∙ c.climb-at.ensures.same body (omega arith)
    ∙ c.loop-s.invariant.same body (omega arith) ∙ ap (λ (b : ℕ). at_or_above parent b (body_of m.dofs c.args.j)) own ∙ sym (joins-by_bodies m i c.args.j (omega arith)) in
    record {
      width = length-set c.loop-s.joins i (c.climb-at.result == body) ∙ c.loop-s.invariant.width;
      there = c.climb-at.ensures.there;
      same = λ b h. (
          let later = bodies-order m (c.args.j - (c.loop-s.s + 1)) i (omega arith) (omega arith) in
          c.climb-at.ensures.same b (omega (arith, own, later)) ∙ c.loop-s.invariant.same b (omega (arith, later)));
      marked = λ k p q. elim (cases_eq k i) [
        | inl e ↦ subst (λ (n : ℕ). slice_index_or (slice_set c.loop-s.joins i (c.climb-at.result == body)) n false ≡ joins m n c.args.j) (sym e) (get_or-set_same c.loop-s.joins i (c.climb-at.result == body) false here ∙ mark)
        | inr e ↦ get_or-set_other c.loop-s.joins i k (c.climb-at.result == body) false e ∙ c.loop-s.invariant.marked k p (omega arith)
      ];
    }
