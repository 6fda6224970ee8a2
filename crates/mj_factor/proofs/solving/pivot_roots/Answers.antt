use Rattle.std.proofs.Common.{◌≡◌, ℕ, pos, subst, ap, ◌∙◌, sym, arith, inl, inr}
use Rattle.std.proofs.lemmas.Bool.{cases_eq}
use Rattle.mj_types.specs.Parts.{number_at, plain}
use Rattle.mj_factor.specs.Solves.{pivot_root}
use Rattle.mj_factor.proofs.solving.pivot_roots.Goals as goal

pub loop-k-preserved : goal.loop-k-preserved
loop-k-preserved c = record {
  width = c.put.ensures.len ∙ c.loop-k.invariant.width;
  done = λ j h. elim (cases_eq j c.loop-k.k) [
    | inl e ↦ subst (λ (i : ℕ). number_at c.put.new.self i ≡ pivot_root (number_at c.args.factor.now.d i)) (sym e)
        (ap (λ x. x.mid) (c.put.ensures.same (plain (pos 0))) ∙ c.root_of.ensures)
    | inr e ↦ ap (λ x. x.mid) (c.put.ensures.others (plain (pos 0)) j e) ∙ c.loop-k.invariant.done j (omega arith)
  ];
}
