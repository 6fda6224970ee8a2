use Rattle.std.proofs.Common.{◌+◌, ◌∙◌, ap, inl, inr, pos, arith}
use Rattle.std.proofs.lemmas.Bool.{cases_eq}
use Rattle.mj_types.specs.Parts.{plain}
use Rattle.mj_types.proofs.dual.copy_into.Goals as goal

pub loop-k-preserved : goal.loop-k-preserved
loop-k-preserved c =
    let inv = c.loop-k.invariant in (
      c.put.ensures.len ∙ inv.0,
      λ j h. elim (cases_eq j c.loop-k.k) [
        | inl e ↦ rw e (ap (λ x. x.mid) (c.put.ensures.same (plain (pos 0))))
        | inr n ↦ ap (λ x. x.mid) (c.put.ensures.others (plain (pos 0)) (c.args.place + j) (λ e. n (omega arith))) ∙ inv.1 j (omega arith)
      ],
      λ j h. ap (λ x. x.mid) (c.put.ensures.others (plain (pos 0)) j (λ e. absurd (omega arith))) ∙ inv.2 j h,
    )
