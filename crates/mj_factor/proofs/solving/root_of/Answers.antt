use Rattle.std.proofs.Common.{ℤ, pos, ◌≤ℤ◌, ◌^◌, ap, subst}
use Rattle.mj_types.specs.Parts.{plain}
use Rattle.mj_factor.proofs.solving.root_of.Goals as goal

pub pivot_root-requires-clause-least : goal.pivot_root-requires-clause-least
pivot_root-requires-clause-least c =
    subst (λ (x : ℤ). pos (2 ^ 10) ≤ℤ x) (ap (λ x. x.mid) (c.entry.ensures (plain (pos 0)))) (c.requires.factor.least c.args.k c.requires.dof)

pub pivot_root-requires-clause-most : goal.pivot_root-requires-clause-most
pivot_root-requires-clause-most c =
    subst (λ (x : ℤ). x ≤ℤ pos (2 ^ 60)) (ap (λ x. x.mid) (c.entry.ensures (plain (pos 0)))) (c.requires.factor.most c.args.k c.requires.dof)
