use Rattle.std.proofs.Common.{pos, ◌≤ℤ◌, ◌^◌, ap, subst, ℤ}
use Rattle.mj_types.specs.Parts.{plain}
use Rattle.mj_factor.proofs.passes.forth_number.Goals as goal

pub over_pivot-over-requires : goal.over_pivot-over-requires
over_pivot-over-requires c =
    subst (λ (x : ℤ). pos (2 ^ 10) ≤ℤ x) (ap (λ x. x.mid) (c.entry.ensures (plain (pos 0)))) (c.requires.factor.least c.args.i c.requires.dof)
