use Rattle.std.proofs.Common.{sym, subst}
use Rattle.mj_types.specs.declared.parts.Soft.{Soft}
use Rattle.mj_types.specs.Lawful.{IsSoft}
use Rattle.mj_rows.proofs.MixLaws.{mixed_soft}
use Rattle.mj_rows.proofs.mixing.mixed.Goals as goal

pub returns-clause-soft : goal.returns-clause-soft
returns-clause-soft c =
    subst (λ (x : Soft). IsSoft x) (sym c.blended.ensures) (mixed_soft c.args.s.now c.args.t.now c.requires.first c.requires.second)
