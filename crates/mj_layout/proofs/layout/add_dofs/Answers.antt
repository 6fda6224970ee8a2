use Rattle.std.proofs.Common.{ℕ, ◌+◌, ◌++◌, ◌∷◌, [], ap, ◌∙◌}
use Rattle.fx_whole.proofs.JoinedLaws.{grow-none, grow-more}
use Rattle.mj_types.specs.declared.parts.Joint.{Joint}
use Rattle.mj_types.specs.declared.parts.Dof.{Dof}
use Rattle.mj_layout.proofs.layout.add_dofs.Goals as goal

abbrev with_base : ℕ → Joint → ℕ → ℕ → Dof
with_base number x i n = record { joint = number; part = i; body = x.body; base = x.dadr + n }

pub loop-i-init : goal.loop-i-init
loop-i-init c = grow-none _ _

pub loop-i-preserved : goal.loop-i-preserved
loop-i-preserved c = grow-more _ _ _ _ _ c.loop-i.invariant (c.in_ok-push.ensures.items ∙ ap (λ (n : ℕ). c.loop-i.dofs.items ++ with_base c.args.number c.args.x.now c.loop-i.i n ∷ []) c.first_part.ensures)
