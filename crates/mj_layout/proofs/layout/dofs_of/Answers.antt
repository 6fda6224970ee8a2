use Rattle.std.proofs.Common.{ℕ, ◌++◌, suc, ap, ◌∙◌, sym, add-one}
use Rattle.mj_types.specs.Parts.{no_joint}
use Rattle.mj_layout.specs.Layout.{dofs_on}
use Rattle.mj_layout.proofs.PlaceLaws.{joined-start, joined-grow}
use Rattle.mj_layout.proofs.layout.dofs_of.Goals as goal

pub loop-j-init : goal.loop-j-init
loop-j-init c = joined-start _ _ c.new-all.ensures.items

pub loop-j-preserved : goal.loop-j-preserved
loop-j-preserved c = joined-grow _ _ _ _ c.loop-j.invariant (c.in_ok-add_dofs.ensures ∙ ap (λ x. c.loop-j.all.items ++ x) (ap (λ (n : ℕ). dofs_on n c.entry.result.now) (add-one c.loop-j.j) ∙ ap (λ x. dofs_on (suc c.loop-j.j) x) (sym (c.entry.ensures no_joint))))
