use Rattle.std.proofs.Common.{◌≡◌, ℕ, ◌-◌, ◌^◌, ap, ◌∙◌, sym, subst, IfOk}
use Rattle.fx_whole.specs.First.{refusal_of}
use Rattle.fx_vec.specs.Spatial.{inertia_times}
use Rattle.fx_vec.specs.Views.{inertia, spatial, spatial_radii}
use Rattle.mj_types.specs.declared.parts.Dof.{Dof}
use Rattle.mj_types.specs.Parts.{no_dof, no_inertia, body_of}
use Rattle.mj_types.specs.Placed.{WithinInertia, inertia_at, spatial_at}
use Rattle.mj_inertia.specs.MassEntries.{momentum, momentum_radius, momentum_fault}
use Rattle.mj_inertia.specs.Written.{joint_momentum}
use Rattle.mj_inertia.proofs.MassLaws.{body_place}
use Rattle.mj_inertia.proofs.matrix.momentum_of.Goals as goal

here : (c : goal.After-entry) → inertia c.entry.result.now ≡ inertia_at c.args.composite.now.list (body_of c.args.model.now.dofs c.args.j - 1)
here c =
    ap inertia (sym (c.entry.ensures no_inertia))
    ∙ ap (λ (b : ℕ). inertia_at c.args.composite.now.list (b - 1)) (ap (λ (x : Dof). x.body) (sym (c.at-body.ensures no_dof)))

pub momentum-requires-clause-inertia : goal.momentum-requires-clause-inertia
momentum-requires-clause-inertia c =
    subst (λ i. WithinInertia i (2 ^ 69)) (sym (here c))
    (c.requires.composite.small (body_of c.args.model.now.dofs c.args.j - 1) (body_place c.args.model.now c.args.j c.requires.dof))

is : (c : goal.After-momentum) → inertia_times (inertia c.entry.result.now) (spatial_at c.args.column.now c.args.j)
    ≡ joint_momentum c.args.model.now (spatial_at c.args.column.now) c.args.composite.now c.args.j
unfolding joint_momentum
is c =
    ap (λ i. inertia_times i (spatial_at c.args.column.now c.args.j))
    (ap inertia (sym (c.entry.ensures no_inertia))
    ∙ ap (λ (b : ℕ). inertia_at c.args.composite.now.list (b - 1)) (ap (λ (x : Dof). x.body) (sym (c.at-body.ensures no_dof))))

pub returns-clause-mid : goal.returns-clause-mid
returns-clause-mid c = subst (λ s. IfOk c.momentum.result (λ h. spatial h ≡ momentum s)) (is c) c.momentum.ensures.mid

pub returns-clause-rad : goal.returns-clause-rad
returns-clause-rad c = subst (λ s. IfOk c.momentum.result (λ h. spatial_radii (λ (r : ℕ). r) h ≡ momentum_radius s)) (is c) c.momentum.ensures.rad

pub returns-clause-first : goal.returns-clause-first
returns-clause-first c = subst (λ s. refusal_of c.momentum.result ≡ momentum_fault s c.args.j) (is c) c.momentum.ensures.first
