-- The rows and the dual that an assembly gives are those of the state.
use Rattle.std.proofs.Common.{◌≡◌, ℕ, ℤ, List, refl, ap, ◌∙◌, subst}
use Rattle.mj_contact.specs.Lists.{contact_list}
use Rattle.mj_dual.specs.Assembly.{row_list, dual_of, assembly_fault, HasJacobians}
use Rattle.mj_dual.specs.Reductions.{Dynamics, AreSame, dynamics}
use Rattle.mj_dual.proofs.ReadLaws.{row_list-reads, dual_of-reads, assembly_fault-reads}
use Rattle.mj_kin.specs.Placings.{placing}
use Rattle.mj_rows.specs.Constraint.{Constraint}
use Rattle.mj_rows.specs.Constraints.{constraints, constraints_of}
use Rattle.mj_types.specs.declared.carriers.Applied.{Applied}
use Rattle.mj_types.specs.declared.carriers.Contact.{Contact}
use Rattle.mj_types.specs.declared.carriers.Contacts.{Contacts}
use Rattle.mj_types.specs.declared.carriers.Factor.{Factor}
use Rattle.mj_types.specs.declared.carriers.Frames.{Frames}
use Rattle.mj_types.specs.declared.dual.Dual.{Dual}
use Rattle.mj_types.specs.declared.model.Model.{Model}
use Rattle.mj_types.specs.declared.rows.Rows.{Rows}
use Rattle.mj_types.specs.declared.state.State.{State}
use Rattle.mj_types.specs.Control.{Control}
use Rattle.mj_types.specs.Parts.{number_at}
use Rattle.mj_types.specs.Placed.{Placing, placing_of}
use Rattle.mj_types.specs.Problems.{IsSolvable}
use Rattle.mj_types.specs.StepValues.{active_count, dual_values}
use Rattle.mj_step.specs.Steps.{smooth, constraints_at, dynamics_of, rows_at, dual_at}
use Rattle.mj_step.specs.Workspace.{HasFrames, HasApplied, HasFactor, HasRows}

-- the constraints that carriers hold are the state's
pub constraints-are : (m : Model) (s : State) (f : Frames) (a : Applied) (c : Contacts) → HasFrames m s f → HasApplied m s a
    → c.list.list ≡ contact_list m (placing_of f) → constraints_of m s f a c ≡ constraints_at m s
unfolding constraints_at
constraints-are m s f a c frames applied list =
    ap (λ (cs : List Contact). constraints m s (placing_of f) (number_at a.length) cs) list
    ∙ ap (λ (x : Placing). constraints m s x (number_at a.length) (contact_list m x)) frames.values
    ∙ ap (λ (l : ℕ → ℤ). constraints m s (placing m s) l (contact_list m (placing m s))) applied.lengths

-- the stored factor and the smooth acceleration are the state's at its dofs
pub same_dynamics : (m : Model) (s : State) (u : List Control) (f : Factor) (x : List Control) → HasFactor m s f → number_at x ≡ smooth m s u
    → AreSame (dynamics m s f x) (dynamics_of m s u)
unfolding dynamics_of
same_dynamics m s u f x has value = record {
  dofs = refl;
  lower = has.lowers;
  pivot = has.pivots;
  velocity = λ k h. refl;
  smooth = λ k h. ap (λ (g : ℕ → ℤ). g k) value;
}

module _ (m : Model) (s : State) (u : List Control) (y : Dynamics) (cs : List Constraint) (same : AreSame y (dynamics_of m s u)) (here : cs ≡ constraints_at m s) where
  pub assembly_fault-is : assembly_fault m y cs ≡ assembly_fault m (dynamics_of m s u) (constraints_at m s)
  assembly_fault-is = ap (assembly_fault m y) here ∙ assembly_fault-reads y (dynamics_of m s u) same (constraints_at m s) m

  pub rows-are : (rows : Rows) (d : Dual) → rows.list.list ≡ row_list y cs → HasJacobians m.nv cs rows.jac.list → dual_values d ≡ dual_of y cs
      → d.m ≡ active_count rows.list.list → IsSolvable d → HasRows m s u rows d
  unfolding rows_at dual_at
  rows-are rows d list jacobians dual_ count solvable = record {
    list = list ∙ ap (row_list y) here ∙ row_list-reads y (dynamics_of m s u) same (constraints_at m s);
    jacobians = subst (λ (c : List Constraint). HasJacobians m.nv c rows.jac.list) here jacobians;
    dual_ = dual_ ∙ ap (dual_of y) here ∙ dual_of-reads y (dynamics_of m s u) same (constraints_at m s);
    count = count;
    solvable = solvable;
  }
