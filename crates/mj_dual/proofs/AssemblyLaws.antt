-- The beginning and the end of an assembly.
use Rattle.std.proofs.Common.{◌≡◌, ℕ, not, List, [], length, Option, None, refl, sym, ap, ◌∙◌, arith}
use Rattle.std.proofs.lemmas.List.{get_or-map, length-map}
use Rattle.fx_whole.specs.Counting.{count_to}
use Rattle.fx_whole.proofs.CountLaws.{count_to-ext}
use Rattle.mj_types.specs.declared.dual.Dual.{Dual}
use Rattle.mj_types.specs.declared.model.Model.{Model}
use Rattle.mj_types.specs.declared.range.OutOfRange.{OutOfRange}
use Rattle.mj_types.specs.declared.rows.Row.{Row}
use Rattle.mj_types.specs.declared.rows.Rows.{Rows}
use Rattle.mj_types.specs.StepValues.{no_row, active_count, dual_values}
use Rattle.mj_types.specs.StepValues as values
use Rattle.mj_rows.specs.Constraint.{Constraint}
use Rattle.mj_dual.specs.Reductions.{Dynamics}
use Rattle.mj_dual.specs.Entries.{dual_from}
use Rattle.mj_dual.specs.Assembly.{no_constraint, listed_row, row_list, is_active, entry_at_place, dual_of, rows_fault}
use Rattle.mj_dual.specs.Taking.{HasTaken, HasAdded, faults_from}
use Rattle.mj_dual.proofs.EntryLaws.{entries-none, entries-whole}
use Rattle.mj_dual.proofs.TakingLaws.{faults-whole}

module _ (m : Model) (y : Dynamics) where
  -- nothing is taken yet
  pub taken-none : (rows : Rows) (d : Dual) → rows.list.list ≡ [] → rows.jac.list ≡ [] → d.m ≡ 0 → d.nv ≡ m.nv → HasTaken m y [] rows d
  taken-none rows d list jac empty wide = record {
    listed = list;
    jacobians = record { many = omega (arith, ap length jac); each = λ i k h. absurd (omega arith) };
    entries = entries-none m.nv (is_active y []) (entry_at_place y []) d wide empty;
  }

  -- all is taken
  pub taken-all : (cs : List Constraint) (old new : Rows) (d e : Dual) → old.list.list ≡ [] → old.jac.list ≡ [] → d.m ≡ 0 → d.nv ≡ m.nv
      → HasAdded m y cs None old new d e → HasTaken m y cs new e
  taken-all cs old new d e list jac empty wide added = added.taken refl [] (taken-none old d list jac empty wide)

  pub first-all : (cs : List Constraint) (old new : Rows) (d e : Dual) (r : Option OutOfRange) → old.list.list ≡ [] → HasAdded m y cs r old new d e → r ≡ rows_fault y cs
  first-all cs old new d e r list added = added.first ∙ ap (λ (xs : List Row). faults_from (length xs) y cs) list ∙ faults-whole y cs

  -- ---- what that is
  pub dual-whole : (cs : List Constraint) (rows : Rows) (d : Dual) → y.motion.dofs ≡ m.nv → HasTaken m y cs rows d → dual_values d ≡ dual_of y cs
  dual-whole cs rows d wide has =
      entries-whole m.nv (length cs) (is_active y cs) (entry_at_place y cs) d has.entries
      ∙ ap (λ (n : ℕ). dual_from n (length cs) (is_active y cs) (entry_at_place y cs)) (sym wide)

  pub count-whole : (cs : List Constraint) (rows : Rows) (d : Dual) → HasTaken m y cs rows d → d.m ≡ active_count rows.list.list
  count-whole cs rows d has =
      has.entries.count
      ∙ count_to-ext (length cs) (is_active y cs) (values.is_active (row_list y cs)) (λ i h. ap (λ (x : Row). not x.idle) (sym (get_or-map (listed_row y) cs i no_constraint no_row h)))
      ∙ ap (λ (n : ℕ). count_to n (values.is_active (row_list y cs))) (sym (length-map cs (listed_row y)))
      ∙ sym (ap active_count has.listed)
