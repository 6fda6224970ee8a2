-- The dual of lawful constraints is regular and holds the force 0.
use Rattle.std.proofs.Common.{◌≡◌, ℕ, ◌^◌, ◌<◌, false, ℤ, pos, ◌<ℤ◌, ◌≤ℤ◌, List, length, None, sym, subst, arith}
use Rattle.std.specs.List.{All}
use Rattle.std.proofs.lemmas.Bool.{not-true}
use Rattle.std.proofs.lemmas.Int.{ints}
use Rattle.std.proofs.lemmas.List.Elements.{All-get_or}
use Rattle.fx_whole.specs.Counting.{count_to}
use Rattle.fx_whole.proofs.EntryLaws.{below-within}
use Rattle.mj_optimum.specs.Problem.{IsRegular}
use Rattle.mj_optimum.specs.Feasible.{IsAbove, IsBelow, HoldsZero}
use Rattle.mj_optimum.proofs.Tests.{int_lt_false}
use Rattle.mj_types.specs.declared.model.Model.{Model}
use Rattle.mj_types.specs.declared.state.State.{State}
use Rattle.mj_types.specs.Placed.{Placing}
use Rattle.mj_contact.specs.Lists.{contact_list}
use Rattle.mj_rows.specs.Constraint.{Constraint}
use Rattle.mj_rows.specs.Constraints.{constraints}
use Rattle.mj_imp.specs.Impedance.{impedance}
use Rattle.mj_dual.specs.Assembly.{no_constraint, constraint, is_left_out, is_active, entry_of, entry_at_place, dual_of}
use Rattle.mj_dual.specs.Passing.{passing}
use Rattle.mj_dual.specs.Reductions.{Dynamics, diagonal}
use Rattle.mj_dual.proofs.PassingLaws.{passing-below, passing-passes}
use Rattle.mj_dual.proofs.RegularLaws.{impedance_high, regular}
use Rattle.mj_dual.specs.Lawful.{IsLawful}
use Rattle.mj_dual.proofs.ConstraintLaws.{constraints-lawful}
use Rattle.mj_dual.proofs.ImpedanceLaws.{impedance-between, impedance-some}

-- ---- one constraint that isn't left out
entry-regular : (y : Dynamics) (c : Constraint) → IsLawful c → is_left_out y c ≡ false → pos 0 <ℤ (entry_of y c).r
unfolding entry_of
entry-regular y c h e =
    let d = impedance c.soft c.r in
    let between = impedance-between c.soft c.r h.soft_ in
    let some : pos (2 ^ 28) ≤ℤ diagonal y c.jacobian = int_lt_false (diagonal y c.jacobian) (pos (2 ^ 28)) e in
    let one = regular (diagonal y c.jacobian) d some (impedance-some c.soft d h.soft_ between) (impedance_high c.soft d h.soft_ between) in
    omega (arith, ints, one)

entry-above : (y : Dynamics) (c : Constraint) → IsLawful c → IsAbove (entry_of y c).low (pos 0) (pos 1)
unfolding entry_of
entry-above y c h = h.low_bound

entry-below : (y : Dynamics) (c : Constraint) → IsLawful c → IsBelow (entry_of y c).high (pos 0) (pos 1)
unfolding entry_of
entry-below y c h = h.high_bound

-- ---- the rows that aren't left out
module _ (y : Dynamics) (cs : List Constraint) (all : All IsLawful cs) where
  abbrev count : ℕ
  count = count_to (length cs) (is_active y cs)

  abbrev place : ℕ → ℕ
  place k = passing (length cs) (is_active y cs) k

  lawful-at : (k : ℕ) → k < count → IsLawful (constraint cs (place k))
  lawful-at k h = All-get_or IsLawful cs (place k) no_constraint (passing-below (length cs) (is_active y cs) k h) all

  regular-at : (k : ℕ) → k < count → pos 0 <ℤ (entry_at_place y cs (place k)).r
  regular-at k h =
      entry-regular y (constraint cs (place k)) (lawful-at k h)
      (not-true (is_left_out y (constraint cs (place k))) (passing-passes (length cs) (is_active y cs) k h))

  pub dual-regular : IsRegular (dual_of y cs).problem
  dual-regular k h =
      subst (λ (n : ℤ). pos 0 <ℤ n) (sym (below-within (pos 0) count (λ i. (entry_at_place y cs (place i)).r) k h)) (regular-at k h)

  pub dual-zero : HoldsZero (dual_of y cs).problem
  dual-zero = record {
    above = λ k h. subst (λ o. IsAbove o (pos 0) (pos 1)) (sym (below-within None count (λ i. (entry_at_place y cs (place i)).low) k h))
        (entry-above y (constraint cs (place k)) (lawful-at k h));
    below = λ k h. subst (λ o. IsBelow o (pos 0) (pos 1)) (sym (below-within None count (λ i. (entry_at_place y cs (place i)).high) k h))
        (entry-below y (constraint cs (place k)) (lawful-at k h));
  }

-- ---- of each state
pub state_dual-regular : (m : Model) (s : State) (x : Placing) (lengths : ℕ → ℤ) (y : Dynamics) → IsRegular (dual_of y (constraints m s x lengths (contact_list m x))).problem
state_dual-regular m s x lengths y = dual-regular y (constraints m s x lengths (contact_list m x)) (constraints-lawful m s x lengths)

pub state_dual-zero : (m : Model) (s : State) (x : Placing) (lengths : ℕ → ℤ) (y : Dynamics) → HoldsZero (dual_of y (constraints m s x lengths (contact_list m x))).problem
state_dual-zero m s x lengths y = dual-zero y (constraints m s x lengths (contact_list m x)) (constraints-lawful m s x lengths)
