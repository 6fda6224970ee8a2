-- An assembly reads of the dynamics what stands at the dofs alone: where two agree there, so do the rows, the dual and the fault.
use Rattle.std.proofs.Common.{◌≡◌, ℕ, ◌+◌, ◌-◌, ◌^◌, ◌<◌, ℤ, pos, ◌-ℤ◌, ◌*ℤ◌, Bool, not, cond, List, length, map, Option, None, refl, ap, ap₂, ◌∙◌, arith}
use Rattle.std.proofs.Math.Path.{fun_ext}
use Rattle.fx_whole.specs.Counting.{count_to}
use Rattle.fx_whole.specs.Entries.{below}
use Rattle.fx_whole.specs.First.{or_first}
use Rattle.fx_whole.proofs.FirstLaws.{first_ext}
use Rattle.fx_whole.proofs.SumLaws.{sum_to-ext}
use Rattle.fx_num.specs.Settled.{settled_mid}
use Rattle.mj_types.specs.declared.model.Model.{Model}
use Rattle.mj_types.specs.declared.parts.Soft.{Soft}
use Rattle.mj_types.specs.declared.range.OutOfRange.{OutOfRange}
use Rattle.mj_types.specs.declared.range.Quantity.TheVariants as kind
use Rattle.mj_types.specs.Ranges.{limited}
use Rattle.mj_factor.specs.Solves as solves
use Rattle.mj_factor.proofs.ReadLaws.{back-reads}
use Rattle.mj_rows.specs.Constraint.{Constraint, row_of, row_fault}
use Rattle.mj_imp.specs.Impedance.{impedance}
use Rattle.mj_imp.specs.Reference.{reference, reference_over}
use Rattle.mj_dual.specs.Products.{square_sum, along}
use Rattle.mj_dual.specs.Actives.{of_row, regularizer}
use Rattle.mj_dual.specs.Reductions.{Dynamics, AreSame, diagonal, is_idle, reduction_fault}
use Rattle.mj_dual.specs.Passing.{passing}
use Rattle.mj_dual.specs.Entries.{Entry, dual_from}
use Rattle.mj_dual.specs.Assembly.{constraint, is_left_out, entry_of, constraint_fault, row_list, is_active, entry_at_place, dual_of, rows_fault, assembly_fault}
use Rattle.mj_dual.proofs.EntryLaws.{same_below, same_values}

abbrev acting : ℕ → (ℕ → ℕ → ℤ) → (ℕ → ℤ) → (ℕ → ℤ) → (ℕ → ℤ) → Dynamics
acting n l d v a = record { motion = record { dofs = n; velocity = v; smooth = a }; lower = l; pivot = d }

-- the first fault of a reduction, from what it reads
abbrev fault_from : ℕ → Soft → ℤ → Option OutOfRange → ℤ → ℤ → ℤ → Option OutOfRange
fault_from row s r half diag jv ja =
    or_first (of_row kind.Reduced row half)
    (or_first (limited kind.Regularizer row (2 ^ 72) diag)
    (cond (is_idle diag) None
    (or_first (limited kind.Regularizer row (2 ^ 72) (regularizer diag (impedance s r)))
    (or_first
    (or_first (limited kind.Reference row (2 ^ 54) jv) (of_row kind.Reference row (reference_over s (impedance s r) r jv)))
    (or_first (limited kind.DualVector row (2 ^ 56) ja) (limited kind.DualVector row (2 ^ 56) (ja -ℤ reference s (impedance s r) r jv)))))))

along-reads : (n : ℕ) (j v w : ℕ → ℤ) → ((k : ℕ) → k < n → v k ≡ w k) → along n j v ≡ along n j w
unfolding along
along-reads n j v w same = ap (λ x. settled_mid x 32) (sum_to-ext n (λ k. j k *ℤ v k) (λ k. j k *ℤ w k) (λ k h. ap (λ x. j k *ℤ x) (same k h)))

square-reads : (n : ℕ) (g h : ℕ → ℤ) → ((k : ℕ) → k < n → g k ≡ h k) → square_sum n g ≡ square_sum n h
unfolding square_sum
square-reads n g h same = sum_to-ext n (λ k. g k *ℤ g k) (λ k. h k *ℤ h k) (λ k p. ap (λ x. x *ℤ x) (same k p))

-- duals of the same rows
dual_from-same : (nv n : ℕ) (p q : ℕ → Bool) (e f : ℕ → Entry) → ((i : ℕ) → p i ≡ q i) → ((i j : ℕ) → j < nv → (e i).g j ≡ (f i).g j) → ((i : ℕ) → (e i).r ≡ (f i).r)
    → ((i : ℕ) → (e i).b ≡ (f i).b) → ((i : ℕ) → (e i).low ≡ (f i).low) → ((i : ℕ) → (e i).high ≡ (f i).high) → dual_from nv n p e ≡ dual_from nv n q f
dual_from-same nv n p q e f tests g r b low high =
    ap (λ (t : ℕ → Bool). dual_from nv n t e) (fun_ext tests)
    ∙ same_values _ _ _ _ _ _ _ _ _ _ _ _ _ _ _ _ refl refl
    (same_below (λ k. pos 0) (count_to n q) (count_to n q) (λ i. below (pos 0) nv (e (passing n q i)).g) (λ i. below (pos 0) nv (f (passing n q i)).g) refl
    (λ k h. same_below (pos 0) nv nv (e (passing n q k)).g (f (passing n q k)).g refl (λ j l. g (passing n q k) j l)))
    (same_below (pos 0) (count_to n q) (count_to n q) (λ k. (e (passing n q k)).r) (λ k. (f (passing n q k)).r) refl (λ k h. r (passing n q k)))
    (same_below (pos 0) (count_to n q) (count_to n q) (λ k. (e (passing n q k)).b) (λ k. (f (passing n q k)).b) refl (λ k h. b (passing n q k)))
    (same_below None (count_to n q) (count_to n q) (λ k. (e (passing n q k)).low) (λ k. (f (passing n q k)).low) refl (λ k h. low (passing n q k)))
    (same_below None (count_to n q) (count_to n q) (λ k. (e (passing n q k)).high) (λ k. (f (passing n q k)).high) refl (λ k h. high (passing n q k)))
    refl

module _ (n : ℕ) (l m : ℕ → ℕ → ℤ) (d e v w a b : ℕ → ℤ) (lower_ : (k i : ℕ) → k < n → i < k → l k i ≡ m k i) (pivot_ : (k : ℕ) → k < n → d k ≡ e k)
    (velocity_ : (k : ℕ) → k < n → v k ≡ w k) (smooth_ : (k : ℕ) → k < n → a k ≡ b k) where
  one : Dynamics
  one = acting n l d v a

  two : Dynamics
  two = acting n m e w b

  halves : (j : ℕ → ℤ) (k : ℕ) → k < n → solves.half n l d j k ≡ solves.half n m e j k
  halves j k h = ap₂ solves.reduced (back-reads n l m d e j j lower_ pivot_ (λ i p. refl) k h) (pivot_ k h)

  diagonals : (j : ℕ → ℤ) → diagonal (acting n l d v a) j ≡ diagonal (acting n m e w b) j
  diagonals j = square-reads n (solves.half n l d j) (solves.half n m e j) (halves j)

  half_faults : (j : ℕ → ℤ) → solves.half_fault n l d j ≡ solves.half_fault n m e j
  half_faults j =
      first_ext n (λ s. solves.reduced_fault (n - 1 - s) (solves.back n l j (n - 1 - s)) (solves.half n l d j (n - 1 - s)))
      (λ s. solves.reduced_fault (n - 1 - s) (solves.back n m j (n - 1 - s)) (solves.half n m e j (n - 1 - s)))
      (λ s h. ap₂ (solves.reduced_fault (n - 1 - s)) (back-reads n l m d e j j lower_ pivot_ (λ i p. refl) (n - 1 - s) (omega arith)) (halves j (n - 1 - s) (omega arith)))

  faults : (row : ℕ) (s : Soft) (r : ℤ) (j : ℕ → ℤ) → reduction_fault row (acting n l d v a) s r j ≡ reduction_fault row (acting n m e w b) s r j
  faults row s r j =
      ap (λ x. fault_from row s r x (diagonal (acting n l d v a) j) (along n j v) (along n j a)) (half_faults j)
      ∙ ap (λ x. fault_from row s r (solves.half_fault n m e j) x (along n j v) (along n j a)) (diagonals j)
      ∙ ap (λ x. fault_from row s r (solves.half_fault n m e j) (diagonal (acting n m e w b) j) x (along n j a)) (along-reads n j v w velocity_)
      ∙ ap (λ x. fault_from row s r (solves.half_fault n m e j) (diagonal (acting n m e w b) j) (along n j w) x) (along-reads n j a b smooth_)

  left_out : (c : Constraint) → is_left_out (acting n l d v a) c ≡ is_left_out (acting n m e w b) c
  left_out c = ap is_idle (diagonals c.jacobian)

  pub rows-same : (cs : List Constraint) → row_list (acting n l d v a) cs ≡ row_list (acting n m e w b) cs
  rows-same cs = ap (λ f. map f cs) (fun_ext (λ c. ap (λ i. row_of i c) (left_out c)))

  pub faults-same : (cs : List Constraint) → rows_fault (acting n l d v a) cs ≡ rows_fault (acting n m e w b) cs
  unfolding constraint_fault
  faults-same cs =
      first_ext (length cs) (λ i. constraint_fault (i + 1) (acting n l d v a) (constraint cs i)) (λ i. constraint_fault (i + 1) (acting n m e w b) (constraint cs i))
      (λ i h. (let c = constraint cs i in ap (or_first (row_fault n (i + 1) c)) (faults (i + 1) c.soft c.r c.jacobian)))

  pub dual-same : (cs : List Constraint) → dual_of (acting n l d v a) cs ≡ dual_of (acting n m e w b) cs
  unfolding entry_of
  dual-same cs =
      dual_from-same n (length cs) (is_active (acting n l d v a) cs) (is_active (acting n m e w b) cs) (entry_at_place (acting n l d v a) cs) (entry_at_place (acting n m e w b) cs)
      (λ i. ap not (left_out (constraint cs i)))
      (λ i j h. halves (constraint cs i).jacobian j h)
      (λ i. ap (λ x. regularizer x (impedance (constraint cs i).soft (constraint cs i).r)) (diagonals (constraint cs i).jacobian))
      (λ i. (let c = constraint cs i in ap₂ (λ x z. x -ℤ reference c.soft (impedance c.soft c.r) c.r z) (along-reads n c.jacobian a b smooth_) (along-reads n c.jacobian v w velocity_)))
      (λ i. refl)
      (λ i. refl)

-- ---- for all dynamics
module _ (y z : Dynamics) (same : AreSame y z) (cs : List Constraint) where
  last : acting y.motion.dofs z.lower z.pivot z.motion.velocity z.motion.smooth ≡ z
  last = ap (λ (n : ℕ). acting n z.lower z.pivot z.motion.velocity z.motion.smooth) same.dofs

  pub row_list-reads : row_list y cs ≡ row_list z cs
  row_list-reads =
      rows-same y.motion.dofs y.lower z.lower y.pivot z.pivot y.motion.velocity z.motion.velocity y.motion.smooth z.motion.smooth same.lower same.pivot same.velocity same.smooth cs
      ∙ ap (λ x. row_list x cs) last

  pub dual_of-reads : dual_of y cs ≡ dual_of z cs
  dual_of-reads =
      dual-same y.motion.dofs y.lower z.lower y.pivot z.pivot y.motion.velocity z.motion.velocity y.motion.smooth z.motion.smooth same.lower same.pivot same.velocity same.smooth cs
      ∙ ap (λ x. dual_of x cs) last

  pub assembly_fault-reads : (m : Model) → assembly_fault m y cs ≡ assembly_fault m z cs
  assembly_fault-reads m =
      ap (or_first _)
      (faults-same y.motion.dofs y.lower z.lower y.pivot z.pivot y.motion.velocity z.motion.velocity y.motion.smooth z.motion.smooth same.lower same.pivot same.velocity same.smooth cs
      ∙ ap (λ x. rows_fault x cs) last)
