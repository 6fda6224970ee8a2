-- What pushes on the dofs: the Jacobians of the dual's rows are found in the list of rows, each in its range.
use Rattle.std.proofs.Math.Path.{fun_ext}
use Rattle.std.proofs.lemmas.Bool.{cases_lt}
use Rattle.std.proofs.lemmas.Int.{ints}
use Rattle.std.proofs.Common.{◌≡◌, ℕ, suc, ◌+◌, ◌-◌, ◌*◌, ◌^◌, ◌<◌, ◌≤◌, ℤ, pos, ◌+ℤ◌, ◌-ℤ◌, ◌*ℤ◌, unsigned_abs, List, length, None, refl, sym, ap, ap₂, ◌∙◌, subst, inl, inr, arith, mul-le-mul_right}
use Rattle.fx_whole.specs.Counting.{count_to}
use Rattle.fx_whole.specs.Sums.{sum_to}
use Rattle.fx_whole.proofs.EntryLaws.{below-within, below-past, below-is}
use Rattle.fx_whole.proofs.FirstLaws.{or_both, first_none}
use Rattle.fx_whole.proofs.SumLaws.{sum_to-ext}
use Rattle.fx_whole.proofs.NearestLaws.{nearest-zero}
use Rattle.fx_num.specs.Settled.{settled_mid}
use Rattle.mj_types.specs.declared.dual.Dual.{Dual}
use Rattle.mj_types.specs.declared.dual.Forces.{Forces}
use Rattle.mj_types.specs.declared.model.Model.{Model}
use Rattle.mj_types.specs.declared.range.Quantity.TheVariants as kind
use Rattle.mj_types.specs.declared.rows.Rows.{Rows}
use Rattle.mj_types.specs.declared.state.State.{State}
use Rattle.mj_types.specs.Control.{Control}
use Rattle.mj_types.specs.Duals.{entry_at}
use Rattle.mj_types.specs.Parts.{number_at, plain}
use Rattle.mj_types.specs.Problems.{place, forces}
use Rattle.mj_types.specs.Ranges.{limited}
use Rattle.mj_types.specs.StepValues.{DualValues, dual_values}
use Rattle.mj_factor.proofs.RangeLaws.{limited_within}
use Rattle.mj_contact.specs.Lists.{contacts_fault}
use Rattle.mj_kin.specs.Placings.{placing}
use Rattle.mj_rows.specs.Constraint.{Constraint, row_fault}
use Rattle.mj_rows.specs.Constraints.{constraints_fault}
use Rattle.mj_dual.specs.Assembly as assembly
use Rattle.mj_dual.specs.Assembly.{constraint, constraint_fault, is_active, dual_of, assembly_fault}
use Rattle.mj_dual.specs.Passing.{passing}
use Rattle.mj_dual.specs.Reductions.{Dynamics, reduction_fault}
use Rattle.mj_dual.proofs.PassingLaws.{passing-below}
use Rattle.mj_passive.specs.Forces.{tau}
use Rattle.mj_step.specs.Steps.{bias_of, free_load, constraints_at, dynamics_of, dual_at, problem_at, force_at, row_jacobian, push_at, load, rows_fault}
use Rattle.mj_step.specs.Workspace.{HasRows, CanPush, push_of}

-- ---- the places of a dual's rows
pub rows-count : (d : Dual) (x : DualValues) → dual_values d ≡ x → d.m ≡ x.problem.m
rows-count d x e = ap (λ (v : DualValues). v.problem.m) e

pub place-is : (d : Dual) (x : DualValues) → dual_values d ≡ x → (k : ℕ) → k < d.m → place d k ≡ x.place k
place-is d x e k h = sym (below-within 0 d.m (place d) k h) ∙ ap (λ (v : DualValues). v.place k) e

place-there : (y : Dynamics) (cs : List Constraint) (k : ℕ) → k < (dual_of y cs).problem.m → (1 ≤ (dual_of y cs).place k) × ((dual_of y cs).place k ≤ length cs)
place-there y cs k h =
    let n = length cs in
    let p = is_active y cs in
    let e : (dual_of y cs).place k ≡ passing n p k + 1 = below-within 0 (count_to n p) (λ (k : ℕ). passing n p k + 1) k h in
    let l : passing n p k < n = passing-below n p k h in
    (omega (arith, e), omega (arith, e, l))

-- where entry i of the row before place p is in a table of rows
pub entry-there : (p nv i n : ℕ) → 1 ≤ p → p * nv ≤ n → i < nv → (p - 1) * nv + i < n
entry-there p nv i n some there h =
    let before : p ≡ suc (p - 1) = omega arith in
    let whole : p * nv ≡ suc (p - 1) * nv = ap (λ (k : ℕ). k * nv) before in
    omega (arith, whole)

-- ---- a Jacobian where no number of the rows is out of range
jacobian-small : (y : Dynamics) (cs : List Constraint) (i k : ℕ) → assembly.rows_fault y cs ≡ None → i < length cs → k < y.motion.dofs
    → unsigned_abs ((constraint cs i).jacobian k) ≤ 2 ^ 48
unfolding constraint_fault
jacobian-small y cs i k none h l =
    let c = constraint cs i in
    let n = y.motion.dofs in
    let here : constraint_fault (i + 1) y c ≡ None = (first_none (length cs) (λ (i : ℕ). constraint_fault (i + 1) y (constraint cs i))).0 none i h in
    let row = or_both (row_fault n (i + 1) c) (reduction_fault (i + 1) y c.soft c.r c.jacobian) here in
    let levers = or_both _ _ row.0 in
    let slopes = or_both _ _ levers.1 in
    limited_within kind.Jacobian (i + 1) (2 ^ 48) (c.jacobian k) ((first_none n (λ (d : ℕ). limited kind.Jacobian (i + 1) (2 ^ 48) (c.jacobian d))).0 slopes.1 k l)

rows-fine : (m : Model) (s : State) (u : List Control) → rows_fault m s u ≡ None → assembly.rows_fault (dynamics_of m s u) (constraints_at m s) ≡ None
unfolding rows_fault
rows-fine m s u none =
    (or_both (constraints_fault m (constraints_at m s)) (assembly.rows_fault (dynamics_of m s u) (constraints_at m s))
    (or_both (contacts_fault m (placing m s)) (assembly_fault m (dynamics_of m s u) (constraints_at m s)) none).1).1

dofs-are : (m : Model) (s : State) (u : List Control) → (dynamics_of m s u).motion.dofs ≡ m.nv
unfolding dynamics_of
dofs-are m s u = refl

-- what pushes, where its carriers are copied
pub can_push-same : (nv : ℕ) (rows rows' : Rows) (d d' : Dual) (x x' : Forces) → rows' ≡ rows → d' ≡ d → x' ≡ x → CanPush nv rows d x → CanPush nv rows' d' x'
can_push-same nv rows rows' d d' x x' e f g h = rw (e, f, g) h

module _ (m : Model) (s : State) (u : List Control) (rows : Rows) (d : Dual) (has : HasRows m s u rows d) where
  -- row k of the dual has its place in the list
  pub there : (k : ℕ) → k < d.m → (1 ≤ place d k) × (place d k ≤ length (constraints_at m s))
  unfolding dual_at
  there k h =
      let e : place d k ≡ (dual_at m s u).place k = place-is d (dual_at m s u) has.dual_ k h in
      let n : d.m ≡ (dual_at m s u).problem.m = rows-count d (dual_at m s u) has.dual_ in
      let t = place-there (dynamics_of m s u) (constraints_at m s) k (omega (arith, n, h)) in
      (omega (arith, e, t.0), omega (arith, e, t.1))

  -- and its Jacobian there
  pub jacobian-is : (k i : ℕ) → k < d.m → i < m.nv → entry_at m.nv rows.jac.list (place d k - 1) i ≡ (constraint (constraints_at m s) (place d k - 1)).jacobian i
  jacobian-is k i h l = (let t = there k h in has.jacobians.each (place d k - 1) i (omega (arith, t.0, t.1)) l)

  pub can_push : (x : Forces) → rows_fault m s u ≡ None → d.m ≤ length x.f → forces x ≡ force_at m s u
      → ((k : ℕ) → k < (problem_at m s u).m → unsigned_abs (force_at m s u k) ≤ 2 ^ 50) → CanPush m.nv rows d x
  can_push x none room same small = record {
    some_place = λ k h. (there k h).0;
    place_there = λ k h. (let more : place d k * m.nv ≤ length (constraints_at m s) * m.nv = mul-le-mul_right m.nv (there k h).1 in omega (arith, more, has.jacobians.many));
    small = λ k i h l.
        (let t = there k h in
        subst (λ (z : ℤ). unsigned_abs z ≤ 2 ^ 48) (sym (jacobian-is k i h l))
        (jacobian-small (dynamics_of m s u) (constraints_at m s) (place d k - 1) i (rows-fine m s u none) (omega (arith, t.0, t.1)) (omega (arith, dofs-are m s u, l))));
    f_room = room;
    forces_ = λ k h. subst (λ (f : ℕ → ℤ). unsigned_abs (f k) ≤ 2 ^ 50) (sym same) (small k (omega (arith, rows-count d (dual_at m s u) has.dual_, h)));
  }

  pushes : (x : Forces) → forces x ≡ force_at m s u → (i : ℕ) → i < m.nv → push_of m.nv rows d x i ≡ push_at m s u i
  unfolding push_at
  pushes x same i l =
      ap (λ (n : ℕ). sum_to n (λ k. entry_at m.nv rows.jac.list (place d k - 1) i *ℤ forces x k)) (rows-count d (dual_at m s u) has.dual_)
      ∙ sum_to-ext (problem_at m s u).m (λ k. entry_at m.nv rows.jac.list (place d k - 1) i *ℤ forces x k) (λ k. row_jacobian m s u k i *ℤ force_at m s u k)
      (λ k h.
      let w : k < d.m = omega (arith, rows-count d (dual_at m s u) has.dual_, h) in
      ap₂ (λ (a b : ℤ). a *ℤ b)
      (jacobian-is k i w l ∙ ap (λ (p : ℕ). (constraint (constraints_at m s) (p - 1)).jacobian i) (place-is d (dual_at m s u) has.dual_ k w))
      (ap (λ (f : ℕ → ℤ). f k) same))

  -- the load at a dof
  pub loads : (x : Forces) → forces x ≡ force_at m s u → (free : List Control) → number_at free ≡ free_load m s u → (i : ℕ) → i < m.nv
      → number_at free i +ℤ settled_mid (push_of m.nv rows d x i) 20 ≡ load m s u i
  unfolding load
  loads x same free value i l =
      ap₂ (λ (a b : ℤ). a +ℤ settled_mid b 20) (ap (λ (f : ℕ → ℤ). f i) value) (pushes x same i l)
      ∙ sym (below-within (pos 0) m.nv (λ i. free_load m s u i +ℤ settled_mid (push_at m s u i) 20) i l)

  -- a dual without rows pushes nothing
  pub load-free : d.m ≡ 0 → load m s u ≡ free_load m s u
  unfolding load free_load push_at
  load-free none =
      let with : ℕ → ℤ = λ i. free_load m s u i +ℤ settled_mid (push_at m s u i) 20 in
      let free : ℕ → ℤ = λ i. tau m s u i -ℤ bias_of m s i in
      fun_ext (λ i. elim (cases_lt i m.nv) [
        | inl l ↦
            below-within (pos 0) m.nv with i l
            ∙ ap (λ (n : ℕ). free_load m s u i +ℤ settled_mid (sum_to n (λ k. row_jacobian m s u k i *ℤ force_at m s u k)) 20) (sym (rows-count d (dual_at m s u) has.dual_) ∙ none)
            ∙ ap (λ (x : ℤ). free_load m s u i +ℤ x) (nearest-zero (pos (2 ^ 20)))
            ∙ plus_none (free_load m s u i)
        | inr l ↦ below-past (pos 0) m.nv with i l ∙ sym (below-past (pos 0) m.nv free i l)
      ])
    where
      plus_none : (x : ℤ) → x +ℤ pos 0 ≡ x
      plus_none x = omega (arith, ints)

-- the loads of all dofs
pub load-whole : (m : Model) (s : State) (u : List Control) (x : List Control) → length x ≡ m.nv → ((i : ℕ) → i < m.nv → number_at x i ≡ load m s u i)
    → number_at x ≡ load m s u
unfolding load
load-whole m s u x many each =
    below-is (λ (x : Control). x.mid) (plain (pos 0)) x m.nv (λ i. free_load m s u i +ℤ settled_mid (push_at m s u i) 20) many
    (λ i h. each i h ∙ below-within (pos 0) m.nv (λ i. free_load m s u i +ℤ settled_mid (push_at m s u i) 20) i h)
