-- What the separated forces read: a row's Jacobian at the dofs alone, and of what a step gives the rows and the dofs that there are.
use Rattle.std.proofs.Common.{◌≡◌, ℕ, suc, ◌+◌, ◌-◌, ◌*◌, ◌<◌, ◌≤◌, ◌^◌, max, add-one, arith, ℤ, ◌+ℤ◌, ◌*ℤ◌, ◌-ℤ◌, unsigned_abs, ap, ap₂, ◌∙◌}
use Rattle.fx_whole.specs.First.{or_first, first_to}
use Rattle.fx_whole.proofs.FirstLaws.{first_ext}
use Rattle.fx_whole.proofs.SumLaws.{sum_to-ext}
use Rattle.fx_num.specs.Settled.{settled_mid}
use Rattle.mj_dual.specs.Products.{along}
use Rattle.mj_factor.specs.Residuals.{greatest_to, residual_at}
use Rattle.mj_factor.proofs.ReadLaws.{greatest-reads, residual-reads}
use Rattle.mj_types.specs.declared.range.Quantity.TheVariants as kind
use Rattle.mj_types.specs.Ranges.{limited}
use Rattle.mj_inverse.specs.Rows.{Motion, RowProblem, rate, pull, row_force, separate, row_fault}
use Rattle.mj_inverse.specs.Separated.{Given, force_of, gap, load, load_of, load_fault, discrepancy, inverse_fault}

pub greatest_more : (n : ℕ) (f : ℕ → ℕ) → greatest_to (n + 1) f ≡ max (greatest_to n f) (f n)
greatest_more n f = ap (λ (m : ℕ). greatest_to m f) (add-one n)

-- where entry i of the row before place p is in a table of rows
pub entry-there : (p nv i n : ℕ) → 1 ≤ p → p * nv ≤ n → i < nv → (p - 1) * nv + i < n
entry-there p nv i n some there h =
    let before : p ≡ suc (p - 1) = omega arith in
    let whole : p * nv ≡ suc (p - 1) * nv = ap (λ (k : ℕ). k * nv) before in
    omega (arith, whole)

-- ---- two rows that agree
module _ (y : Motion) (x w : RowProblem) (jacobian_ : (i : ℕ) → i < y.dofs → x.jacobian i ≡ w.jacobian i) (b_ : x.b ≡ w.b) where
  along_same : (a : ℕ → ℤ) → along y.dofs x.jacobian a ≡ along y.dofs w.jacobian a
  unfolding along
  along_same a =
      ap (λ s. settled_mid s 32) (sum_to-ext y.dofs (λ i. x.jacobian i *ℤ a i) (λ i. w.jacobian i *ℤ a i) (λ i h. ap (λ z. z *ℤ a i) (jacobian_ i h)))

  pub pull_same : pull y x ≡ pull y w
  unfolding pull
  pull_same =
      ap₂ (λ p q. (p -ℤ x.b) -ℤ q) (along_same y.smooth) (along_same y.accel)
      ∙ ap (λ z. (along y.dofs w.jacobian y.smooth -ℤ z) -ℤ along y.dofs w.jacobian y.accel) b_

  module _ (r_ : x.r ≡ w.r) (low_ : x.low ≡ w.low) (high_ : x.high ≡ w.high) where
    pub separate_same : separate y x ≡ separate y w
    separate_same =
        ap₂ (λ l h. row_force l h x.r (pull y x)) low_ high_
        ∙ ap₂ (λ r p. row_force w.low w.high r p) r_ pull_same

    pub row_fault_same : x.place ≡ w.place → row_fault y x ≡ row_fault y w
    row_fault_same place_ =
        ap₂ (λ p s. or_first (limited kind.InverseRate x.place (2 ^ 56) p) (limited kind.InverseForce x.place (2 ^ 50) s)) (along_same y.accel) separate_same
        ∙ ap (λ p. or_first (limited kind.InverseRate p (2 ^ 56) (rate y w)) (limited kind.InverseForce p (2 ^ 50) (separate y w))) place_

-- ---- two loads of forces that agree
module _ (n : ℕ) (f h : ℕ → ℕ → ℤ) (s t x y : ℕ → ℤ) (i : ℕ) (jacobian_ : (k : ℕ) → k < n → f k i ≡ h k i) (free_ : s i ≡ t i) (forces_ : (k : ℕ) → k < n → x k ≡ y k) where
  pub load_same : load n f s x i ≡ load n h t y i
  load_same =
      ap₂ (λ a b. a +ℤ settled_mid b 20) free_
      (sum_to-ext n (λ k. f k i *ℤ x k) (λ k. h k i *ℤ y k) (λ k p. ap₂ (λ a b. a *ℤ b) (jacobian_ k p) (forces_ k p)))

-- ---- two steps that agree at the rows and the dofs that there are
pub record Agree (g h : Given) : Type 0 where
  pub motion_ : g.motion ≡ h.motion
  pub rows_ : g.rows ≡ h.rows
  pub place_ : (k : ℕ) → k < g.rows → (g.row k).place ≡ (h.row k).place
  pub jacobian_ : (k i : ℕ) → k < g.rows → i < g.motion.dofs → (g.row k).jacobian i ≡ (h.row k).jacobian i
  pub b_ : (k : ℕ) → k < g.rows → (g.row k).b ≡ (h.row k).b
  pub r_ : (k : ℕ) → k < g.rows → (g.row k).r ≡ (h.row k).r
  pub low_ : (k : ℕ) → k < g.rows → (g.row k).low ≡ (h.row k).low
  pub high_ : (k : ℕ) → k < g.rows → (g.row k).high ≡ (h.row k).high
  pub force_ : (k : ℕ) → k < g.rows → g.force k ≡ h.force k
  pub mass_ : (i j : ℕ) → i < g.motion.dofs → j < g.motion.dofs → g.mass i j ≡ h.mass i j
  pub free_load_ : (i : ℕ) → i < g.motion.dofs → g.free_load i ≡ h.free_load i

module _ (g h : Given) (agree : Agree g h) where
  pub forces-reads : (k : ℕ) → k < g.rows → force_of g k ≡ force_of h k
  forces-reads k p =
      separate_same g.motion (g.row k) (h.row k) (λ i q. agree.jacobian_ k i p q) (agree.b_ k p) (agree.r_ k p) (agree.low_ k p) (agree.high_ k p)
      ∙ ap (λ y. separate y (h.row k)) agree.motion_

  faults-reads : (k : ℕ) → k < g.rows → row_fault g.motion (g.row k) ≡ row_fault h.motion (h.row k)
  faults-reads k p =
      row_fault_same g.motion (g.row k) (h.row k) (λ i q. agree.jacobian_ k i p q) (agree.b_ k p) (agree.r_ k p) (agree.low_ k p) (agree.high_ k p) (agree.place_ k p)
      ∙ ap (λ y. row_fault y (h.row k)) agree.motion_

  loads-reads : (i : ℕ) → i < g.motion.dofs → load_of g i ≡ load_of h i
  loads-reads i q =
      load_same g.rows (λ k. (g.row k).jacobian) (λ k. (h.row k).jacobian) g.free_load h.free_load (force_of g) (force_of h) i
      (λ k p. agree.jacobian_ k i p q) (agree.free_load_ i q) forces-reads
      ∙ ap (λ n. load n (λ k. (h.row k).jacobian) h.free_load (force_of h) i) agree.rows_

  pub gap-reads : gap g ≡ gap h
  gap-reads =
      greatest-reads g.rows (λ k. unsigned_abs (force_of g k -ℤ g.force k)) (λ k. unsigned_abs (force_of h k -ℤ h.force k))
      (λ k p. ap₂ (λ a b. unsigned_abs (a -ℤ b)) (forces-reads k p) (agree.force_ k p))
      ∙ ap (λ n. greatest_to n (λ k. unsigned_abs (force_of h k -ℤ h.force k))) agree.rows_

  pub discrepancy-reads : discrepancy g ≡ discrepancy h
  discrepancy-reads =
      residual-reads g.motion.dofs g.mass h.mass g.motion.accel h.motion.accel (load_of g) (load_of h) agree.mass_ (λ i q. ap (λ y. y.accel i) agree.motion_) loads-reads
      ∙ ap (λ y. greatest_to y.dofs (residual_at y.dofs h.mass h.motion.accel (load_of h))) agree.motion_

  pub inverse_fault-reads : inverse_fault g ≡ inverse_fault h
  inverse_fault-reads =
      ap₂ (λ a b. or_first a b)
      (first_ext g.rows (λ k. row_fault g.motion (g.row k)) (λ k. row_fault h.motion (h.row k)) faults-reads ∙ ap (λ n. first_to n (λ k. row_fault h.motion (h.row k))) agree.rows_)
      (first_ext g.motion.dofs (load_fault (load_of g)) (load_fault (load_of h)) (λ i q. ap (limited kind.InverseLoad (i + 1) (2 ^ 54)) (loads-reads i q))
      ∙ ap (λ y. first_to y.dofs (load_fault (load_of h))) agree.motion_)
