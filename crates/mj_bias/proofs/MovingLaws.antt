-- Down the tree: what a dof is made of is what its formula says, and the sums of a body take each of its dofs in turn.
use Rattle.std.proofs.Common.{◌≡◌, ◌≢◌, ℕ, zero, suc, ◌+◌, ◌-◌, ◌*◌, ◌^◌, ◌<◌, ◌≤◌, Bool, true, false, cond, ℤ, unsigned_abs, length, refl, sym, ap, ap₂, ◌∙◌, subst, arith, inl, inr, lit≤, mul-le-mul_right, le_trans}
use Rattle.std.proofs.lemmas.Bool.{cases_eq, cases_lt}
use Rattle.fx_whole.specs.Adding.{sum_in, when_in}
use Rattle.fx_whole.specs.First.{or_first}
use Rattle.fx_whole.proofs.AddingLaws.{sum_in-holds}
use Rattle.fx_num.specs.Radii.{radius_limit}
use Rattle.fx_vec.specs.Spatial.{Spatial, no_spatial}
use Rattle.fx_vec.specs.Sizes.{Within6, Below6, no_size6}
use Rattle.fx_vec.specs.Sums.{vectors, sizes}
use Rattle.fx_vec.proofs.SumLaws.{vectors-is_adding, sizes-is_adding}
use Rattle.mj_tree.specs.Tree.{IsTree, IsLayout, moves}
use Rattle.mj_tree.specs.TreeSums.{sum_moving}
use Rattle.mj_tree.proofs.DownLaws.{own_step}
use Rattle.mj_types.specs.declared.bias.Bias.{Bias}
use Rattle.mj_types.specs.declared.model.Model.{Model}
use Rattle.mj_types.specs.declared.parts.JointKind.{JointKind}
use Rattle.mj_types.specs.declared.parts.JointKind.TheVariants.{Free, Ball, Hinge, Slide}
use Rattle.mj_types.specs.declared.range.Quantity.TheVariants as kind
use Rattle.mj_types.specs.Parts.{dof, joint, first_part, velocity_count, parent_of, body_of, first_dof}
use Rattle.mj_types.proofs.LayoutLaws.{is_layout}
use Rattle.mj_bias.specs.Movement.{Movement}
use Rattle.mj_bias.specs.Biases.{own_motion, own_drift, carrier_sum, carrier, column_rate}
use Rattle.mj_bias.specs.Radii.{Rule, own_motion_width, own_drift_width, carrier_width, carrier_radius, column_rate_radius}
use Rattle.mj_bias.specs.Faults.{dof_fault}
use Rattle.mj_bias.specs.Measures.{Measured, measured, exact, no_measure, numbers_at, totals_at, sum_of, multiple, motion_rate, settled_by, measure_fault, IsWithin}
use Rattle.mj_bias.specs.Steps.{carrier_there, rate_there, dof_fault_there}
use Rattle.mj_bias.specs.Carried.{carrier_at, rate_at, motion_to, drift_to, IsBegun}
use Rattle.mj_bias.proofs.SeenLaws.{same_measured}
use Rattle.mj_bias.proofs.SizeLaws.{within6-le, below6-le, within6-plus, below6-plus, times6-within, times6_width-le}
use Rattle.mj_bias.proofs.StepLaws.{carrier_shared, carrier_own}

-- ---- the base of a dof
first_le : (k : JointKind) (p : ℕ) → first_part k p ≤ p
first_le Free zero = omega arith
first_le Free (suc zero) = omega arith
first_le Free (suc (suc zero)) = omega arith
first_le Free (suc (suc (suc p))) = omega arith
first_le Ball p = omega arith
first_le Hinge p = omega arith
first_le Slide p = omega arith

first_twice : (k : JointKind) (p : ℕ) → first_part k (first_part k p) ≡ first_part k p
first_twice Free zero = refl
first_twice Free (suc zero) = refl
first_twice Free (suc (suc zero)) = refl
first_twice Free (suc (suc (suc p))) = refl
first_twice Ball p = refl
first_twice Hinge p = refl
first_twice Slide p = refl

pub layout_of : (m : Model) → IsLayout (parent_of m.bodies) (body_of m.dofs) (first_dof m.bodies) (length m.bodies) m.nv
layout_of m = is_layout m.bodies m.joints m.dofs m.nq m.nv m.of_bodies m.of_joints m.of_dofs

pub base_le : (m : Model) (j : ℕ) → j < m.nv → (dof m.dofs j).base ≤ j
base_le m j h =
    let x = m.of_dofs.each j h in
    omega (arith, x.place, x.base, first_le (joint m.joints ((dof m.dofs j).joint - 1)).kind (dof m.dofs j).part)

-- the base is its own base, and of the same body
record IsBase (m : Model) (j : ℕ) : Type 0 where
  base : (dof m.dofs (dof m.dofs j).base).base ≡ (dof m.dofs j).base
  body : body_of m.dofs (dof m.dofs j).base ≡ body_of m.dofs j

is_base : (m : Model) (j : ℕ) → j < m.nv → IsBase m j
is_base m j h =
    let x = m.of_dofs.each j h in
    let t : ℕ = (dof m.dofs j).joint - 1 in
    let k = (joint m.joints t).kind in
    let p = (dof m.dofs j).part in
    let i : ℕ = (joint m.joints t).dadr + first_part k p in
    let e : (dof m.dofs j).base ≡ i = x.base in
    let within : first_part k p < velocity_count k = omega (arith, x.part, first_le k p) in
    let there : t < length m.joints = omega (arith, x.some, x.joint_) in
    let y = m.of_dofs.each i (omega (arith, base_le m j h, e)) in
    let of_joint : (dof m.dofs i).joint ≡ suc t = m.of_dofs.joints_ t (first_part k p) there within in
    let same : (dof m.dofs i).joint - 1 ≡ t = omega arith in
    let part : (dof m.dofs i).part ≡ first_part k p = m.of_dofs.parts t (first_part k p) there within in
    record {
      base = ap (λ (n : ℕ). (dof m.dofs n).base) e ∙ y.base
          ∙ ap₂ (λ (n q : ℕ). (joint m.joints n).dadr + first_part (joint m.joints n).kind q) same part
          ∙ ap (λ (n : ℕ). (joint m.joints t).dadr + n) (first_twice k p) ∙ sym e;
      body = ap (body_of m.dofs) e ∙ y.body_ ∙ ap (λ (n : ℕ). (joint m.joints n).body) same ∙ sym x.body_;
    }

shared_carrier : (rule : Rule) (m : Movement) (i j : ℕ) → m.base i ≡ m.base j → m.body i ≡ m.body j → carrier_at rule m i ≡ carrier_at rule m j
unfolding carrier carrier_radius carrier_sum carrier_width
shared_carrier rule m i j e h =
    ap₂ (λ (n k : ℕ). settled_by rule 32 (measured (sum_moving vectors m.parent m.body n (own_motion m) k) (sum_moving sizes m.parent m.body n (own_motion_width m) k))) e h

pub own_carrier : (rule : Rule) (m : Movement) (j k : ℕ) → m.base j ≡ j → m.body j ≡ k → settled_by rule 32 (motion_to m j k) ≡ carrier_at rule m j
unfolding carrier carrier_radius carrier_sum carrier_width motion_to
own_carrier rule m j k e h =
    ap₂ (λ (n k : ℕ). settled_by rule 32 (measured (sum_moving vectors m.parent m.body n (own_motion m) k) (sum_moving sizes m.parent m.body n (own_motion_width m) k))) (sym e) (sym h)

pub carrier_is : {K R W : Type 0} (rule : Rule) (width : R → ℕ) (wide : W → ℕ) (model : Model) (m : Movement) (x : Bias K R W) (b j : ℕ)
    → ((i : ℕ) → m.base i ≡ (dof model.dofs i).base) → ((i : ℕ) → m.body i ≡ body_of model.dofs i) → j < model.nv → m.body j ≡ b + 1
    → IsBegun rule width wide m b j x → carrier_there rule width wide model x b j ≡ carrier_at rule m j
carrier_is rule width wide model m x b j bases bodies h e begun =
    let t = is_base model j h in
    elim (cases_lt (dof model.dofs j).base j) [
      | inl l ↦ carrier_shared rule width wide model x b j l ∙ begun.earlier.turn_ (dof model.dofs j).base l
          ∙ shared_carrier rule m (dof model.dofs j).base j (bases (dof model.dofs j).base ∙ t.base ∙ sym (bases j)) (bodies (dof model.dofs j).base ∙ t.body ∙ sym (bodies j))
      | inr l ↦ carrier_own rule width wide model x b j l ∙ ap (settled_by rule 32) begun.motion_here
          ∙ own_carrier rule m j (b + 1) (bases j ∙ (let f : (dof model.dofs j).base ≡ j = omega (arith, base_le model j h) in f)) e
    ]

-- ---- the rate, and the fault
rate_is : (rule : Rule) (t : Bool) (s : Measured)
    → cond t no_measure (settled_by rule 32 s) ≡ measured (cond t no_spatial (settled_by rule 32 s).value) (cond t no_size6 (settled_by rule 32 s).width)
rate_is rule true s = refl
rate_is rule false s = refl

pub rate_there_is : (rule : Rule) (m : Movement) (j : ℕ) (turn : Measured) → turn ≡ carrier_at rule m j → rate_there rule (m.constant j) turn (exact (m.column j)) ≡ rate_at rule m j
unfolding column_rate column_rate_radius
rate_there_is rule m j turn e =
    ap (λ (s : Measured). rate_there rule (m.constant j) s (exact (m.column j))) e
    ∙ rate_is rule (m.constant j) (motion_rate (carrier_at rule m j) (exact (m.column j)))

pub dof_fault_is : (rule : Rule) (m : Movement) (j : ℕ) (turn : Measured) → turn ≡ carrier_at rule m j → dof_fault_there rule (m.constant j) turn (exact (m.column j)) j ≡ dof_fault rule m j
dof_fault_is rule m j turn e =
    ap₂ (λ (t s : Measured). or_first (measure_fault kind.DofMotion (j + 1) (2 ^ 48) t) (measure_fault kind.DofMotion (j + 1) (2 ^ 56) s)) e (rate_there_is rule m j turn e)

-- ---- how large the sums are
when_within : (t : Bool) (s : Spatial ℤ) (l : ℕ) → Within6 s l → Within6 (when_in vectors t s) l
when_within true s l h = h
when_within false s l h = record { ang = record { x = omega arith; y = omega arith; z = omega arith }; lin = record { x = omega arith; y = omega arith; z = omega arith } }

when_below : (t : Bool) (s : Spatial ℕ) (l : ℕ) → Below6 s l → Below6 (when_in sizes t s) l
when_below true s l h = h
when_below false s l h = record { ang = record { x = omega arith; y = omega arith; z = omega arith }; lin = record { x = omega arith; y = omega arith; z = omega arith } }

one_more : (k l : ℕ) → k * l + l ≤ suc k * l
one_more k l = omega arith

pub sum_within : (n : ℕ) (t : ℕ → Bool) (f : ℕ → Spatial ℤ) (l : ℕ) → ((i : ℕ) → i < n → Within6 (f i) l) → Within6 (sum_in vectors n (λ i. when_in vectors (t i) (f i))) (n * l)
sum_within n t f l h =
    sum_in-holds vectors (λ k s. Within6 s (k * l)) n (λ i. when_in vectors (t i) (f i)) none
    (λ k s p q. within6-le _ (k * l + l) (suc k * l) (within6-plus s (when_in vectors (t k) (f k)) (k * l) l q (when_within (t k) (f k) l (h k p))) (one_more k l))
  where
    none : Within6 no_spatial (0 * l)
    none = record { ang = record { x = omega arith; y = omega arith; z = omega arith }; lin = record { x = omega arith; y = omega arith; z = omega arith } }

pub sum_below : (n : ℕ) (t : ℕ → Bool) (f : ℕ → Spatial ℕ) (l : ℕ) → ((i : ℕ) → i < n → Below6 (f i) l) → Below6 (sum_in sizes n (λ i. when_in sizes (t i) (f i))) (n * l)
sum_below n t f l h =
    sum_in-holds sizes (λ k s. Below6 s (k * l)) n (λ i. when_in sizes (t i) (f i)) none
    (λ k s p q. below6-le _ (k * l + l) (suc k * l) (below6-plus s (when_in sizes (t k) (f k)) (k * l) l q (when_below (t k) (f k) l (h k p))) (one_more k l))
  where
    none : Below6 no_size6 (0 * l)
    none = record { ang = record { x = omega arith; y = omega arith; z = omega arith }; lin = record { x = omega arith; y = omega arith; z = omega arith } }

-- columns, speeds and rates of the first n dofs within their limits
pub record AreSlow (rule : Rule) (m : Movement) (n : ℕ) : Type 0 where
  pub few : n ≤ 64
  pub columns : (i : ℕ) → i < n → Within6 (m.column i) (2 ^ 42)
  pub speeds : (i : ℕ) → i < n → unsigned_abs (m.speed i) ≤ 2 ^ 44
  pub rates : (i : ℕ) → i < n → IsWithin (rate_at rule m i) (2 ^ 56) radius_limit

at_most : (n l : ℕ) → n ≤ 64 → n * l ≤ 64 * l
at_most n l h = mul-le-mul_right l h

none_below : Below6 no_size6 0
none_below = record { ang = record { x = omega arith; y = omega arith; z = omega arith }; lin = record { x = omega arith; y = omega arith; z = omega arith } }

pub motion_within : (rule : Rule) (m : Movement) (n k : ℕ) → AreSlow rule m n → IsWithin (motion_to m n k) (2 ^ 110) (2 ^ 100)
unfolding motion_to
motion_within rule m n k h = record {
  value_ = within6-le _ (n * (2 ^ 44 * 2 ^ 42)) (2 ^ 110)
      (sum_within n (λ j. moves m.parent m.body j k) (own_motion m) (2 ^ 44 * 2 ^ 42) (λ i l. times6-within (m.speed i) (m.column i) (2 ^ 44) (2 ^ 42) (h.speeds i l) (h.columns i l)))
      (le_trans (at_most n (2 ^ 44 * 2 ^ 42) h.few) (lit≤ tt));
  width_ = below6-le _ (n * (2 ^ 44 * 0 + 2 ^ 42 * 0 + 0 * 0)) (2 ^ 100)
      (sum_below n (λ j. moves m.parent m.body j k) (own_motion_width m) (2 ^ 44 * 0 + 2 ^ 42 * 0 + 0 * 0)
      (λ i l. times6_width-le (m.speed i) 0 (m.column i) no_size6 (2 ^ 44) (2 ^ 42) 0 0 (h.speeds i l) (h.columns i l) (lit≤ tt) none_below))
      (le_trans (at_most n (2 ^ 44 * 0 + 2 ^ 42 * 0 + 0 * 0) h.few) (lit≤ tt));
}

pub drift_within : (rule : Rule) (m : Movement) (n k : ℕ) → AreSlow rule m n → IsWithin (drift_to rule m n k) (2 ^ 110) (2 ^ 100)
unfolding drift_to
drift_within rule m n k h = record {
  value_ = within6-le _ (n * (2 ^ 44 * 2 ^ 56)) (2 ^ 110)
      (sum_within n (λ j. moves m.parent m.body j k) (own_drift m) (2 ^ 44 * 2 ^ 56) (λ i l. times6-within (m.speed i) (column_rate m i) (2 ^ 44) (2 ^ 56) (h.speeds i l) (h.rates i l).value_))
      (le_trans (at_most n (2 ^ 44 * 2 ^ 56) h.few) (lit≤ tt));
  width_ = below6-le _ (n * (2 ^ 44 * radius_limit + 2 ^ 56 * 0 + 0 * radius_limit)) (2 ^ 100)
      (sum_below n (λ j. moves m.parent m.body j k) (own_drift_width rule m) (2 ^ 44 * radius_limit + 2 ^ 56 * 0 + 0 * radius_limit)
      (λ i l. times6_width-le (m.speed i) 0 (column_rate m i) (column_rate_radius rule m i) (2 ^ 44) (2 ^ 56) 0 radius_limit (h.speeds i l) (h.rates i l).value_ (lit≤ tt) (h.rates i l).width_))
      (le_trans (at_most n (2 ^ 44 * radius_limit + 2 ^ 56 * 0 + 0 * radius_limit) h.few) (lit≤ tt));
}

-- ---- one dof more
pub motion_more : (m : Movement) (j k : ℕ) (x y : Measured) → IsTree m.parent → m.body j ≡ k → x ≡ motion_to m j k → y ≡ sum_of x (multiple (m.speed j) (exact (m.column j)))
    → y ≡ motion_to m (j + 1) k
unfolding motion_to
motion_more m j k x y tree e h i =
    same_measured y (measured (sum_moving vectors m.parent m.body (j + 1) (own_motion m) k) (sum_moving sizes m.parent m.body (j + 1) (own_motion_width m) k))
    (own_step vectors vectors-is_adding m.parent m.body tree j (own_motion m) k x.value y.value e (ap (λ (s : Measured). s.value) h) (ap (λ (s : Measured). s.value) i))
    (own_step sizes sizes-is_adding m.parent m.body tree j (own_motion_width m) k x.width y.width e (ap (λ (s : Measured). s.width) h) (ap (λ (s : Measured). s.width) i))

pub drift_more : (rule : Rule) (m : Movement) (j k : ℕ) (x y : Measured) → IsTree m.parent → m.body j ≡ k → x ≡ drift_to rule m j k → y ≡ sum_of x (multiple (m.speed j) (rate_at rule m j))
    → y ≡ drift_to rule m (j + 1) k
unfolding drift_to
drift_more rule m j k x y tree e h i =
    same_measured y (measured (sum_moving vectors m.parent m.body (j + 1) (own_drift m) k) (sum_moving sizes m.parent m.body (j + 1) (own_drift_width rule m) k))
    (own_step vectors vectors-is_adding m.parent m.body tree j (own_drift m) k x.value y.value e (ap (λ (s : Measured). s.value) h) (ap (λ (s : Measured). s.value) i))
    (own_step sizes sizes-is_adding m.parent m.body tree j (own_drift_width rule m) k x.width y.width e (ap (λ (s : Measured). s.width) h) (ap (λ (s : Measured). s.width) i))

-- what holds below j and at j, where the other places stay
grown : {A : Type 0} (f g h : ℕ → A) (j : ℕ) → ((i : ℕ) → i < j → f i ≡ h i) → ((i : ℕ) → i ≢ j → g i ≡ f i) → g j ≡ h j → (i : ℕ) → i < j + 1 → g i ≡ h i
grown f g h j before others here i l =
    elim (cases_eq i j) [
      | inl e ↦ ap g e ∙ here ∙ ap h (sym e)
      | inr n ↦ others i n ∙ before i (omega arith)
    ]

kept : (g f : ℕ → Measured) (j limit width : ℕ) → ((i : ℕ) → i < j → IsWithin (f i) limit width) → ((i : ℕ) → i ≢ j → g i ≡ f i) → IsWithin (g j) limit width → (i : ℕ) → i < j + 1 → IsWithin (g i) limit width
kept g f j limit width before others here i l =
    elim (cases_eq i j) [
      | inl e ↦ subst (λ (k : ℕ). IsWithin (g k) limit width) (sym e) here
      | inr n ↦ subst (λ (s : Measured). IsWithin s limit width) (sym (others i n)) (before i (omega arith))
    ]

pub begun_more : {K R W : Type 0} (rule : Rule) (width : R → ℕ) (wide : W → ℕ) (m : Movement) (b j : ℕ) (x y : Bias K R W) → IsTree m.parent → m.body j ≡ b + 1
    → IsBegun rule width wide m b j x
    → numbers_at width y.turn j ≡ carrier_at rule m j
    → IsWithin (numbers_at width y.turn j) (2 ^ 48) radius_limit → IsWithin (rate_at rule m j) (2 ^ 56) radius_limit
    → ((i : ℕ) → i ≢ j → numbers_at width y.turn i ≡ numbers_at width x.turn i)
    → ((k : ℕ) → k ≢ b + 1 → totals_at wide y.motion k ≡ totals_at wide x.motion k) → ((k : ℕ) → k ≢ b + 1 → totals_at wide y.drift k ≡ totals_at wide x.drift k)
    → totals_at wide y.motion (b + 1) ≡ sum_of (totals_at wide x.motion (b + 1)) (multiple (m.speed j) (exact (m.column j)))
    → totals_at wide y.drift (b + 1) ≡ sum_of (totals_at wide x.drift (b + 1)) (multiple (m.speed j) (rate_at rule m j))
    → IsBegun rule width wide m b (j + 1) y
begun_more rule width wide m b j x y tree e begun turn small slow turns motions drifts motion drift = record {
  earlier = record {
    turn_ = grown (numbers_at width x.turn) (numbers_at width y.turn) (carrier_at rule m) j begun.earlier.turn_ turns turn;
    small = kept (numbers_at width y.turn) (numbers_at width x.turn) j (2 ^ 48) radius_limit begun.earlier.small turns small;
    rates = kept (rate_at rule m) (rate_at rule m) j (2 ^ 56) radius_limit begun.earlier.rates (λ i n. refl) slow;
    motion_ = λ k l. motions k (λ q. omega arith) ∙ begun.earlier.motion_ k l;
    drift_ = λ k l. drifts k (λ q. omega arith) ∙ begun.earlier.drift_ k l;
  };
  motion_here = motion_more m j (b + 1) (totals_at wide x.motion (b + 1)) (totals_at wide y.motion (b + 1)) tree e begun.motion_here motion;
  drift_here = drift_more rule m j (b + 1) (totals_at wide x.drift (b + 1)) (totals_at wide y.drift (b + 1)) tree e begun.drift_here drift;
}
