-- What the steps make of the sums that are carried down and up is what the formulas of a body and of a dof say.
use Rattle.std.proofs.Common.{◌≡◌, ◌≢◌, ℕ, zero, suc, ◌+◌, ◌^◌, ◌<◌, ◌≤◌, ℤ, unsigned_abs, Option, List, slice_index_or, refl, sym, ap, ap₂, ◌∙◌, subst, arith, add-one, lit≤, inl, inr}
use Rattle.std.proofs.lemmas.Bool.{cases_eq}
use Rattle.fx_whole.specs.Adding.{when_in}
use Rattle.fx_whole.specs.First.{or_first}
use Rattle.fx_whole.proofs.AddingLaws.{sum_in-ext}
use Rattle.fx_num.specs.declared.number.Number.{Number}
use Rattle.fx_num.specs.Radii.{radius_limit}
use Rattle.fx_num.specs.Settled.{over}
use Rattle.fx_vec.specs.Sums.{vectors, sizes}
use Rattle.mj_tree.specs.Tree.{at_or_above}
use Rattle.mj_types.specs.declared.range.OutOfRange.{OutOfRange}
use Rattle.mj_types.specs.declared.range.Quantity.TheVariants as kind
use Rattle.mj_types.specs.Ranges.{unless, named}
use Rattle.mj_bias.specs.Movement.{Movement}
use Rattle.mj_bias.specs.Biases.{body_velocity, velocity_sum, body_acceleration, acceleration_sum, body_momentum, own_wrench, load, load_sum, dof_bias}
use Rattle.mj_bias.specs.Radii.{Rule, body_velocity_radius, velocity_width, body_acceleration_radius, acceleration_width, body_momentum_radius, own_wrench_width, load_radius, load_width, dof_bias_radius}
use Rattle.mj_bias.specs.Faults.{is_within6, body_fault, force_fault}
use Rattle.mj_bias.specs.Measures.{Measured, measured, exact, no_measure, measure_fault, IsWithin}
use Rattle.mj_bias.specs.Steps.{velocity_there, acceleration_there, momentum_there, wrench_there, body_wrench_there, body_fault_there, sum_there, load_there, force_there, force_radius_there, force_fault_there, Holds, AreSmall}
use Rattle.mj_bias.specs.Carried.{motion_to, drift_to, wrench_at}
use Rattle.mj_bias.proofs.MeasureLaws.{none_within}
use Rattle.mj_bias.proofs.StepLaws.{within-le}

-- ---- of body b + 1
abbrev velocity_at : Rule → Movement → ℕ → Measured
velocity_at rule m k = measured (body_velocity m k) (body_velocity_radius rule m k)

abbrev acceleration_at : Rule → Movement → ℕ → Measured
acceleration_at rule m k = measured (body_acceleration m k) (body_acceleration_radius rule m k)

abbrev momentum_at : Rule → Movement → ℕ → Measured
momentum_at rule m b = measured (body_momentum m b) (body_momentum_radius rule m b)

abbrev own_wrench_at : Rule → Movement → ℕ → Measured
own_wrench_at rule m b = measured (own_wrench m b) (own_wrench_width rule m b)

velocity_is : (rule : Rule) (m : Movement) (k : ℕ) (s : Measured) → s ≡ motion_to m m.dofs k → velocity_there rule s ≡ velocity_at rule m k
unfolding velocity_there body_velocity body_velocity_radius velocity_sum velocity_width motion_to
velocity_is rule m k s e = ap (velocity_there rule) e

acceleration_is : (rule : Rule) (m : Movement) (k : ℕ) (s : Measured) → s ≡ drift_to rule m m.dofs k → acceleration_there rule m.gravity s ≡ acceleration_at rule m k
unfolding acceleration_there body_acceleration body_acceleration_radius acceleration_sum acceleration_width drift_to
acceleration_is rule m k s e = ap (acceleration_there rule m.gravity) e

momentum_is : (rule : Rule) (m : Movement) (b : ℕ) → momentum_there rule (m.inertia b) (velocity_at rule m (b + 1)) ≡ momentum_at rule m b
unfolding momentum_there body_momentum body_momentum_radius
momentum_is rule m b = refl

own_wrench_is : (rule : Rule) (m : Movement) (b : ℕ) → wrench_there (m.inertia b) (acceleration_at rule m (b + 1)) (velocity_at rule m (b + 1)) (momentum_at rule m b) ≡ own_wrench_at rule m b
unfolding wrench_there own_wrench own_wrench_width
own_wrench_is rule m b = refl

pub body_wrench_is : (rule : Rule) (m : Movement) (b : ℕ) (s t : Measured) → s ≡ motion_to m m.dofs (b + 1) → t ≡ drift_to rule m m.dofs (b + 1)
    → body_wrench_there rule m.gravity (m.inertia b) s t ≡ wrench_at rule m (b + 1)
body_wrench_is rule m b s t e f =
    ap₂ (λ (v a : Measured). wrench_there (m.inertia b) a v (momentum_there rule (m.inertia b) v)) (velocity_is rule m (b + 1) s e) (acceleration_is rule m (b + 1) t f)
    ∙ ap (wrench_there (m.inertia b) (acceleration_at rule m (b + 1)) (velocity_at rule m (b + 1))) (momentum_is rule m b)
    ∙ own_wrench_is rule m b ∙ sym (ap (wrench_at rule m) (add-one b))

pub body_fault_is : (rule : Rule) (m : Movement) (b : ℕ) (s t : Measured) → s ≡ motion_to m m.dofs (b + 1) → t ≡ drift_to rule m m.dofs (b + 1)
    → body_fault_there rule m.gravity (m.inertia b) s t (b + 1) ≡ body_fault rule m b
body_fault_is rule m b s t e f =
    ap₂ (λ (v a : Measured). whole v a (momentum_there rule (m.inertia b) v) (wrench_there (m.inertia b) a v (momentum_there rule (m.inertia b) v))) (velocity_is rule m (b + 1) s e) (acceleration_is rule m (b + 1) t f)
    ∙ ap (λ (p : Measured). whole (velocity_at rule m (b + 1)) (acceleration_at rule m (b + 1)) p (wrench_there (m.inertia b) (acceleration_at rule m (b + 1)) (velocity_at rule m (b + 1)) p)) (momentum_is rule m b)
    ∙ ap (whole (velocity_at rule m (b + 1)) (acceleration_at rule m (b + 1)) (momentum_at rule m b)) (own_wrench_is rule m b)
  where
    whole : Measured → Measured → Measured → Measured → Option OutOfRange
    whole v a p w =
        or_first (measure_fault kind.BodyMotion (b + 1) (2 ^ 48) v)
        (or_first (measure_fault kind.BodyMotion (b + 1) (2 ^ 56) a)
        (or_first (measure_fault kind.BodyMotion (b + 1) (2 ^ 62) p)
        (unless (is_within6 (2 ^ 118) w.value) kind.Wrench (b + 1))))

-- the wrenches of all bodies, from those by places and that of the world
pub all_within : (f : ℕ → Measured) (n : ℕ) → f 0 ≡ no_measure → ((b : ℕ) → b < n → IsWithin (f (b + 1)) (2 ^ 118) (2 ^ 106)) → (k : ℕ) → k ≤ n → IsWithin (f k) (2 ^ 118) (2 ^ 106)
all_within f n e h zero l = within-le (f 0) 0 0 (2 ^ 118) (2 ^ 106) (none_within (f 0) e) (lit≤ tt) (lit≤ tt)
all_within f n e h (suc b) l = subst (λ (k : ℕ). IsWithin (f k) (2 ^ 118) (2 ^ 106)) (add-one b) (h b l)

pub all_wrenches : (rule : Rule) (m : Movement) (f : ℕ → Measured) (n : ℕ) → f 0 ≡ no_measure → ((b : ℕ) → b < n → f (b + 1) ≡ wrench_at rule m (b + 1)) → (k : ℕ) → k ≤ n → f k ≡ wrench_at rule m k
all_wrenches rule m f n e h zero l = e
all_wrenches rule m f n e h (suc b) l = subst (λ (k : ℕ). f k ≡ wrench_at rule m k) (add-one b) (h b l)

-- ---- of dof i
pub sum_there_is : (parent : ℕ → ℕ) (n : ℕ) (f g : ℕ → Measured) (b : ℕ) → ((k : ℕ) → k < n → f k ≡ g k) → sum_there parent n f b ≡ sum_there parent n g b
sum_there_is parent n f g b h =
    ap₂ (λ s w. measured s w)
    (sum_in-ext vectors n (λ k. when_in vectors (at_or_above parent b k) (f k).value) (λ k. when_in vectors (at_or_above parent b k) (g k).value) (λ k l. ap (λ (x : Measured). when_in vectors (at_or_above parent b k) x.value) (h k l)))
    (sum_in-ext sizes n (λ k. when_in sizes (at_or_above parent b k) (f k).width) (λ k. when_in sizes (at_or_above parent b k) (g k).width) (λ k l. ap (λ (x : Measured). when_in sizes (at_or_above parent b k) x.width) (h k l)))

abbrev load_at : Rule → Movement → ℕ → Measured
load_at rule m i = measured (load m i) (load_radius rule m i)

pub load_is : (rule : Rule) (m : Movement) (i : ℕ) (s : Measured) → s ≡ sum_there m.parent (m.bodies + 1) (wrench_at rule m) (m.body i) → load_there rule s ≡ load_at rule m i
unfolding load_there load load_radius load_sum load_width
load_is rule m i s e = ap (load_there rule) e

force_at : (m : Movement) (i : ℕ) (rule : Rule) → force_there (exact (m.column i)) (load_at rule m i) ≡ dof_bias m i
unfolding force_there dof_bias
force_at m i rule = refl

radius_at : (rule : Rule) (m : Movement) (i : ℕ) → force_radius_there rule (exact (m.column i)) (load_at rule m i) ≡ dof_bias_radius rule m i
unfolding force_radius_there dof_bias_radius
radius_at rule m i = refl

pub dof_force_is : (rule : Rule) (m : Movement) (i : ℕ) (column s : Measured) → column ≡ exact (m.column i) → s ≡ sum_there m.parent (m.bodies + 1) (wrench_at rule m) (m.body i)
    → force_there column (load_there rule s) ≡ dof_bias m i
dof_force_is rule m i column s e f = ap₂ (λ (x y : Measured). force_there x y) e (load_is rule m i s f) ∙ force_at m i rule

pub dof_radius_is : (rule : Rule) (m : Movement) (i : ℕ) (column s : Measured) → column ≡ exact (m.column i) → s ≡ sum_there m.parent (m.bodies + 1) (wrench_at rule m) (m.body i)
    → force_radius_there rule column (load_there rule s) ≡ dof_bias_radius rule m i
dof_radius_is rule m i column s e f = ap₂ (λ (x y : Measured). force_radius_there rule x y) e (load_is rule m i s f) ∙ radius_at rule m i

pub dof_force_fault_is : (rule : Rule) (m : Movement) (i : ℕ) (column s : Measured) → column ≡ exact (m.column i) → s ≡ sum_there m.parent (m.bodies + 1) (wrench_at rule m) (m.body i)
    → force_fault_there rule column s i ≡ force_fault rule m i
dof_force_fault_is rule m i column s e f =
    ap₂ (λ (x y : Measured). or_first (measure_fault kind.Bias (i + 1) (2 ^ 62) y) (named kind.Bias (i + 1) (over (2 ^ 52) (force_there x y) (force_radius_there rule x y)))) e (load_is rule m i s f)
    ∙ ap₂ (λ (n : ℤ) (r : ℕ). or_first (measure_fault kind.Bias (i + 1) (2 ^ 62) (load_at rule m i)) (named kind.Bias (i + 1) (over (2 ^ 52) n r))) (force_at m i rule) (radius_at rule m i)

-- ---- the list of forces
pub holds_more : {R : Type 0} (width : R → ℕ) (n : ℕ) (xs ys : List (Number R 32)) (value : ℕ → ℤ) (radius : ℕ → ℕ) (x : Number R 32)
    → ((d : Number R 32) → slice_index_or ys n d ≡ x) → ((d : Number R 32) (k : ℕ) → k ≢ n → slice_index_or ys k d ≡ slice_index_or xs k d)
    → Holds width n xs value radius → x.mid ≡ value n → width x.rad ≡ radius n → Holds width (n + 1) ys value radius
holds_more {R = R} width n xs ys value radius x same others h e f = record {
  value_ = λ i l d. elim (cases_eq i n) [
    | inl q ↦ ap (λ (k : ℕ). (slice_index_or ys k d).mid) q ∙ ap (λ (y : Number R 32). y.mid) (same d) ∙ e ∙ ap value (sym q)
    | inr q ↦ ap (λ (y : Number R 32). y.mid) (others d i q) ∙ h.value_ i (omega arith) d
  ];
  radius_ = λ i l d. elim (cases_eq i n) [
    | inl q ↦ ap (λ (k : ℕ). width (slice_index_or ys k d).rad) q ∙ ap (λ (y : Number R 32). width y.rad) (same d) ∙ f ∙ ap radius (sym q)
    | inr q ↦ ap (λ (y : Number R 32). width y.rad) (others d i q) ∙ h.radius_ i (omega arith) d
  ];
}

pub small_more : {R : Type 0} (width : R → ℕ) (n : ℕ) (xs ys : List (Number R 32)) (x : Number R 32)
    → ((d : Number R 32) → slice_index_or ys n d ≡ x) → ((d : Number R 32) (k : ℕ) → k ≢ n → slice_index_or ys k d ≡ slice_index_or xs k d)
    → AreSmall width n xs → unsigned_abs x.mid ≤ 2 ^ 52 → width x.rad ≤ radius_limit → AreSmall width (n + 1) ys
small_more {R = R} width n xs ys x same others h e f = record {
  value_ = λ i l d. elim (cases_eq i n) [
    | inl q ↦ subst (λ (y : Number R 32). unsigned_abs y.mid ≤ 2 ^ 52) (sym (ap (λ (k : ℕ). slice_index_or ys k d) q ∙ same d)) e
    | inr q ↦ subst (λ (y : Number R 32). unsigned_abs y.mid ≤ 2 ^ 52) (sym (others d i q)) (h.value_ i (omega arith) d)
  ];
  radius_ = λ i l d. elim (cases_eq i n) [
    | inl q ↦ subst (λ (y : Number R 32). width y.rad ≤ radius_limit) (sym (ap (λ (k : ℕ). slice_index_or ys k d) q ∙ same d)) f
    | inr q ↦ subst (λ (y : Number R 32). width y.rad ≤ radius_limit) (sym (others d i q)) (h.radius_ i (omega arith) d)
  ];
}
