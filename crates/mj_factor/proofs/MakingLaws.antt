-- A factor is made row after row: what the stored rows give for the next, and what all of them are in the end.
use Rattle.std.proofs.Common.{◌≡◌, ◌≢◌, ℕ, ◌+◌, ◌-◌, ◌^◌, ◌<◌, ◌≤◌, ◌==◌, true, false, ℤ, pos, ◌-ℤ◌, ◌≤ℤ◌, unsigned_abs, List, length, None, refl, sym, ap, ap₂, ◌∙◌, subst, arith, inl, inr, ◌⊎◌}
use Rattle.std.proofs.lemmas.Bool.{cases_lt, cases_eq, cases_Bool, ne_eqb}
use Rattle.std.proofs.lemmas.Int.{ints}
use Rattle.std.proofs.Math.Path.{fun_ext}
use Rattle.std.proofs.lemmas.List.{get_or_past}
use Rattle.fx_whole.specs.First.{first_to}
use Rattle.fx_whole.specs.Nearest.{nearest}
use Rattle.fx_whole.specs.Sums.{sum_to}
use Rattle.fx_whole.proofs.FirstLaws.{first_ext, first_none}
use Rattle.fx_whole.proofs.SumLaws.{when-true, when-false, when-zero}
use Rattle.fx_num.specs.declared.number.Number.{Number}
use Rattle.fx_num.specs.declared.number.Wide.{Wide}
use Rattle.mj_tree.specs.Listing.{start, height, listed}
use Rattle.mj_tree.proofs.ListingLaws.{start_more, start_le, height_place, height_less, listed_at_height, height_of_listed, listed_is_above, listed_is_before, first_over_listed}
use Rattle.mj_types.specs.declared.model.Model.{Model}
use Rattle.mj_types.specs.declared.carriers.Factor.{Factor}
use Rattle.mj_types.specs.declared.carriers.Mass.{Mass}
use Rattle.mj_types.specs.Duals.{wide_at}
use Rattle.mj_types.specs.FactorRooms.{FactorRoom}
use Rattle.mj_types.specs.Forests.{above_in}
use Rattle.mj_types.specs.Parts.{number_at, plain}
use Rattle.mj_factor.specs.Factors.{work, lower, pivot, entry_fault}
use Rattle.mj_types.specs.Masses.{mass_at, IsMass}
use Rattle.mj_factor.specs.Stored.{IsFactor, entry, less, quotient, row_term, work_there, lower_there, SmallFrom, shifted_mass, HasRows}
use Rattle.mj_factor.proofs.FactorLaws.{work_is, work_apart, lower_apart, entry_apart, sum_is_stored}
use Rattle.mj_factor.proofs.PlaceLaws.{forest_in}
use Rattle.mj_factor.proofs.RangeLaws.{entry_within}

-- beside its diagonal it is the mass matrix
pub shifted_beside : (s : ℤ) (m : Model) (x : Mass) (k i : ℕ) → i < k → shifted_mass s m x k i ≡ mass_at m.nv x.m k i
shifted_beside s m x k i h = ap (λ y. mass_at m.nv x.m k i -ℤ y) (when-false (k == i) s (ne_eqb k i (λ e. omega (arith, e)))) ∙ less_none (mass_at m.nv x.m k i)
  where
    less_none : (y : ℤ) → y -ℤ pos 0 ≡ y
    less_none y = omega (arith, ints)

shifted_apart : (s : ℤ) (m : Model) (x : Mass) → IsMass m x → (k i : ℕ) → k < m.nv → i < k → above_in m i k ≡ false → shifted_mass s m x k i ≡ pos 0
shifted_apart s m x is k i h l e = shifted_beside s m x k i l ∙ is.apart k i h l e

-- less 0 it is the mass matrix
pub shifted_by_none : (m : Model) (x : Mass) → shifted_mass (pos 0) m x ≡ mass_at m.nv x.m
shifted_by_none m x = fun_ext (λ i. fun_ext (λ j. ap (λ y. mass_at m.nv x.m i j -ℤ y) (when-zero (i == j)) ∙ none (mass_at m.nv x.m i j)))
  where
    none : (y : ℤ) → y -ℤ pos 0 ≡ y
    none y = omega (arith, ints)

-- the sums for row k
pub record AreSums (m : Model) (f : Factor) (k : ℕ) (sums : List (Wide 72)) : Type 0 where
  pub each : (c : ℕ) → c ≤ height (above_in m) k
      → wide_at sums c ≡ sum_to m.nv (row_term (above_in m) (number_at f.l) (number_at f.w) k c)

module _ (s : ℤ) (m : Model) (x : Mass) (is : IsMass m x) (k : ℕ) (in_model : k < m.nv) (f : Factor) (room : FactorRoom m f) (rows : HasRows s m x (k + 1) f) (sums : List (Wide 72)) (are : AreSums m f k sums) where
  from_sum : (i : ℕ) → (above_in m i k ≡ true) ⊎ (i ≡ k) → height (above_in m) i ≤ height (above_in m) k
      → less (shifted_mass s m x k i) (wide_at sums (height (above_in m) i)) ≡ work m.nv (shifted_mass s m x) k i
  from_sum i which h =
      ap (λ y. shifted_mass s m x k i -ℤ nearest y (pos (2 ^ 32)))
      (are.each (height (above_in m) i) h
      ∙ sum_is_stored m.nv (shifted_mass s m x) (above_in m) (forest_in m) (shifted_apart s m x is) k i (number_at f.l) (number_at f.w) in_model which
      (λ j c p q r. rows.works j c (omega arith) q r) (λ j c p q r. rows.lowers j c (omega arith) q r))
      ∙ sym (work_is m.nv (shifted_mass s m x) k i in_model)

  pub pivot_from_sum : less (shifted_mass s m x k k) (wide_at sums (height (above_in m) k)) ≡ pivot m.nv (shifted_mass s m x) k
  pivot_from_sum = from_sum k (inr refl) (omega arith)

  pub work_from_sum : (c : ℕ) → c < height (above_in m) k
      → work_there m x f.above sums k c ≡ work m.nv (shifted_mass s m x) k (listed (above_in m) f.above k c)
  work_from_sum c h =
      let i = listed (above_in m) f.above k c in
      let e : height (above_in m) i ≡ c = height_of_listed (above_in m) m.nv f.at f.above room.listing (forest_in m) k c in_model h in
      ap₂ (λ v (y : ℕ). less v (wide_at sums y)) (sym (shifted_beside s m x k i (listed_is_before (above_in m) m.nv f.at f.above room.listing k c in_model h))) (sym e)
      ∙ from_sum i (inl (listed_is_above (above_in m) m.nv f.at f.above room.listing k c in_model h)) (omega arith)

  pub lower_from_sum : (d : ℤ) → d ≡ pivot m.nv (shifted_mass s m x) k → (c : ℕ) → c < height (above_in m) k
      → lower_there m x f.above sums d k c ≡ lower m.nv (shifted_mass s m x) k (listed (above_in m) f.above k c)
  lower_from_sum d e c h = ap₂ quotient (work_from_sum c h) e

  -- the faults of the listed entries are all
  pub faults_from_sums : (d : ℤ) → d ≡ pivot m.nv (shifted_mass s m x) k
      → first_to (height (above_in m) k) (λ c. entry_fault k (work_there m x f.above sums k c) (lower_there m x f.above sums d k c))
      ≡ first_to k (λ i. entry_fault k (work m.nv (shifted_mass s m x) k i) (lower m.nv (shifted_mass s m x) k i))
  faults_from_sums d e =
      first_ext (height (above_in m) k) (λ c. entry_fault k (work_there m x f.above sums k c) (lower_there m x f.above sums d k c))
      (λ c. entry_fault k (work m.nv (shifted_mass s m x) k (listed (above_in m) f.above k c)) (lower m.nv (shifted_mass s m x) k (listed (above_in m) f.above k c)))
      (λ c h. ap₂ (entry_fault k) (work_from_sum c h) (lower_from_sum d e c h))
      ∙ sym (first_over_listed (above_in m) m.nv f.at f.above room.listing k in_model
      (λ i. entry_fault k (work m.nv (shifted_mass s m x) k i) (lower m.nv (shifted_mass s m x) k i))
      (λ i h r. entry_apart m.nv (shifted_mass s m x) (above_in m) (forest_in m) (shifted_apart s m x is) k i in_model h r))

  -- row k was written
  module _ (g : Factor) (d : ℤ) (is_pivot : d ≡ pivot m.nv (shifted_mass s m x) k)
      (here : number_at g.d k ≡ d) (least : pos (2 ^ 10) ≤ℤ d) (most : d ≤ℤ pos (2 ^ 60))
      (others : (j : ℕ) → j ≢ k → number_at g.d j ≡ number_at f.d j)
      (works : (c : ℕ) → c < height (above_in m) k → number_at g.w (start (above_in m) k + c) ≡ work_there m x f.above sums k c)
      (lowers : (c : ℕ) → c < height (above_in m) k → number_at g.l (start (above_in m) k + c) ≡ lower_there m x f.above sums d k c)
      (later_works : (p : ℕ) → start (above_in m) (k + 1) ≤ p → number_at g.w p ≡ number_at f.w p)
      (later_lowers : (p : ℕ) → start (above_in m) (k + 1) ≤ p → number_at g.l p ≡ number_at f.l p)
      (passed : None ≡ first_to (height (above_in m) k) (λ c. entry_fault k (work_there m x f.above sums k c) (lower_there m x f.above sums d k c))) where
    -- a place of a later row
    later : (j i : ℕ) → k < j → start (above_in m) (k + 1) ≤ start (above_in m) j + height (above_in m) i
    later j i h = omega (arith, start_le (above_in m) (k + 1) j (omega arith))

    no_fault : (c : ℕ) → c < height (above_in m) k → entry_fault k (work_there m x f.above sums k c) (lower_there m x f.above sums d k c) ≡ None
    no_fault c h = (first_none (height (above_in m) k) (λ e. entry_fault k (work_there m x f.above sums k e) (lower_there m x f.above sums d k e))).0 (sym passed) c h

    listed_here : (i : ℕ) → above_in m i k ≡ true → listed (above_in m) f.above k (height (above_in m) i) ≡ i
    listed_here i e = listed_at_height (above_in m) m.nv f.at f.above room.listing (forest_in m) k i in_model e

    is_less : (i : ℕ) → above_in m i k ≡ true → height (above_in m) i < height (above_in m) k
    is_less i e = height_less m.nv (above_in m) (forest_in m) i k in_model e

    work_small : (p : ℕ) → start (above_in m) k ≤ p → unsigned_abs (number_at g.w p) ≤ 2 ^ 60
    work_small p h =
        elim (cases_lt p (start (above_in m) (k + 1))) [
          | inl q ↦
              let c = p - start (above_in m) k in
              let inside : c < height (above_in m) k = omega (arith, start_more (above_in m) k) in
              let place : start (above_in m) k + c ≡ p = omega arith in
              let value = sym (ap (number_at g.w) place) ∙ works c inside in
              omega (arith, ap unsigned_abs value, (entry_within k (work_there m x f.above sums k c) (lower_there m x f.above sums d k c) (no_fault c inside)).0)
          | inr q ↦ omega (arith, ap unsigned_abs (later_works p q), rows.work_small p q)
        ]

    lower_small : (p : ℕ) → start (above_in m) k ≤ p → unsigned_abs (number_at g.l p) ≤ 2 ^ 48
    lower_small p h =
        elim (cases_lt p (start (above_in m) (k + 1))) [
          | inl q ↦
              let c = p - start (above_in m) k in
              let inside : c < height (above_in m) k = omega (arith, start_more (above_in m) k) in
              let place : start (above_in m) k + c ≡ p = omega arith in
              let value = sym (ap (number_at g.l) place) ∙ lowers c inside in
              omega (arith, ap unsigned_abs value, (entry_within k (work_there m x f.above sums k c) (lower_there m x f.above sums d k c) (no_fault c inside)).1)
          | inr q ↦ omega (arith, ap unsigned_abs (later_lowers p q), rows.lower_small p q)
        ]

    pub rows_more : HasRows s m x k g
    rows_more = record {
      pivots = λ j h q. elim (cases_eq j k) [
        | inl e ↦ subst (λ (y : ℕ). number_at g.d y ≡ pivot m.nv (shifted_mass s m x) y) (sym e) (here ∙ is_pivot)
        | inr e ↦ others j e ∙ rows.pivots j (omega arith) q
      ];
      works = λ j i h q r. elim (cases_eq j k) [
        | inl e ↦ subst (λ (y : ℕ). above_in m i y ≡ true → number_at g.w (start (above_in m) y + height (above_in m) i) ≡ work m.nv (shifted_mass s m x) y i) (sym e)
            (λ t. works (height (above_in m) i) (is_less i t) ∙ work_from_sum (height (above_in m) i) (is_less i t) ∙ ap (λ (y : ℕ). work m.nv (shifted_mass s m x) k y) (listed_here i t)) r
        | inr e ↦ later_works _ (later j i (omega arith)) ∙ rows.works j i (omega arith) q r
      ];
      lowers = λ j i h q r. elim (cases_eq j k) [
        | inl e ↦ subst (λ (y : ℕ). above_in m i y ≡ true → number_at g.l (start (above_in m) y + height (above_in m) i) ≡ lower m.nv (shifted_mass s m x) y i) (sym e)
            (λ t. lowers (height (above_in m) i) (is_less i t) ∙ lower_from_sum d is_pivot (height (above_in m) i) (is_less i t) ∙ ap (λ (y : ℕ). lower m.nv (shifted_mass s m x) k y) (listed_here i t)) r
        | inr e ↦ later_lowers _ (later j i (omega arith)) ∙ rows.lowers j i (omega arith) q r
      ];
      work_small = work_small;
      lower_small = lower_small;
      least = λ j h q. elim (cases_eq j k) [
        | inl e ↦ subst (λ (y : ℕ). pos (2 ^ 10) ≤ℤ number_at g.d y) (sym e) (subst (λ (y : ℤ). pos (2 ^ 10) ≤ℤ y) (sym here) least)
        | inr e ↦ subst (λ (y : ℤ). pos (2 ^ 10) ≤ℤ y) (sym (others j e)) (rows.least j (omega arith) q)
      ];
      most = λ j h q. elim (cases_eq j k) [
        | inl e ↦ subst (λ (y : ℕ). number_at g.d y ≤ℤ pos (2 ^ 60)) (sym e) (subst (λ (y : ℤ). y ≤ℤ pos (2 ^ 60)) (sym here) most)
        | inr e ↦ subst (λ (y : ℤ). y ≤ℤ pos (2 ^ 60)) (sym (others j e)) (rows.most j (omega arith) q)
      ];
    }

-- ---- before the first row, and after the last
past_small : {F : ℕ} (limit p : ℕ) (xs : List (Number (Unit {0}) F)) → length xs ≡ p → SmallFrom limit p (number_at xs)
past_small limit p xs e = λ q h. omega (arith, ap (λ (y : Number (Unit {0}) _). unsigned_abs y.mid) (get_or_past xs q (plain (pos 0)) (omega arith)))

pub rows_begin : (s : ℤ) (m : Model) (x : Mass) (f : Factor) → FactorRoom m f → HasRows s m x m.nv f
rows_begin s m x f room = record {
  pivots = λ j h q. absurd (omega arith);
  works = λ j i h q r. absurd (omega arith);
  lowers = λ j i h q r. absurd (omega arith);
  work_small = past_small (2 ^ 60) (start (above_in m) m.nv) f.w (room.w ∙ room.listing.whole);
  lower_small = past_small (2 ^ 48) (start (above_in m) m.nv) f.l (room.l ∙ room.listing.whole);
  least = λ j h q. absurd (omega arith);
  most = λ j h q. absurd (omega arith);
}

module _ (s : ℤ) (m : Model) (x : Mass) (is : IsMass m x) (f : Factor) (room : FactorRoom m f) (rows : HasRows s m x 0 f) where
  pub is_factor : IsFactor m f
  is_factor = record {
    room = room;
    lower = λ p. rows.lower_small p (omega arith);
    least = λ k h. rows.least k (omega arith) h;
    most = λ k h. rows.most k (omega arith) h;
  }

  entry_from : {F : ℕ} (xs : List (Number (Unit {0}) F)) (v : ℤ) (k i : ℕ) → k < m.nv
      → (above_in m i k ≡ true → number_at xs (start (above_in m) k + height (above_in m) i) ≡ v) → (above_in m i k ≡ false → v ≡ pos 0)
      → entry (above_in m) xs k i ≡ v
  entry_from xs v k i h listed_is else_none =
      elim (cases_Bool (above_in m i k)) [
        | inl e ↦
            when-true (above_in m i k) _ e ∙ ap (λ (c : ℕ). number_at xs (start (above_in m) k + c)) (height_place m.nv (above_in m) (forest_in m) i k h e)
            ∙ listed_is e
        | inr e ↦ when-false (above_in m i k) _ e ∙ sym (else_none e)
      ]

  pub works_are : (k i : ℕ) → k < m.nv → i < k → entry (above_in m) f.w k i ≡ work m.nv (shifted_mass s m x) k i
  works_are k i h l =
      entry_from f.w (work m.nv (shifted_mass s m x) k i) k i h (λ e. rows.works k i (omega arith) h e)
      (work_apart m.nv (shifted_mass s m x) (above_in m) (forest_in m) (shifted_apart s m x is) k i h l)

  pub lowers_are : (k i : ℕ) → k < m.nv → i < k → entry (above_in m) f.l k i ≡ lower m.nv (shifted_mass s m x) k i
  lowers_are k i h l =
      entry_from f.l (lower m.nv (shifted_mass s m x) k i) k i h (λ e. rows.lowers k i (omega arith) h e)
      (lower_apart m.nv (shifted_mass s m x) (above_in m) (forest_in m) (shifted_apart s m x is) k i h l)
