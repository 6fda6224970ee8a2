-- A dual that holds the entries of rows: none, one row more, and what it holds in the end.
use Rattle.std.proofs.Common.{◌≡◌, ℕ, ◌+◌, ◌<◌, Bool, true, false, ℤ, pos, Option, None, List, length, set, get_or, get_or-set_same, get_or-set_other, refl, sym, ap, ap₂, ◌∙◌, arith, inl, inr}
use Rattle.std.proofs.lemmas.Bool.{cases_eq, cases_lt}
use Rattle.std.proofs.Math.Path.{fun_ext}
use Rattle.fx_whole.specs.Counting.{count_to}
use Rattle.fx_whole.specs.Entries.{below}
use Rattle.fx_whole.proofs.CountLaws.{count_to-yes, count_to-no, count_to-ext}
use Rattle.fx_whole.proofs.EntryLaws.{below-within, below-past}
use Rattle.fx_num.specs.declared.number.Number.{Number}
use Rattle.mj_types.specs.declared.dual.Dual.{Dual}
use Rattle.mj_types.specs.declared.dual.DualRow.{DualRow}
use Rattle.mj_types.specs.Duals.{bound, bound_at, entry_at, wide_at}
use Rattle.mj_types.specs.Parts.{number_at, plain}
use Rattle.mj_types.specs.StepValues.{DualValues, dual_values}
use Rattle.mj_dual.specs.Passing.{passing}
use Rattle.mj_dual.specs.Entries.{Entry, HasEntries, IsPushed, dual_from}
use Rattle.mj_dual.proofs.PassingLaws.{passing-last, passing-more, passing-below, passing-ext}

-- ---- none
pub entries-none : (nv : ℕ) (p : ℕ → Bool) (e : ℕ → Entry) (d : Dual) → d.nv ≡ nv → d.m ≡ 0 → HasEntries nv 0 p e d
entries-none nv p e d w z = record {
  dofs = w;
  count = z;
  numbers = λ k j h l. absurd (omega arith);
  regularizer = λ k h. absurd (omega arith);
  right_side = λ k h. absurd (omega arith);
  low_bound = λ k h. absurd (omega arith);
  high_bound = λ k h. absurd (omega arith);
  place = λ k h. absurd (omega arith);
}

-- ---- the same of rows that are the same
same_at : {A : Type 0} (n : ℕ) (p q : ℕ → Bool) (e f : ℕ → Entry) (read : Entry → A) → ((i : ℕ) → i < n → p i ≡ q i) → ((i : ℕ) → i < n → e i ≡ f i)
    → (k : ℕ) → k < count_to n q → (x : A) → (k < count_to n p → x ≡ read (e (passing n p k))) → x ≡ read (f (passing n q k))
same_at n p q e f read tests entries k h x is =
    let l : k < count_to n p = omega (arith, count_to-ext n p q tests) in
    is l ∙ ap read (entries (passing n p k) (passing-below n p k l) ∙ ap f (passing-ext n p q tests k))

pub entries-ext : (nv n : ℕ) (p q : ℕ → Bool) (e f : ℕ → Entry) (d : Dual) → ((i : ℕ) → i < n → p i ≡ q i) → ((i : ℕ) → i < n → e i ≡ f i)
    → HasEntries nv n p e d → HasEntries nv n q f d
entries-ext nv n p q e f d tests entries has = record {
  dofs = has.dofs;
  count = has.count ∙ count_to-ext n p q tests;
  numbers = λ k j h l. same_at n p q e f (λ x. x.g j) tests entries k h _ (λ r. has.numbers k j r l);
  regularizer = λ k h. same_at n p q e f (λ x. x.r) tests entries k h _ (has.regularizer k);
  right_side = λ k h. same_at n p q e f (λ x. x.b) tests entries k h _ (has.right_side k);
  low_bound = λ k h. same_at n p q e f (λ x. x.low) tests entries k h _ (has.low_bound k);
  high_bound = λ k h. same_at n p q e f (λ x. x.high) tests entries k h _ (has.high_bound k);
  place = λ k h. (let l : k < count_to n p = omega (arith, count_to-ext n p q tests) in has.place k l ∙ ap (λ (i : ℕ). i + 1) (passing-ext n p q tests k));
}

-- ---- one row more that doesn't pass
skip_at : {A : Type 0} (n : ℕ) (p : ℕ → Bool) (f : ℕ → A) → p n ≡ false
    → (k : ℕ) → k < count_to (n + 1) p → (x : A) → (k < count_to n p → x ≡ f (passing n p k)) → x ≡ f (passing (n + 1) p k)
skip_at n p f fails k h x is =
    let l : k < count_to n p = omega (arith, count_to-no n p fails) in
    is l ∙ ap f (sym (passing-more n p k l))

pub entries-skip : (nv n : ℕ) (p : ℕ → Bool) (e : ℕ → Entry) (d : Dual) → p n ≡ false → HasEntries nv n p e d → HasEntries nv (n + 1) p e d
entries-skip nv n p e d fails has = record {
  dofs = has.dofs;
  count = has.count ∙ sym (count_to-no n p fails);
  numbers = λ k j h l. skip_at n p (λ (i : ℕ). (e i).g j) fails k h _ (λ r. has.numbers k j r l);
  regularizer = λ k h. skip_at n p (λ (i : ℕ). (e i).r) fails k h _ (has.regularizer k);
  right_side = λ k h. skip_at n p (λ (i : ℕ). (e i).b) fails k h _ (has.right_side k);
  low_bound = λ k h. skip_at n p (λ (i : ℕ). (e i).low) fails k h _ (has.low_bound k);
  high_bound = λ k h. skip_at n p (λ (i : ℕ). (e i).high) fails k h _ (has.high_bound k);
  place = λ k h. skip_at n p (λ (i : ℕ). i + 1) fails k h _ (has.place k);
}

-- ---- one row more that passes
-- of a list after a write at the place m, which is the count of those before
push_at : {A B : Type 0} (read : A → B) (none : A) (n : ℕ) (p : ℕ → Bool) (f : ℕ → B) (m : ℕ) (old new : List A) (x : A) → p n ≡ true → m ≡ count_to n p
    → new ≡ set old m x → m < length old → read x ≡ f n → ((k : ℕ) → k < count_to n p → read (get_or old k none) ≡ f (passing n p k))
    → (k : ℕ) → k < count_to (n + 1) p → read (get_or new k none) ≡ f (passing (n + 1) p k)
push_at read none n p f m old new x passes count is room here before k h =
    elim (cases_eq k m) [
      | inl q ↦
          let at = ap₂ (λ ys (i : ℕ). get_or ys i none) is q ∙ get_or-set_same old m x none room in
          let place : passing (n + 1) p k ≡ n = ap (passing (n + 1) p) (q ∙ count) ∙ passing-last n p passes in
          ap read at ∙ here ∙ ap f (sym place)
      | inr q ↦
          let l : k < count_to n p = omega (arith, count_to-yes n p passes) in
          let at = ap (λ ys. get_or ys k none) is ∙ get_or-set_other old m k x none q in
          ap read at ∙ before k l ∙ ap f (sym (passing-more n p k l))
    ]

pub entries-push : (nv n : ℕ) (p : ℕ → Bool) (e : ℕ → Entry) (numbers : List (Number (Unit {0}) 24)) (row : DualRow) (old new : Dual) → p n ≡ true
    → HasEntries nv n p e old → IsPushed numbers row old new
    → ((j : ℕ) → j < nv → number_at numbers j ≡ (e n).g j) → row.r.raw ≡ (e n).r → row.b.mid ≡ (e n).b → bound row.low ≡ (e n).low → bound row.high ≡ (e n).high → row.place ≡ n + 1
    → HasEntries nv (n + 1) p e new
entries-push nv n p e numbers row old new passes has put here r b low high place = record {
  dofs = put.dofs ∙ has.dofs;
  count = put.count ∙ ap (λ (k : ℕ). k + 1) has.count ∙ sym (count_to-yes n p passes);
  numbers = whole;
  regularizer = push_at (λ x. x.raw) (record { raw = pos 0 }) n p (λ i. (e i).r) old.m old.r new.r row.r passes has.count put.r put.r_room r has.regularizer;
  right_side = push_at (λ x. x.mid) (plain (pos 0)) n p (λ i. (e i).b) old.m old.b new.b row.b passes has.count put.b put.b_room b has.right_side;
  low_bound = push_at bound None n p (λ i. (e i).low) old.m old.low new.low row.low passes has.count put.low put.low_room low has.low_bound;
  high_bound = push_at bound None n p (λ i. (e i).high) old.m old.high new.high row.high passes has.count put.high put.high_room high has.high_bound;
  place = push_at (λ (x : ℕ). x) 0 n p (λ (i : ℕ). i + 1) old.m old.place new.place row.place passes has.count put.place put.place_room place has.place;
}
  where
    whole : (k j : ℕ) → k < count_to (n + 1) p → j < nv → entry_at nv new.g k j ≡ (e (passing (n + 1) p k)).g j
    whole k j h l =
        let wide : new.nv ≡ nv = put.dofs ∙ has.dofs in
        elim (cases_eq k old.m) [
          | inl q ↦
              let at : passing (n + 1) p k ≡ n = ap (passing (n + 1) p) (q ∙ has.count) ∙ passing-last n p passes in
              ap₂ (λ (w i : ℕ). entry_at w new.g i j) (sym wide) q ∙ put.here j (omega (arith, has.dofs)) ∙ here j l ∙ ap (λ (i : ℕ). (e i).g j) (sym at)
          | inr q ↦
              let s : k < count_to n p = omega (arith, count_to-yes n p passes, has.count) in
              ap (λ (w : ℕ). entry_at w new.g k j) (sym wide) ∙ put.before k j (omega (arith, has.count)) (omega (arith, has.dofs))
              ∙ ap (λ (w : ℕ). entry_at w old.g k j) has.dofs ∙ has.numbers k j s l ∙ ap (λ (i : ℕ). (e i).g j) (sym (passing-more n p k s))
        ]

-- ---- in the end
pub same_below : {A : Type 0} (none : A) (m n : ℕ) (f g : ℕ → A) → m ≡ n → ((k : ℕ) → k < n → f k ≡ g k) → below none m f ≡ below none n g
same_below none m n f g e h =
    ap (λ (i : ℕ). below none i f) e
    ∙ fun_ext (λ k. elim (cases_lt k n) [
      | inl l ↦ below-within none n f k l ∙ h k l ∙ sym (below-within none n g k l)
      | inr l ↦ below-past none n f k l ∙ sym (below-past none n g k l)
    ])

pub same_values : (m m' nv nv' : ℕ) (g g' : ℕ → ℕ → ℤ) (r r' b b' : ℕ → ℤ) (low low' high high' : ℕ → Option ℤ) (place place' : ℕ → ℕ)
    → m ≡ m' → nv ≡ nv' → g ≡ g' → r ≡ r' → b ≡ b' → low ≡ low' → high ≡ high' → place ≡ place'
    → let x : DualValues = record { problem = record { m = m; nv = nv; g = g; r = r; b = b; low = low; high = high }; place = place } in
    let y : DualValues = record { problem = record { m = m'; nv = nv'; g = g'; r = r'; b = b'; low = low'; high = high' }; place = place' } in
    x ≡ y
same_values m m' nv nv' g g' r r' b b' low low' high high' place place' em en eg er eb el eh ep = rw (em, en, eg, er, eb, el, eh, ep) refl

pub entries-whole : (nv n : ℕ) (p : ℕ → Bool) (e : ℕ → Entry) (d : Dual) → HasEntries nv n p e d → dual_values d ≡ dual_from nv n p e
entries-whole nv n p e d has =
    same_values _ _ _ _ _ _ _ _ _ _ _ _ _ _ _ _ has.count has.dofs
    (same_below (λ k. pos 0) d.m (count_to n p) (λ i. below (pos 0) d.nv (entry_at d.nv d.g i)) (λ i. below (pos 0) nv (e (passing n p i)).g) has.count
    (λ k h. same_below (pos 0) d.nv nv (entry_at d.nv d.g k) (e (passing n p k)).g has.dofs (λ j l. ap (λ (w : ℕ). entry_at w d.g k j) has.dofs ∙ has.numbers k j h l)))
    (same_below (pos 0) d.m (count_to n p) (wide_at d.r) (λ k. (e (passing n p k)).r) has.count has.regularizer)
    (same_below (pos 0) d.m (count_to n p) (number_at d.b) (λ k. (e (passing n p k)).b) has.count has.right_side)
    (same_below None d.m (count_to n p) (bound_at d.low) (λ k. (e (passing n p k)).low) has.count has.low_bound)
    (same_below None d.m (count_to n p) (bound_at d.high) (λ k. (e (passing n p k)).high) has.count has.high_bound)
    (same_below 0 d.m (count_to n p) (λ k. get_or d.place k 0) (λ k. passing n p k + 1) has.count has.place)
