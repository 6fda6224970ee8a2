-- The rows of a dual, when one more is written behind them.
use Rattle.std.proofs.Common.{◌≡◌, ◌≢◌, ℕ, ◌+◌, ◌*◌, ◌^◌, ◌<◌, ◌≤◌, ℤ, pos, ◌*ℤ◌, ◌≤ℤ◌, unsigned_abs, IsTrue, List, length, get_or, Option, None, refl, sym, ap, ◌∙◌, subst, arith, inl, inr}
use Rattle.std.proofs.lemmas.Bool.{cases_eq}
use Rattle.std.proofs.lemmas.Nat.{mul-add-lt}
use Rattle.fx_whole.specs.Sums.{sum_to}
use Rattle.fx_whole.proofs.SumLaws.{sum_to-ext}
use Rattle.fx_num.specs.declared.number.Number.{Number}
use Rattle.fx_num.specs.declared.number.Wide.{Wide}
use Rattle.fx_whole.proofs.EntryLaws.{put-keeps}
use Rattle.mj_types.specs.declared.dual.Dual.{Dual}
use Rattle.mj_types.specs.declared.dual.DualRow.{DualRow}
use Rattle.mj_types.specs.Parts.{number_at, plain}
use Rattle.mj_types.specs.Problems.{problem}
use Rattle.mj_optimum.specs.Problem.{IsRegular}
use Rattle.std.proofs.lemmas.Int.{ints}
use Rattle.mj_types.specs.Duals.{AreRows, AreSolvable, IsSolvableRow, MayBeRow, MayBeSolved, wide_at, bound, bound_at, entry_at, is_in_range, is_low, is_high}

-- what a put leaves of a list
pub record IsPut {A : Type 0} (old new : List A) (i : ℕ) (x : A) : Type 0 where
  pub len : length new ≡ length old
  pub same : (d : A) → get_or new i d ≡ x
  pub others : (d : A) (j : ℕ) → j ≢ i → get_or new j d ≡ get_or old j d

-- and what a row that is copied behind the first m leaves of a table
pub record IsCopied (m nv : ℕ) (old new : List (Number (Unit {0}) 24)) (numbers : List (Number (Unit {0}) 24)) : Type 0 where
  pub len : length new ≡ length old
  pub here : (k : ℕ) → k < nv → number_at new (m * nv + k) ≡ number_at numbers k
  pub before : (j : ℕ) → j < m * nv → number_at new j ≡ number_at old j

kept : {A : Type 0} (P : A → Type 0) (d : A) (old new : List A) (m : ℕ) (x : A) → IsPut old new m x → ((i : ℕ) → i < m → P (get_or old i d)) → P x → (i : ℕ) → i < m + 1 → P (get_or new i d)
kept P d old new m x put held here = put-keeps (λ i. P) d old new m x (put.same d) (put.others d) here held

pub entry-before : (m nv : ℕ) (old new numbers : List (Number (Unit {0}) 24)) → IsCopied m nv old new numbers → (i k : ℕ) → i < m → k < nv → entry_at nv new i k ≡ entry_at nv old i k
entry-before m nv old new numbers copied i k h l = copied.before (i * nv + k) (omega (arith, mul-add-lt i nv k m h l))

each : (P : ℕ → Type 0) (m : ℕ) → ((i : ℕ) → i < m → P i) → P m → (i : ℕ) → i < m + 1 → P i
each P m held here i h = elim (cases_eq i m) [ inl e ↦ subst P (sym e) here | inr n ↦ held i (omega arith) ]

pub rows-more : (m nv : ℕ) (place place' : List ℕ) (g g' : List (Number (Unit {0}) 24)) (diag diag' r r' : List (Wide 48)) (b b' : List (Number (Unit {0}) 32)) (low low' high high' : List (Option (Number (Unit {0}) 20)))
    (numbers : List (Number (Unit {0}) 24)) (row : DualRow)
    → AreRows m nv place g diag r b low high → MayBeRow nv numbers row
    → m < 1024 → m < length place → (m + 1) * nv ≤ length g → m < length diag → m < length r → m < length b → m < length low → m < length high
    → IsPut place place' m row.place → IsCopied m nv g g' numbers → IsPut diag diag' m row.diag → IsPut r r' m row.r → IsPut b b' m row.b → IsPut low low' m row.low → IsPut high high' m row.high
    → AreRows (m + 1) nv place' g' diag' r' b' low' high'
rows-more m nv place place' g g' diag diag' r r' b b' low low' high high' numbers row old may few hp hg hd hr hb hl hh put_place copied put_diag put_r put_b put_low put_high =
    record {
      few_rows = omega arith;
      few_dofs = old.few_dofs;
      place_room = omega (arith, put_place.len);
      g_room = omega (arith, copied.len);
      diag_room = omega (arith, put_diag.len);
      r_room = omega (arith, put_r.len);
      b_room = omega (arith, put_b.len);
      low_room = omega (arith, put_low.len);
      high_room = omega (arith, put_high.len);
      reduced = λ i k h l. each (λ a. unsigned_abs (entry_at nv g' a k) ≤ 2 ^ 44) m
          (λ a q. rw (entry-before m nv g g' numbers copied a k q l) (old.reduced a k q l)) (rw (copied.here k l) (may.reduced k l)) i h;
      regular = kept (λ (x : Wide 48). pos 1 ≤ℤ x.raw) (record { raw = pos 0 }) r r' m row.r put_r old.regular may.ranges.regular;
      r_limit = kept (λ (x : Wide 48). x.raw ≤ℤ pos (2 ^ 72)) (record { raw = pos 0 }) r r' m row.r put_r old.r_limit may.ranges.r_limit;
      b_limit = kept (λ (x : Number (Unit {0}) 32). unsigned_abs x.mid ≤ 2 ^ 56) (plain (pos 0)) b b' m row.b put_b old.b_limit may.ranges.b_limit;
      low_bound = kept (λ (x : Option (Number (Unit {0}) 20)). IsTrue (is_in_range (bound x))) None low low' m row.low put_low old.low_bound may.ranges.low_bound;
      high_bound = kept (λ (x : Option (Number (Unit {0}) 20)). IsTrue (is_in_range (bound x))) None high high' m row.high put_high old.high_bound may.ranges.high_bound;
    }

-- ---- the regularizer of each row is above 0
pub regular : (d : Dual) → IsRegular (problem d)
regular d i h = let r : pos 1 ≤ℤ wide_at d.r i = d.rows.regular i h in omega (arith, ints)

-- ---- what a solver asks
pub solvable-over : (n m : ℕ) (f g : ℕ → ℤ) (d e : ℤ) (low low' high high' : Option ℤ) → n ≡ m → ((k : ℕ) → k < m → f k ≡ g k) → d ≡ e → low ≡ low' → high ≡ high' → IsSolvableRow n f d low high → IsSolvableRow m g e low' high'
solvable-over n m f g d e low low' high high' width numbers diag lows highs is =
    record {
      diagonal = sym diag ∙ is.diagonal ∙ ap (λ a. sum_to a (λ k. f k *ℤ f k)) width ∙ sum_to-ext m (λ k. f k *ℤ f k) (λ k. g k *ℤ g k) (λ k l. ap (λ x. x *ℤ x) (numbers k l));
      not_idle = subst (λ (a : ℤ). pos (2 ^ 28) ≤ℤ a) diag is.not_idle;
      diag_limit = subst (λ (a : ℤ). a ≤ℤ pos (2 ^ 72)) diag is.diag_limit;
      low_bound = subst (λ (a : Option ℤ). IsTrue (is_low a)) lows is.low_bound;
      high_bound = subst (λ (a : Option ℤ). IsTrue (is_high a)) highs is.high_bound;
    }

pub solvable-more : (m nv : ℕ) (g g' : List (Number (Unit {0}) 24)) (diag diag' : List (Wide 48)) (low low' high high' : List (Option (Number (Unit {0}) 20))) (numbers : List (Number (Unit {0}) 24)) (row : DualRow)
    → IsCopied m nv g g' numbers → IsPut diag diag' m row.diag → IsPut low low' m row.low → IsPut high high' m row.high → AreSolvable m nv g diag low high → MayBeSolved nv numbers row → AreSolvable (m + 1) nv g' diag' low' high'
solvable-more m nv g g' diag diag' low low' high high' numbers row copied put_diag put_low put_high old may =
    record {
      each = each (λ a. IsSolvableRow nv (entry_at nv g' a) (wide_at diag' a) (bound_at low' a) (bound_at high' a)) m
          (λ a q. let other : a ≢ m = λ e. absurd (omega arith) in
          solvable-over nv nv (entry_at nv g a) (entry_at nv g' a) (wide_at diag a) (wide_at diag' a) (bound_at low a) (bound_at low' a) (bound_at high a) (bound_at high' a) refl
          (λ k l. sym (entry-before m nv g g' numbers copied a k q l)) (sym (ap (λ x. x.raw) (put_diag.others (record { raw = pos 0 }) a other))) (sym (ap bound (put_low.others None a other))) (sym (ap bound (put_high.others None a other))) (old.each a q))
          (solvable-over nv nv (number_at numbers) (entry_at nv g' m) row.diag.raw (wide_at diag' m) (bound row.low) (bound_at low' m) (bound row.high) (bound_at high' m) refl
          (λ k l. sym (copied.here k l)) (sym (ap (λ x. x.raw) (put_diag.same (record { raw = pos 0 })))) (sym (ap bound (put_low.same None))) (sym (ap bound (put_high.same None))) may);
    }
