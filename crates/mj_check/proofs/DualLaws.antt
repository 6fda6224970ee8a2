-- Laws of the lines of a dual.
use Rattle.std.proofs.Common.{◌≡◌, ℕ, ◌+◌, ◌<◌, ℤ, Bool, true, false, cond, List, ◌++◌, ◌∷◌, [], codes, length, Option, Some, None, Result, Ok, Err, refl, sym, ap, ◌∙◌, subst, append_assoc, length-append, arith, inl, inr}
use Rattle.std.proofs.lemmas.Bool.{cases_eq}
use Rattle.std.proofs.Math.ListN.{get_or-append}
use Rattle.std.proofs.Math.Seq.{get_or-append_seam}
use Rattle.mj_types.specs.declared.dual.Dual.{Dual}
use Rattle.mj_trace.specs.Block.{bound_text}
use Rattle.mj_trace.specs.Lines.{numbers_text}
use Rattle.mj_reading.specs.Reading.{NoNumber, Any}
use Rattle.mj_check.specs.declared.rows.ActiveRow.{ActiveRow}
use Rattle.mj_check.specs.declared.rows.Bounds.{Bounds}
use Rattle.mj_check.specs.declared.rejection.Rejection.{Rejection}
use Rattle.mj_check.specs.Judging.{Line}
use Rattle.mj_check.specs.Verdict.{IsDual}
use Rattle.mj_check.specs.Lines.{DualTold, IsDualRowAt, AreDualRows, head_line, bounds_again}
use Rattle.mj_check.specs.Numbers.{dual_at, no_dual}
use Rattle.mj_check.specs.Rows.{raw_bound, row_at, both_bounds}
use Rattle.mj_check.specs.Stated.{StatesRow, HasSameRow, States}
use Rattle.mj_check.proofs.NumberLaws.{none-before}

pub mark-before : (bounds : Bool) (behind : List ℕ) → NoNumber behind → NoNumber (cond bounds (codes " bounds") [] ++ behind)
mark-before true behind b = refl
mark-before false behind b = b

both-before : (x : Bounds) (behind : List ℕ) → NoNumber (both_bounds x ++ behind)
both-before x behind = two (raw_bound x.low)
  where
    two : (low : Option ℤ) → NoNumber ((bound_text low ++ bound_text (raw_bound x.high)) ++ behind)
    two None = refl
    two (Some n) = refl

pub again-before : (bounds : Bool) (x : Bounds) (behind : List ℕ) → NoNumber behind → NoNumber (bounds_again bounds x ++ behind)
again-before true x behind b = both-before x behind
again-before false x behind b = b

pub numbers-before : (n : ℕ) (f : ℕ → ℤ) (behind : List ℕ) → NoNumber ((numbers_text n f ++ codes "\n") ++ behind)
numbers-before n f behind = subst NoNumber (sym (append_assoc (numbers_text n f) (codes "\n") behind)) (none-before n f (codes "\n" ++ behind) refl)

-- ---- the dual that is made from the lines
-- a row that stays
states-row-stays : (d e : Dual) (row : ActiveRow) (told : DualTold) (i : ℕ) → e.nv ≡ d.nv → HasSameRow d e i → StatesRow d row told i → StatesRow e row told i
states-row-stays d e row told i n h s = record {
  g = λ k l. h.g k (omega arith) ∙ s.g k (omega arith);
  r = h.r ∙ s.r;
  b = h.b ∙ s.b;
  low = h.low ∙ s.low;
  high = h.high ∙ s.high;
  place = h.place ∙ s.place;
}

-- and one more
pub states-more : (d e : Dual) (rows : List ActiveRow) (duals : List DualTold) (told : DualTold) → e.nv ≡ d.nv → e.m ≡ d.m + 1 → ((i : ℕ) → i < d.m → HasSameRow d e i) → StatesRow e (row_at rows d.m) told d.m → States d rows duals → States e rows (duals ++ (told ∷ []))
states-more d e rows duals told n m before here s = record {
  count = m ∙ ap (λ (k : ℕ). k + 1) s.count ∙ sym (length-append duals (told ∷ []));
  each = λ i l. elim (cases_eq i d.m) [
    | inl z ↦ subst (λ (j : ℕ). StatesRow e (row_at rows j) (dual_at (duals ++ (told ∷ [])) j) j) (sym z) (subst (λ (t : DualTold). StatesRow e (row_at rows d.m) t d.m) (sym (ap (dual_at (duals ++ (told ∷ []))) s.count ∙ get_or-append_seam duals told [] no_dual)) here)
    | inr o ↦
        let f : i < d.m = omega arith in
        let c = s.count in
        subst (λ (t : DualTold). StatesRow e (row_at rows i) t i) (sym (get_or-append duals (told ∷ []) no_dual i (omega arith))) (states-row-stays d e (row_at rows i) (dual_at duals i) i n (before i f) (s.each i f))
  ];
}

-- a row's line, where the row and the width are told otherwise
pub row-at-same : (bounds : Bool) (width nv : ℕ) (rows : List ActiveRow) (row : ActiveRow) (i at : ℕ) (rest : List ℕ) (r : Result (DualTold × List ℕ) Rejection) → width ≡ nv → row_at rows i ≡ row → IsDualRowAt bounds width row at rest r → IsDualRowAt bounds nv (row_at rows i) at rest r
row-at-same bounds width nv rows row i at rest r n e h = subst (λ (x : ActiveRow). IsDualRowAt bounds nv x at rest r) (sym e) (subst (λ (k : ℕ). IsDualRowAt bounds k row at rest r) n h)

-- ---- the head of a dual, and its rows
pub dual-missed : (bounds : Bool) (nv m : ℕ) (rows : List ActiveRow) (at : ℕ) (rest : List ℕ) (e : Rejection) → m ≡ length rows → Line Any (λ (u : Unit {0}). head_line bounds m nv) at rest (Err e) → IsDual bounds nv rows at rest (Err e)
dual-missed bounds nv m rows at rest e c h = inr (e, subst (λ (k : ℕ). Line Any (λ (u : Unit {0}). head_line bounds k nv) at rest (Err e)) c h, refl)

pub dual-found : (bounds : Bool) (width nv m : ℕ) (rows : List ActiveRow) (at : ℕ) (rest behind : List ℕ) (r : Result (List DualTold × List ℕ) Rejection) → m ≡ length rows → width ≡ nv → Line Any (λ (u : Unit {0}). head_line bounds m nv) at rest (Ok (tt, behind)) → AreDualRows bounds width rows (length rows) (at + 1) behind r → IsDual bounds nv rows at rest r
dual-found bounds width nv m rows at rest behind r c n h d =
    inl (
      (tt, behind),
      subst (λ (k : ℕ). Line Any (λ (u : Unit {0}). head_line bounds k nv) at rest (Ok (tt, behind))) c h,
      subst (λ (k : ℕ). AreDualRows bounds k rows (length rows) (at + 1) behind r) n d,
    )
