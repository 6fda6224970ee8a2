-- A line's text tells what it was made from: two of them, with what is behind them, are the same only for the same thing.
use Rattle.std.proofs.Common.{◌≡◌, ℕ, zero, suc, ◌+◌, ◌-◌, ◌^◌, ◌<◌, ℤ, pos, negsuc, Bool, true, false, ◌&&◌, List, [], ◌∷◌, ◌++◌, Option, Some, None, IfSome, length, take, drop, get_or, refl, sym, ap, ◌∙◌, subst, append_assoc, arith, add-one, decimal, codes, inl, inr}
use Rattle.std.proofs.lemmas.Bool.{cases_eq}
use Rattle.std.specs.Fmt.{signed_decimal}
use Rattle.std.specs.List.{list_all}
use Rattle.std.specs.Str.Parse.{digits_value}
use Rattle.std.proofs.Math.Seq.{take-append_seam, drop-append_seam}
use Rattle.fx_whole.proofs.JoinedLaws.{joined-none, joined-more}
use Rattle.fx_num.specs.declared.number.Wide.{Wide}
use Rattle.fx_text.specs.Raw.{IsWide}
use Rattle.fx_text.proofs.DigitLaws.{AreDigits, decimal-digits, value-decimal}
use Rattle.mj_optimum.specs.declared.stop.Stop.{Stop}
use Rattle.mj_optimum.specs.declared.stop.Stop.TheVariants as stop
use Rattle.mj_types.specs.declared.range.End.{End}
use Rattle.mj_types.specs.declared.range.End.TheVariants as finish
use Rattle.mj_types.specs.declared.range.Quantity.{Quantity}
use Rattle.mj_types.specs.Ranges.{quantity_name}
use Rattle.mj_trace.specs.Block.{bound_text, stop_text}
use Rattle.mj_trace.specs.Lines.{line, spaced, numbers_text}
use Rattle.mj_trace.specs.Trace.{end_text}
use Rattle.mj_reading.specs.Reading.{Anything, NoNumber, NoLetter, is_number_byte, is_letter, goes_on, span, Is, Both, Any, IsBetween, IsRaw, raw_text, IsOptional, optional_text}
use Rattle.mj_reading.proofs.ReadingLaws.{signed-bytes, count-bytes, AreLetters, optional-bytes, mark-alone}
use Rattle.mj_check.specs.declared.header.Header.{Header}
use Rattle.mj_check.specs.declared.numbers.Pair.{Pair}
use Rattle.mj_check.specs.declared.ball.BallTold.{BallTold}
use Rattle.mj_check.specs.declared.counts.Counts.{Counts}
use Rattle.mj_check.specs.declared.rows.Bounds.{Bounds}
use Rattle.mj_check.specs.declared.rows.Told.{Told}
use Rattle.mj_check.specs.declared.rows.RowTold.{RowTold}
use Rattle.mj_check.specs.declared.rows.ActiveRow.{ActiveRow}
use Rattle.mj_check.specs.declared.sources.SourceName.{SourceName}
use Rattle.mj_check.specs.declared.sources.SourceName.TheVariants as name
use Rattle.mj_check.specs.declared.sources.SourceTold.{SourceTold}
use Rattle.mj_check.specs.Alike.{Alike}
use Rattle.mj_check.specs.Lines.{IsHeader, header_line, Agree, AreWide, IsPair, numbers_line, residual_line, pair_line, IsStop, IsCost, cost_line, DualTold, IsDualTold, SameDualTold, dual_line, bounds_again, ball_line, IsBallTold, IsBall, IsEnd}
use Rattle.mj_check.specs.Rows.{AreCounts, counts_line, raw_bound, IsBound, AreBounds, bounds_line, told_line, IsTold, rest_line, row_line, MayBeRow}
use Rattle.mj_check.specs.Sources.{name_text, source_named, IsNameOf, IsEdge, edge_text, IsSource, source_line, IsKind}
use Rattle.mj_check.proofs.NumberLaws.{none-before}
use Rattle.mj_check.proofs.SourceLaws.{source-told}
use Rattle.mj_check.proofs.BoundLaws.{bound-told, bound-before, bounds-before, same-bounds, untold-only}
use Rattle.mj_check.proofs.RowLaws.{same-told, rest-before, idle-only}
use Rattle.mj_check.proofs.BallLaws as ball
use Rattle.mj_check.proofs.EndLaws.{early-text}
use Rattle.mj_check.proofs.TokenLaws.{kind-letters}

-- two texts of a piece, with what is behind them, are the same only for the same thing
pub record Tells {V : Type 0} (Same : V → V → Type 0) (InForm : V → Type 0) (text : V → List ℕ) (Behind : List ℕ → Type 0) : Type 0 where
  pub one : (v w : V) (b c : List ℕ) → InForm v → InForm w → Behind b → Behind c → text v ++ b ≡ text w ++ c → (b ≡ c) × Same v w

-- ---- a text that is fixed, and pieces one after another
word-one : (text b c : List ℕ) → text ++ b ≡ text ++ c → b ≡ c
word-one text b c e = sym (drop-append_seam text b) ∙ ap (drop (length text)) e ∙ drop-append_seam text c

pub tells-word : (text : List ℕ) → Tells Is Any (λ (u : Unit {0}). text) Anything
tells-word text = record { one = λ v w b c _ _ _ _ e. (word-one text b c e, refl) }

-- behind which no number goes on
tells-piece : (text : List ℕ) → Tells Is Any (λ (u : Unit {0}). text) NoNumber
tells-piece text = record { one = λ v w b c _ _ _ _ e. (word-one text b c e, refl) }

-- of which what is in form may depend on the first
pub tells-after : {A B : Type 0} {R : B → B → Type 0} {F : A → Type 0} {T : A → List ℕ} {U : B → List ℕ} {P Q : List ℕ → Type 0} (G : A → B → Type 0) → Tells Is F T P → ((a : A) → F a → Tells R (G a) U Q) → ((w : B) (behind : List ℕ) → Q behind → P (U w ++ behind)) → Tells {V = A × B} (Both Is R) (λ x. F x.0 × G x.0 x.1) (λ x. T x.0 ++ U x.1) Q
tells-after {T = T} {U} G p q k = record {
  one = λ v w b c f g x y e.
      let one = p.one v.0 w.0 (U v.1 ++ b) (U w.1 ++ c) f.0 g.0 (k v.1 b x) (k w.1 c y) (sym (append_assoc (T v.0) (U v.1) b) ∙ e ∙ append_assoc (T w.0) (U w.1) c) in
      let two = (q v.0 f.0).one v.1 w.1 b c f.1 (subst (λ a. G a w.1) (sym one.1) g.1) x y one.0 in
      (two.0, (one.1, two.1));
}

pub tells-then : {A B : Type 0} {S : A → A → Type 0} {R : B → B → Type 0} {F : A → Type 0} {G : B → Type 0} {T : A → List ℕ} {U : B → List ℕ} {P Q : List ℕ → Type 0} → Tells S F T P → Tells R G U Q → ((w : B) (behind : List ℕ) → Q behind → P (U w ++ behind)) → Tells {V = A × B} (Both S R) (λ x. F x.0 × G x.1) (λ x. T x.0 ++ U x.1) Q
tells-then {T = T} {U} p q k = record {
  one = λ v w b c f g x y e.
      let one = p.one v.0 w.0 (U v.1 ++ b) (U w.1 ++ c) f.0 g.0 (k v.1 b x) (k w.1 c y) (sym (append_assoc (T v.0) (U v.1) b) ∙ e ∙ append_assoc (T w.0) (U w.1) c) in
      let two = q.one v.1 w.1 b c f.1 g.1 x y one.0 in
      (two.0, (one.1, two.1));
}

-- a piece told otherwise
pub tells-as : {V W : Type 0} {S : V → V → Type 0} {F : V → Type 0} {T : V → List ℕ} {P : List ℕ → Type 0} {R : W → W → Type 0} {G : W → Type 0} {U : W → List ℕ} (f : W → V) → ((w : W) → G w → U w ≡ T (f w)) → ((w : W) → G w → F (f w)) → ((v w : W) → S (f v) (f w) → R v w) → Tells S F T P → Tells R G U P
tells-as f t i s p = record {
  one = λ v w b c g h x y e.
      let k = p.one (f v) (f w) b c (i v g) (i w h) x y (ap (λ z. z ++ b) (sym (t v g)) ∙ e ∙ ap (λ z. z ++ c) (t w h)) in
      (k.0, s v w k.1);
}

-- ---- numbers and names
abbrev AreOf : (ℕ → Bool) → List ℕ → Type 0
AreOf test text = list_all test text ≡ true

both : (a b : Bool) → a && b ≡ true → (a ≡ true) × (b ≡ true)
both true b h = (refl, h)
both false b h = absurd cc

span-stop : (test : ℕ → Bool) (s : List ℕ) → goes_on test s ≡ false → span test s ≡ 0
span-stop test [] n = refl
span-stop test (b ∷ bs) n = rw n refl

span-text : (test : ℕ → Bool) (t s : List ℕ) → AreOf test t → goes_on test s ≡ false → span test (t ++ s) ≡ length t
span-text test [] s h n = span-stop test s n
span-text test (b ∷ t) s h n =
    let p = both (test b) (list_all test t) h in
    rw p.0 (ap suc (span-text test t s p.1 n))

-- bytes for which a test holds end where it fails
token : (test : ℕ → Bool) (t s b c : List ℕ) → AreOf test t → AreOf test s → goes_on test b ≡ false → goes_on test c ≡ false → t ++ b ≡ s ++ c → (b ≡ c) × (t ≡ s)
token test t s b c f g p q e =
    let n : length t ≡ length s = sym (span-text test t b f p) ∙ ap (span test) e ∙ span-text test s c g q in
    (sym (drop-append_seam t b) ∙ (λ i. drop (n i) (e i)) ∙ drop-append_seam s c, sym (take-append_seam t b) ∙ (λ i. take (n i) (e i)) ∙ take-append_seam s c)

pub tells-count : (least most : ℕ) → most < 2 ^ 128 → Tells Is (IsBetween least most) decimal NoNumber
tells-count least most m = record {
  one = λ v w b c f g p q e.
      let t = token is_number_byte (decimal v) (decimal w) b c (count-bytes least most m v f) (count-bytes least most m w g) p q e in
      (t.0, sym (value-decimal v (omega arith)) ∙ ap (digits_value 10) t.1 ∙ value-decimal w (omega arith));
}

no-sign : (n : ℕ) (r : List ℕ) → n < 10 ^ 64 → decimal n ≡ 45 ∷ r → ⊥
no-sign n r l e = omega (arith, (subst AreDigits e (decimal-digits n l)) 0 (omega arith))

signed-one : (v w : ℤ) → IsWide v → IsWide w → signed_decimal v ≡ signed_decimal w → v ≡ w
signed-one (pos n) (pos m) f g e = ap pos (sym (value-decimal n (omega arith)) ∙ ap (digits_value 10) e ∙ value-decimal m (omega arith))
signed-one (negsuc n) (negsuc m) f g e =
    let s : suc n ≡ suc m = sym (value-decimal (suc n) (omega arith)) ∙ ap (digits_value 10) (ap (drop 1) e) ∙ value-decimal (suc m) (omega arith) in
    let k : n ≡ m = omega (arith, s) in
    ap negsuc k
signed-one (pos n) (negsuc m) f g e = absurd (no-sign n (decimal (suc m)) (omega arith) e)
signed-one (negsuc n) (pos m) f g e = absurd (no-sign m (decimal (suc n)) (omega arith) (sym e))

tells-signed : Tells Is IsWide signed_decimal NoNumber
tells-signed = record {
  one = λ v w b c f g p q e.
      let t = token is_number_byte (signed_decimal v) (signed_decimal w) b c (signed-bytes v f) (signed-bytes w g) p q e in
      (t.0, signed-one v w f g t.1);
}

tells-spaced : Tells Is IsWide spaced NoNumber
tells-spaced = tells-as (λ n. (tt, n)) (λ w g. refl) (λ w g. (tt, g)) (λ v w s. s.1) (tells-then (tells-word (codes " ")) tells-signed (λ w b q. tt))

wide-one : (v w : Wide 0) → v.raw ≡ w.raw → v ≡ w
wide-one v w e = ap (λ z. record { raw = z }) e

tells-raw : Tells Is IsRaw raw_text NoNumber
tells-raw = tells-as (λ x. x.raw) (λ w g. refl) (λ w g. g) wide-one tells-signed

tells-wide : Tells Is IsRaw (λ x. spaced x.raw) NoNumber
tells-wide = tells-as (λ x. x.raw) (λ w g. refl) (λ w g. g) wide-one tells-spaced

-- a label and a number
tells-labelled : (label : List ℕ) (least most : ℕ) → most < 2 ^ 128 → Tells Is (IsBetween least most) (λ n. label ++ decimal n) NoNumber
tells-labelled label least most m = tells-as (λ n. (tt, n)) (λ w g. refl) (λ w g. (tt, g)) (λ v w s. s.1) (tells-then (tells-word label) (tells-count least most m) (λ w b q. tt))

-- a label and a number on a line
tells-line : (label : List ℕ) (least most : ℕ) → most < 2 ^ 128 → Tells Is (IsBetween least most) (λ n. line label (decimal n)) Anything
tells-line label least most m = tells-as (λ n. (n, tt)) (λ w g. refl) (λ w g. (g, tt)) (λ v w s. s.0) (tells-then (tells-labelled label least most m) (tells-word (codes "\n")) (λ w b q. refl))

-- a list of numbers
tells-none : Tells (Agree 0) (AreWide 0) (numbers_text 0) NoNumber
tells-none = record {
  one = λ v w b c f g p q e.
      (ap (λ (y : List ℕ). y ++ b) (sym (joined-none (λ i. spaced (v i)))) ∙ e ∙ ap (λ (y : List ℕ). y ++ c) (joined-none (λ i. spaced (w i))), λ k l. absurd (omega arith));
}

agree-more : (P : ℕ → Type 0) (i : ℕ) → ((k : ℕ) → k < i → P k) → P i → (k : ℕ) → k < i + 1 → P k
agree-more P i h x k l = elim (cases_eq k i) [ inl e ↦ subst P (sym e) x | inr n ↦ h k (omega arith) ]

tells-more : (i : ℕ) → Tells (Agree i) (AreWide i) (numbers_text i) NoNumber → Tells (Agree (i + 1)) (AreWide (i + 1)) (numbers_text (i + 1)) NoNumber
tells-more i p =
    tells-as (λ (w : ℕ → ℤ). (w, w i)) (λ w g. joined-more i (λ k. spaced (w k))) (λ w g. (λ k l. g k (omega arith), g i (omega arith))) (λ v w s. agree-more (λ k. v k ≡ w k) i s.0 s.1)
    (tells-then p tells-spaced (λ w b q. refl))

pub tells-numbers : (n : ℕ) → Tells (Agree n) (AreWide n) (numbers_text n) NoNumber
tells-numbers zero = tells-none
tells-numbers (suc n) = subst (λ (k : ℕ). Tells (Agree k) (AreWide k) (numbers_text k) NoNumber) (add-one n) (tells-more n (tells-numbers n))

-- ---- the lines of a step
pub tells-header : Tells Is IsHeader header_line Anything
tells-header =
    let p = tells-then (tells-labelled (codes "trace ") 1 2 (omega arith)) (tells-labelled (codes " nq=") 1 128 (omega arith)) (λ w b q. refl) in
    let q = tells-then p (tells-labelled (codes " nv=") 1 64 (omega arith)) (λ w b q. refl) in
    let r = tells-then q (tells-labelled (codes " steps=") 0 1000000 (omega arith)) (λ w b q. refl) in
    let s = tells-then r (tells-word (codes "\n")) (λ w b q. refl) in
    tells-as (λ (h : Header). ((((h.format, h.nq), h.nv), h.steps), tt)) (λ h g. refl) (λ h g. ((((g.format, g.nq), g.nv), g.steps), tt))
    (λ v w s. λ i. record { format = s.0.0.0.0 i; nq = s.0.0.0.1 i; nv = s.0.0.1 i; steps = s.0.1 i }) s

pub tells-numbers_line : (label : List ℕ) (n : ℕ) → Tells (Agree n) (AreWide n) (numbers_line label n) Anything
tells-numbers_line label n =
    let p = tells-then (tells-word label) (tells-numbers n) (λ w b q. tt) in
    let q = tells-then p (tells-word (codes "\n")) (λ w b q. refl) in
    tells-as (λ w. ((tt, w), tt)) (λ w g. refl) (λ w g. ((tt, g), tt)) (λ v w s. s.0.1) q

pub tells-residual : Tells Is IsRaw residual_line Anything
tells-residual =
    let p = tells-then (tells-word (codes "residual ")) tells-raw (λ w b q. tt) in
    let q = tells-then p (tells-word (codes "\n")) (λ w b q. refl) in
    tells-as (λ w. ((tt, w), tt)) (λ w g. refl) (λ w g. ((tt, g), tt)) (λ v w s. s.0.1) q

pub tells-pair : (label : List ℕ) → Tells Is IsPair (pair_line label) Anything
tells-pair label =
    let p = tells-then (tells-word label) tells-raw (λ w b q. tt) in
    let q = tells-then p (tells-word (codes " ")) (λ w b q. refl) in
    let r = tells-then q tells-raw (λ w b q. tt) in
    let s = tells-then r (tells-word (codes "\n")) (λ w b q. refl) in
    tells-as (λ (x : Pair). ((((tt, x.first), tt), x.second), tt)) (λ w g. refl) (λ w g. ((((tt, g.first), tt), g.second), tt)) (λ v w s. λ i. record { first = s.0.0.0.1 i; second = s.0.1 i }) s

pub tells-cost : (m : ℕ) → Tells Is (IsCost m) cost_line Anything
tells-cost m = tells-as (λ x. x) (λ w g. refl) (λ w g. g.wide) (λ v w s. s) (tells-pair (codes "cost "))

pub tells-counts : Tells Is AreCounts counts_line Anything
tells-counts =
    let p = tells-then (tells-labelled (codes "rows ") 0 1024 (omega arith)) (tells-labelled (codes " idle ") 0 1024 (omega arith)) (λ w b q. refl) in
    let q = tells-then p (tells-word (codes "\n")) (λ w b q. refl) in
    tells-as (λ (c : Counts). ((c.rows, c.idle), tt)) (λ c g. refl) (λ c g. ((g.rows, (omega arith, omega (arith, g.rows.1, g.idle.1))), tt)) (λ v w s. λ i. record { rows = s.0.0 i; idle = s.0.1 i }) q

-- ---- the lines of rows
name-letters : (n : SourceName) → AreLetters (name_text n)
name-letters name.Low = refl
name-letters name.High = refl
name-letters name.TendonLow = refl
name-letters name.TendonHigh = refl
name-letters name.Contact = refl
name-letters name.Equality = refl
name-letters name.Friction = refl

name-named : (n : SourceName) → source_named (name_text n) ≡ Some n
name-named name.Low = refl
name-named name.High = refl
name-named name.TendonLow = refl
name-named name.TendonHigh = refl
name-named name.Contact = refl
name-named name.Equality = refl
name-named name.Friction = refl

some-is : {A : Type 0} {a b : A} → Some a ≡ Some b → a ≡ b
some-is e = cc

tells-name : (bounds : Bool) → Tells Is (IsNameOf bounds) name_text NoLetter
tells-name bounds = record {
  one = λ v w b c f g p q e.
      let t = token is_letter (name_text v) (name_text w) b c (name-letters v) (name-letters w) p q e in
      (t.0, some-is (sym (name-named v) ∙ ap source_named t.1 ∙ name-named w));
}

edge-within : (n : SourceName) (e : ℕ) → IsEdge n (Some e) → IsBetween 0 4 e
edge-within name.Contact e h = h
edge-within name.Low e h = absurd h
edge-within name.High e h = absurd h
edge-within name.TendonLow e h = absurd h
edge-within name.TendonHigh e h = absurd h
edge-within name.Equality e h = absurd h
edge-within name.Friction e h = absurd h

no-edge : (n : SourceName) (e : ℕ) → IsEdge n None → IsEdge n (Some e) → ⊥
no-edge name.Contact e f g = f
no-edge name.Low e f g = g
no-edge name.High e f g = g
no-edge name.TendonLow e f g = g
no-edge name.TendonHigh e f g = g
no-edge name.Equality e f g = g
no-edge name.Friction e f g = g

tells-edge : (n : SourceName) → Tells Is (IsEdge n) edge_text NoNumber
tells-edge n = record { one = one }
  where
    one : (v w : Option ℕ) (b c : List ℕ) → IsEdge n v → IsEdge n w → NoNumber b → NoNumber c → edge_text v ++ b ≡ edge_text w ++ c → (b ≡ c) × Is v w
    one None None b c f g p q e = (e, refl)
    one None (Some w) b c f g p q e = absurd (no-edge n w f g)
    one (Some v) None b c f g p q e = absurd (no-edge n v g f)
    one (Some v) (Some w) b c f g p q e =
        let t = (tells-labelled (codes " ") 0 4 (omega arith)).one v w b c (edge-within n v f) (edge-within n w g) p q e in
        (t.0, ap Some t.1)

-- a source's name, with the space behind it, its number and its edge
abbrev Begun : Type 0
Begun = (SourceName × Unit {0}) × ℕ

abbrev source-parts : SourceTold → Begun × Option ℕ
source-parts s = (((s.name, tt), s.number), s.edge)

edge-behind : (w : Option ℕ) (behind : List ℕ) → NoNumber behind → NoNumber (edge_text w ++ behind)
edge-behind None behind h = h
edge-behind (Some x) behind h = refl

begun-whole : {F : Begun → Type 0} {T : Begun → List ℕ} {P : List ℕ → Type 0} → Tells (Both (Both Is Is) Is) F T P → Tells Is F T P
begun-whole t = tells-as (λ x. x) (λ w g. refl) (λ w g. g) (λ v w s. λ i. ((s.0.0 i, s.0.1 i), s.1 i)) t

tells-source : (bounds : Bool) → Tells Alike (IsSource bounds) source_line NoNumber
tells-source bounds =
    let p = tells-then (tells-name bounds) (tells-word (codes " ")) (λ w b q. refl) in
    let q = tells-then p (tells-count 1 (2 ^ 127 - 1) (omega arith)) (λ w b q. tt) in
    record {
      one = λ v w b c f g x y e.
          let t = (tells-after (λ a d. IsEdge a.0.0 d) (begun-whole q) (λ a h. tells-edge a.0.0) edge-behind).one (source-parts v) (source-parts w) b c ((((f.name, tt), f.number)), f.edge) ((((g.name, tt), g.number)), g.edge) x y
          (ap (λ z. z ++ b) (sym (source-told v.name v.number v.edge f.edge)) ∙ e ∙ ap (λ z. z ++ c) (source-told w.name w.number w.edge g.edge)) in
          (t.0, tt);
    }

tells-optional : Tells Is IsOptional optional_text NoNumber
tells-optional = record {
  one = λ v w b c f g p q e.
      let t = token is_number_byte (optional_text v) (optional_text w) b c (optional-bytes v f) (optional-bytes w g) p q e in
      (t.0, one v w f g t.1);
}
  where
    one : (v w : Option (Wide 0)) → IsOptional v → IsOptional w → optional_text v ≡ optional_text w → v ≡ w
    one None None f g e = refl
    one None (Some w) f g e = absurd (mark-alone w.raw g (sym e))
    one (Some v) None f g e = absurd (mark-alone v.raw f e)
    one (Some v) (Some w) f g e = ap Some (wide-one v w (signed-one v.raw w.raw f g e))

tells-bound : Tells Is IsBound (λ x. bound_text (raw_bound x)) NoNumber
tells-bound = tells-as (λ x. (tt, x)) (λ w g. bound-told w) (λ w g. (tt, g)) (λ v w s. s.1) (tells-then (tells-word (codes " ")) tells-optional (λ w b q. tt))

tells-bounds : (bounds : Bool) → Tells Is (AreBounds bounds) (bounds_line bounds) NoNumber
tells-bounds true =
    let p = tells-then (tells-word (codes " in")) tells-bound (λ w b q. tt) in
    let q = tells-then p tells-bound (λ w b q. bound-before (raw_bound w) b) in
    tells-as (λ (x : Bounds). ((tt, x.low), x.high)) (λ w g. refl) (λ w g. ((tt, g.0), g.1)) (λ v w s. same-bounds s.0.1 s.1) q
tells-bounds false = record { one = λ v w b c f g p q e. (e, untold-only v f ∙ sym (untold-only w g)) }

tells-told : (bounds : Bool) → Tells Is (IsTold bounds) (told_line bounds) NoNumber
tells-told bounds =
    let p = tells-then tells-wide tells-wide (λ w b q. refl) in
    let q = tells-then p tells-wide (λ w b q. refl) in
    let r = tells-then q (tells-bounds bounds) (bounds-before bounds) in
    tells-as (λ (x : Told). (((x.f, x.lo), x.hi), x.bounds)) (λ w g. refl) (λ w g. (((g.force, g.lo), g.hi), g.bounds)) (λ v w s. same-told s.0.0.0 s.0.0.1 s.0.1 s.1) r

tells-rest : (bounds : Bool) → Tells Is (λ x. IfSome x (IsTold bounds)) (rest_line bounds) NoNumber
tells-rest bounds = record { one = one }
  where
    one : (v w : Option Told) (b c : List ℕ) → IfSome v (IsTold bounds) → IfSome w (IsTold bounds) → NoNumber b → NoNumber c → rest_line bounds v ++ b ≡ rest_line bounds w ++ c → (b ≡ c) × Is v w
    one None None b c f g p q e = (ap (drop 5) e, refl)
    one None (Some w) b c f g p q e = let z = idle-only bounds (codes " idle" ++ b) b refl (Some w) c g e in absurd cc
    one (Some v) None b c f g p q e = let z = idle-only bounds (codes " idle" ++ c) c refl (Some v) b f (sym e) in absurd cc
    one (Some v) (Some w) b c f g p q e = let t = (tells-told bounds).one v w b c f g p q e in (t.0, ap Some t.1)

-- of a row what it tells, and not its source
abbrev pub SameTold : RowTold → RowTold → Type 0
SameTold x y = x.told ≡ y.told

pub tells-row : (bounds : Bool) (i : ℕ) → Tells SameTold (MayBeRow bounds) (row_line bounds i) Anything
tells-row bounds i =
    let p = tells-then (tells-word ((codes "row " ++ decimal i) ++ codes " ")) (tells-source bounds) (λ w b q. tt) in
    let q = tells-then p (tells-rest bounds) (λ w b q. rest-before bounds w b) in
    let r = tells-then q (tells-word (codes "\n")) (λ w b q. refl) in
    tells-as (λ (x : RowTold). (((tt, x.source), x.told), tt)) (λ w g. refl) (λ w g. (((tt, g.source), g.told), tt)) (λ v w s. s.0.1) r

-- ---- the lines of a dual's rows
again-before : (bounds : Bool) (x : Bounds) (behind : List ℕ) → NoNumber behind → NoNumber (bounds_again bounds x ++ behind)
again-before true x behind b =
    subst NoNumber (sym (append_assoc (bound_text (raw_bound x.low)) (bound_text (raw_bound x.high)) behind)) (bound-before (raw_bound x.low) (bound_text (raw_bound x.high) ++ behind))
again-before false x behind b = b

pub tells-dual : (bounds : Bool) (nv : ℕ) (row : ActiveRow) → Tells (SameDualTold nv) (IsDualTold nv) (dual_line bounds nv row) Anything
tells-dual bounds nv row =
    let p = tells-then (tells-word (codes "d " ++ decimal row.place)) tells-spaced (λ w b q. tt) in
    let q = tells-then p tells-spaced (λ w b q. refl) in
    let r = tells-then q (tells-piece (bounds_again bounds row.told.bounds)) (λ w b q. again-before bounds row.told.bounds b q) in
    let n = tells-then (tells-numbers nv) (tells-word (codes "\n")) (λ w b q. refl) in
    let s = tells-then r n (λ w b q. subst NoNumber (sym (append_assoc (numbers_text nv w.0) (codes "\n") b)) (none-before nv w.0 (codes "\n" ++ b) refl)) in
    tells-as (λ (d : DualTold). ((((tt, d.r), d.b), tt), (d.g, tt))) (λ w g. refl) (λ w g. ((((tt, g.r), g.b), tt), (g.g, tt))) (λ v w s. record { r = s.0.0.0.1; b = s.0.0.1; g = s.1.0 }) s

-- ---- a stop
stop-apart : (n m : ℕ) (b c : List ℕ) → stop_text (stop.Tolerance n) ++ b ≡ stop_text (stop.Limit m) ++ c → ⊥
stop-apart n m b c e =
    let d : ◌≡◌ {A = ℕ} 116 108 = ap (λ (t : List ℕ). get_or t 5 0) e in
    omega arith

pub tells-stop : (m : ℕ) → Tells Alike (IsStop m) stop_text Anything
tells-stop m = record { one = one }
  where
    one : (v w : Stop) (b c : List ℕ) → IsStop m v → IsStop m w → Anything b → Anything c → stop_text v ++ b ≡ stop_text w ++ c → (b ≡ c) × Alike v w
    one stop.NoRows stop.NoRows b c f g p q e = (ap (drop 10) e, tt)
    one stop.NoRows (stop.Tolerance n) b c f g p q e = absurd (omega (arith, f, g.0))
    one stop.NoRows (stop.Limit n) b c f g p q e = absurd (omega (arith, f, g.0))
    one (stop.Tolerance n) stop.NoRows b c f g p q e = absurd (omega (arith, g, f.0))
    one (stop.Limit n) stop.NoRows b c f g p q e = absurd (omega (arith, g, f.0))
    one (stop.Tolerance n) (stop.Limit k) b c f g p q e = absurd (stop-apart n k b c e)
    one (stop.Limit n) (stop.Tolerance k) b c f g p q e = absurd (stop-apart k n c b (sym e))
    one (stop.Tolerance n) (stop.Tolerance k) b c f g p q e = (((tells-line (codes "stop tolerance ") 1 (2 ^ 127 - 1) (omega arith)).one n k b c f.1 g.1 tt tt e).0, tt)
    one (stop.Limit n) (stop.Limit k) b c f g p q e = (((tells-line (codes "stop limit ") 1 (2 ^ 127 - 1) (omega arith)).one n k b c f.1 g.1 tt tt e).0, tt)

-- ---- a ball
tells-found : Tells Alike IsBallTold (λ x. ball_line (Some x)) Anything
tells-found =
    let p = tells-then (tells-word (codes "ball ")) tells-raw (λ w b q. tt) in
    let q = tells-then p tells-wide (λ w b q. refl) in
    let r = tells-then q tells-wide (λ w b q. refl) in
    let s = tells-then r (tells-word (codes "\n")) (λ w b q. refl) in
    tells-as (λ (x : BallTold). ((((tt, x.shift), x.low), x.radius), tt)) (λ w g. refl) (λ w g. ((((tt, g.shift), g.low), g.radius), tt)) (λ v w s. tt) s

pub tells-ball : Tells Alike IsBall ball_line Anything
tells-ball = record { one = one }
  where
    one : (v w : Option BallTold) (b c : List ℕ) → IsBall v → IsBall w → Anything b → Anything c → ball_line v ++ b ≡ ball_line w ++ c → (b ≡ c) × Alike v w
    one None None b c f g p q e = (ap (drop 10) e, tt)
    one None (Some w) b c f g p q e = let z = ball.none-only (codes "ball none\n" ++ b) b refl (Some w) c g e in absurd cc
    one (Some v) None b c f g p q e = let z = ball.none-only (codes "ball none\n" ++ c) c refl (Some v) b f (sym e) in absurd cc
    one (Some v) (Some w) b c f g p q e = tells-found.one v w b c f g p q e

-- ---- the end
tells-kind : Tells Alike IsKind quantity_name NoLetter
tells-kind = record {
  one = λ v w b c f g p q e. ((token is_letter (quantity_name v) (quantity_name w) b c (kind-letters v f) (kind-letters w g) p q e).0, tt);
}

-- after a step
tells-early : (s : ℕ) → Tells {V = Quantity × ℕ} Alike (λ x. IsKind x.0 × IsBetween 1 (2 ^ 127 - 1) x.1) (λ x. end_text (finish.OutOfRange s x.0 x.1)) Anything
tells-early s =
    let p = tells-then (tells-word ((codes "end out-of-range step=" ++ decimal s) ++ codes " kind=")) tells-kind (λ w b q. tt) in
    let q = tells-then p (tells-labelled (codes " index=") 1 (2 ^ 127 - 1) (omega arith)) (λ w b q. refl) in
    let r = tells-then q (tells-word (codes "\n")) (λ w b q. refl) in
    tells-as (λ x. (((tt, x.0), x.1), tt)) (λ w g. early-text s w.0 w.1) (λ w g. (((tt, g.0), g.1), tt)) (λ v w s. tt) r

pub tells-end : (count steps : ℕ) → Tells Alike (IsEnd count steps) end_text Anything
tells-end count steps = record { one = one }
  where
    one : (v w : End) (b c : List ℕ) → IsEnd count steps v → IsEnd count steps w → Anything b → Anything c → end_text v ++ b ≡ end_text w ++ c → (b ≡ c) × Alike v w
    one finish.Done finish.Done b c f g p q e = (word-one (end_text finish.Done) b c e, tt)
    one finish.Done (finish.OutOfRange s k i) b c f g p q e = absurd (omega (arith, f, g.0, g.1))
    one (finish.OutOfRange s k i) finish.Done b c f g p q e = absurd (omega (arith, g, f.0, f.1))
    one (finish.OutOfRange s k i) (finish.OutOfRange t l j) b c f g p q e =
        let same : t ≡ s = g.0 ∙ sym f.0 in
        (((tells-early s).one (k, i) (l, j) b c (f.2, f.3) (g.2, g.3) tt tt (e ∙ ap (λ (n : ℕ). end_text (finish.OutOfRange n l j) ++ c) same)).0, tt)
