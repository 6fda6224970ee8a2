-- Laws of reading piece by piece.
use Rattle.std.proofs.Common.{◌≡◌, ℕ, suc, ◌^◌, ◌<◌, ◌≤◌, ℤ, pos, negsuc, Bool, true, false, ◌&&◌, leb, eqb, Decides, FitsSigned, rules, ◌⊎◌, inl, inr, List, [], ◌∷◌, ◌++◌, Option, Some, None, length, take, drop, append_assoc, refl, sym, ap, ◌∙◌, subst, arith, decimal}
use Rattle.std.specs.Fmt.{signed_decimal}
use borrow.Author.Tests.{leb-true, leb-false}
use Rattle.std.specs.List.{list_all}
use Rattle.std.specs.Int.{IsInRange}
use Rattle.std.proofs.lemmas.Bool.Decides.{nat_tests}
use Rattle.std.proofs.lemmas.List.{take-append-drop}
use Rattle.std.proofs.Math.Seq.{take-append_seam, drop-append_seam}
use Rattle.fx_text.specs.Raw.{IsWide, IsRead, IsNaturalRead}
use Rattle.fx_text.proofs.DigitLaws.{AreDigits, decimal-digits, decimal-some}
use Rattle.mj_reading.specs.Reading.{Ahead, Anything, NoNumber, NoLetter, is_number_byte, is_letter, goes_on, span, Read, Is, Both, Any, IsBetween, IsToken, IsRaw, raw_text, IsOptional, optional_text}
use Rattle.std.specs.Int.{w128}
use Rattle.fx_num.specs.declared.number.Wide.{Wide}

pub by_bool : (b : Bool) {P : Type 0} → (b ≡ true → P) → (b ≡ false → P) → P
by_bool true {P} t f = t refl
by_bool false {P} t f = f refl

module _ {V : Type 0} {S : V → V → Type 0} {F : V → Type 0} {T : V → List ℕ} {P : List ℕ → Type 0} {from to : Ahead} {v : V} where
  -- a reading that goes on had gone on
  pub went : Read S F T P from v to → to.going ≡ true → from.going ≡ true
  went p g = by_bool from.going (λ t. t) (λ f. let s = p.stays f in absurd cc)

  -- a piece told otherwise
  pub read-as : {W : Type 0} {R : W → W → Type 0} {G : W → Type 0} {U : W → List ℕ} (f : W → V) (x : W) → f x ≡ v → ((w : W) → U w ≡ T (f w)) → ((w : W) → G w → F (f w)) → (F (f x) → G x) → ((w : W) → S (f x) (f w) → R x w) → Read S F T P from v to → Read R G U P from x to
  read-as f x e t i o s p = record {
    stays = p.stays;
    found = λ g. p.found g ∙ ap (λ y. T y ++ to.rest) (sym e) ∙ ap (λ y. y ++ to.rest) (sym (t x));
    good = λ g. o (subst F (sym e) (p.good g));
    only = λ g w behind h b r.
        let k = p.only g (f w) behind (i w h) b (r ∙ ap (λ y. y ++ behind) (t w)) in
        (k.0, k.1, s w (subst (λ y. S y (f w)) (sym e) k.2));
  }

-- a piece, and then another, of which what is in form may depend on the first
pub read-then : {A B : Type 0} {S : A → A → Type 0} {R : B → B → Type 0} {F : A → Type 0} {T : A → List ℕ} {U : B → List ℕ} {P Q : List ℕ → Type 0} {from mid to : Ahead} {a : A} {b : B} (G : A → B → Type 0) → Read S F T P from a mid → Read R (G a) U Q mid b to → ((w : B) (behind : List ℕ) → Q behind → P (U w ++ behind)) → ((w : A) (x : B) → S a w → G w x → G a x) → Read {V = A × B} (Both S R) (λ x. F x.0 × G x.0 x.1) (λ x. T x.0 ++ U x.1) Q from (a, b) to
read-then {T = T} {U} {from = from} {mid} {to} {a} {b} G p q k m = record {
  stays = λ f. q.stays (p.stays f);
  found = λ g. p.found (went q g) ∙ ap (λ y. T a ++ y) (q.found g) ∙ sym (append_assoc (T a) (U b) to.rest);
  good = λ g. (p.good (went q g), q.good g);
  only = λ g w behind h c r.
      let o = p.only g w.0 (U w.1 ++ behind) h.0 (k w.1 behind c) (r ∙ append_assoc (T w.0) (U w.1) behind) in
      let n = q.only o.0 w.1 behind (m w.0 w.1 o.2 h.1) c o.1 in
      (n.0, n.1, (o.2, n.2));
}

-- ---- a text that is fixed
pub word-found : (text : List ℕ) (from to : Ahead) → from.rest ≡ text ++ drop (length text) from.rest → to ≡ record { rest = drop (length text) from.rest; going = from.going } → Read Is Any (λ (u : Unit {0}). text) Anything from tt to
word-found text from to e t =
    let g : to.going ≡ from.going = ap (λ a. a.going) t in
    let r : to.rest ≡ drop (length text) from.rest = ap (λ a. a.rest) t in
    record {
      stays = λ f. g ∙ f;
      found = λ _. e ∙ ap (λ y. text ++ y) (sym r);
      good = λ _. tt;
      only = λ f w behind _ _ b. (g ∙ f, r ∙ ap (λ y. drop (length text) y) b ∙ drop-append_seam text behind, refl);
    }

pub missed : {V : Type 0} {S : V → V → Type 0} {F : V → Type 0} {T : V → List ℕ} {P : List ℕ → Type 0} {from to : Ahead} (v : V) → to.going ≡ false → ((w : V) (behind : List ℕ) → F w → P behind → from.rest ≡ T w ++ behind → ⊥) → Read S F T P from v to
missed v f never = record {
  stays = λ _. f;
  found = λ g. absurd cc;
  good = λ g. absurd cc;
  only = λ _ w behind h b e. absurd (never w behind h b e);
}

-- ---- numbers and names
abbrev AreOf : (ℕ → Bool) → List ℕ → Type 0
AreOf test text = list_all test text ≡ true

abbrev pub AreBytes : List ℕ → Type 0
AreBytes text = AreOf is_number_byte text

both : (a b : Bool) → a && b ≡ true → (a ≡ true) × (b ≡ true)
both true b h = (refl, h)
both false b h = absurd cc

span-stop : (test : ℕ → Bool) (s : List ℕ) → goes_on test s ≡ false → span test s ≡ 0
span-stop test [] n = refl
span-stop test (b ∷ bs) n = rw n refl

span-text : (test : ℕ → Bool) (t s : List ℕ) → AreOf test t → goes_on test s ≡ false → span test (t ++ s) ≡ length t
span-text test [] s h n = span-stop test s n
span-text test (b ∷ t) s h n =
    let p = both (test b) (list_all test t) h in
    rw p.0 (ap suc (span-text test t s p.1 n))

byte-digit : (c : ℕ) → IsInRange 48 57 c → is_number_byte c ≡ true
byte-digit c d = grind (arith, nat_tests)

digits-bytes : (t : List ℕ) → AreDigits t → AreBytes t
digits-bytes [] d = refl
digits-bytes (c ∷ cs) d = rw (byte-digit c (d 0 (omega arith))) (digits-bytes cs (λ i l. d (suc i) (omega arith)))

pub signed-bytes : (n : ℤ) → IsWide n → AreBytes (signed_decimal n)
signed-bytes (pos n) w = digits-bytes (decimal n) (decimal-digits n (omega arith))
signed-bytes (negsuc n) w = digits-bytes (decimal (suc n)) (decimal-digits (suc n) (omega arith))

pub count-bytes : (least most : ℕ) → most < 2 ^ 128 → (n : ℕ) → IsBetween least most n → AreBytes (decimal n)
count-bytes least most m n b = digits-bytes (decimal n) (decimal-digits n (omega arith))

-- what a text begins with, of bytes for which a test holds
token : (test : ℕ → Bool) {V : Type 0} (T : V → List ℕ) (text : List ℕ) (w : V) (behind : List ℕ) → AreOf test (T w) → goes_on test behind ≡ false → text ≡ T w ++ behind → (take (span test text) text ≡ T w) × (drop (span test text) text ≡ behind)
token test T text w behind h b e =
    let n : span test text ≡ length (T w) = ap (span test) e ∙ span-text test (T w) behind h b in
    ((λ i. take (n i) (e i)) ∙ take-append_seam (T w) behind, (λ i. drop (n i) (e i)) ∙ drop-append_seam (T w) behind)

some-is : {A : Type 0} {a b : A} → Some a ≡ Some b → a ≡ b
some-is e = cc

-- it is read where its bytes are a text of the piece, and the reading stops where they aren't
tested-found : (test : ℕ → Bool) {V : Type 0} (F : V → Type 0) (T : V → List ℕ) (from to : Ahead) (v : V) → ((w : V) → F w → AreOf test (T w)) → IsToken F T (take (span test from.rest) from.rest) (Some v) → to ≡ record { rest = drop (span test from.rest) from.rest; going = from.going } → Read Is F T (λ s. goes_on test s ≡ false) from v to
tested-found test F T from to v h k t =
    let g : to.going ≡ from.going = ap (λ a. a.going) t in
    let r : to.rest ≡ drop (span test from.rest) from.rest = ap (λ a. a.rest) t in
    record {
      stays = λ f. g ∙ f;
      found = λ _. sym (take-append-drop (span test from.rest) from.rest) ∙ ap (λ y. y ++ drop (span test from.rest) from.rest) k.is ∙ ap (λ y. T v ++ y) (sym r);
      good = λ _. k.good;
      only = λ f w behind i b e. let o = token test T from.rest w behind (h w i) b e in (g ∙ f, r ∙ o.1, some-is (k.only w i o.0));
    }

tested-missed : (test : ℕ → Bool) {V : Type 0} (F : V → Type 0) (T : V → List ℕ) (from to : Ahead) (v : V) → ((w : V) → F w → AreOf test (T w)) → IsToken F T (take (span test from.rest) from.rest) None → to.going ≡ false → Read Is F T (λ s. goes_on test s ≡ false) from v to
tested-missed test F T from to v h k f = missed v f (λ w behind i b e. let o = k.only w i (token test T from.rest w behind (h w i) b e).0 in absurd cc)

-- a number
pub token-found : {V : Type 0} (F : V → Type 0) (T : V → List ℕ) (from to : Ahead) (v : V) → ((w : V) → F w → AreBytes (T w)) → IsToken F T (take (span is_number_byte from.rest) from.rest) (Some v) → to ≡ record { rest = drop (span is_number_byte from.rest) from.rest; going = from.going } → Read Is F T NoNumber from v to
token-found F T from to v h k t = tested-found is_number_byte F T from to v h k t

pub token-missed : {V : Type 0} (F : V → Type 0) (T : V → List ℕ) (from to : Ahead) (v : V) → ((w : V) → F w → AreBytes (T w)) → IsToken F T (take (span is_number_byte from.rest) from.rest) None → to.going ≡ false → Read Is F T NoNumber from v to
token-missed F T from to v h k f = tested-missed is_number_byte F T from to v h k f

-- a name
abbrev pub AreLetters : List ℕ → Type 0
AreLetters text = AreOf is_letter text

pub name-found : {V : Type 0} (F : V → Type 0) (T : V → List ℕ) (from to : Ahead) (v : V) → ((w : V) → F w → AreLetters (T w)) → IsToken F T (take (span is_letter from.rest) from.rest) (Some v) → to ≡ record { rest = drop (span is_letter from.rest) from.rest; going = from.going } → Read Is F T NoLetter from v to
name-found F T from to v h k t = tested-found is_letter F T from to v h k t

pub name-missed : {V : Type 0} (F : V → Type 0) (T : V → List ℕ) (from to : Ahead) (v : V) → ((w : V) → F w → AreLetters (T w)) → IsToken F T (take (span is_letter from.rest) from.rest) None → to.going ≡ false → Read Is F T NoLetter from v to
name-missed F T from to v h k f = tested-missed is_letter F T from to v h k f

pub raw-bytes : (x : Wide 0) → IsRaw x → AreBytes (raw_text x)
raw-bytes x w = signed-bytes x.raw w

pub raw-some : (text : List ℕ) (n : ℤ) → IsRead text (Some n) → IsToken IsRaw raw_text text (Some (record { raw = n }))
raw-some text n h = record { is = h.told; good = h.wide; only = λ w i e. let o = some-is (h.only w.raw i e) in ap (λ z. Some (record { raw = z })) o }

pub raw-none : (text : List ℕ) → IsRead text None → IsToken IsRaw raw_text text None
raw-none text h = record { is = tt; good = tt; only = λ w i e. let o = h.only w.raw i e in absurd cc }

least-or : (a b : ℕ) → (a ≤ b) ⊎ (b < a)
least-or a b = by_bool (leb a b) (λ t. inl (omega (arith, leb-true a b t))) (λ f. inr (omega (arith, leb-false a b f)))

within-cases : (least most : ℕ) (text : List ℕ) (n : ℕ) (r : Option ℕ) → IsNaturalRead most text (Some n) → (least ≤ n → r ≡ Some n) → (n < least → r ≡ None) → (least ≤ n) ⊎ (n < least) → IsToken (IsBetween least most) decimal text r
within-cases least most text n r h more less (inl l) = rw (more l) (record { is = h.told; good = (l, h.few); only = λ w i e. h.only w i.1 e })
within-cases least most text n r h more less (inr l) = rw (less l) (record { is = tt; good = tt; only = λ w i e. let o = some-is (h.only w i.1 e) in absurd (omega (arith, i.0)) })

pub within-some : (least most : ℕ) (text : List ℕ) (n : ℕ) (r : Option ℕ) → IsNaturalRead most text (Some n) → (least ≤ n → r ≡ Some n) → (n < least → r ≡ None) → IsToken (IsBetween least most) decimal text r
within-some least most text n r h more less = within-cases least most text n r h more less (least-or least n)

pub within-none : (least most : ℕ) (text : List ℕ) → IsNaturalRead most text None → IsToken (IsBetween least most) decimal text None
within-none least most text h = record { is = tt; good = tt; only = λ w i e. h.only w i.1 e }

pub byte-decides : (a b : ℕ) → Decides (eqb a b) (a ≡ b)
byte-decides a b = search rules

pub wide-fits : (n : ℤ) → IsWide n → FitsSigned w128 n
wide-fits (pos n) h = record { sfits = omega arith }
wide-fits (negsuc n) h = record { sfits = omega arith }

-- ---- a value told otherwise, of the same text
pub read-same : {V : Type 0} {S : V → V → Type 0} {F : V → Type 0} {T : V → List ℕ} {P : List ℕ → Type 0} {from to : Ahead} {v : V} (x : V) → T v ≡ T x → (F v → F x) → ((w : V) → S v w → S x w) → Read S F T P from v to → Read S F T P from x to
read-same {to = to} x t f s p = record {
  stays = p.stays;
  found = λ g. p.found g ∙ ap (λ (y : List ℕ). y ++ to.rest) t;
  good = λ g. f (p.good g);
  only = λ g w behind h b r. let o = p.only g w behind h b r in (o.0, o.1, s w o.2);
}

-- a number that is known
pub read-fixed : (n : ℕ) {T : ℕ → List ℕ} {P : List ℕ → Type 0} {from to : Ahead} {v : ℕ} → Read Is (IsBetween n n) T P from v to → Read Is Any (λ (u : Unit {0}). T n) P from tt to
read-fixed n {T} {P} {from} {to} {v} p = record {
  stays = p.stays;
  found = λ g. let b = p.good g in let e : v ≡ n = omega arith in p.found g ∙ ap (λ k. T k ++ to.rest) e;
  good = λ _. tt;
  only = λ g w behind h b r. let o = p.only g n behind (omega arith, omega arith) b r in (o.0, o.1, refl);
}

-- ---- one of several forms of a piece, that the text is found to be of: each text in form that begins it is of this form
pub read-case : {A V : Type 0} {S : A → A → Type 0} {F : A → Type 0} {T : A → List ℕ} {P : List ℕ → Type 0} {from to : Ahead} {x : A} {R : V → V → Type 0} (G : V → Type 0) (U : V → List ℕ) (e : A → V)
    → ((a : A) → U (e a) ≡ T a) → ((a : A) → F a → G (e a))
    → ((w : V) (behind : List ℕ) → G w → from.rest ≡ U w ++ behind → (a : A) × F a × (w ≡ e a))
    → ((a : A) → S x a → R (e x) (e a))
    → Read S F T P from x to → Read R G U P from (e x) to
read-case {from = from} {to} {x} {R} G U e t f split s p = record {
  stays = p.stays;
  found = λ g. p.found g ∙ ap (λ y. y ++ to.rest) (sym (t x));
  good = λ g. f x (p.good g);
  only = λ g w behind h b r.
      let k = split w behind h r in
      let o = p.only g k.0 behind k.1 b (r ∙ ap (λ y. U y ++ behind) k.2 ∙ ap (λ y. y ++ behind) (t k.0)) in
      (o.0, o.1, subst (R (e x)) (sym k.2) (s k.0 o.2));
}

-- a space and a number don't begin as a space and a letter
span-some : (t s : List ℕ) → AreBytes t → 0 < length t → 0 < span is_number_byte (t ++ s)
span-some [] s h l = absurd (omega arith)
span-some (b ∷ t) s h l = let p = both (is_number_byte b) (list_all is_number_byte t) h in rw p.0 (omega arith)

signed-some : (n : ℤ) → IsWide n → 0 < length (signed_decimal n)
signed-some (pos n) w = decimal-some n (omega arith)
signed-some (negsuc n) w = omega arith

pub number-letter : (n : ℤ) (c : ℕ) (s r : List ℕ) → IsWide n → is_number_byte c ≡ false → 32 ∷ (signed_decimal n ++ s) ≡ 32 ∷ c ∷ r → ⊥
number-letter n c s r w l e =
    let f : signed_decimal n ++ s ≡ c ∷ r = ap (drop 1) e in
    let z : span is_number_byte (c ∷ r) ≡ 0 = span-stop is_number_byte (c ∷ r) l in
    omega (arith, span-some (signed_decimal n) s (signed-bytes n w) (signed-some n w), ap (span is_number_byte) f)

-- a piece of a known value: it was found, or another one was
pub read-known : {V : Type 0} {F : V → Type 0} {T : V → List ℕ} {P : List ℕ → Type 0} {from to : Ahead} {v : V} (known : V) → F known → v ≡ known → Read Is F T P from v to → Read Is Any (λ (u : Unit {0}). T known) P from tt to
read-known {T = T} {to = to} known f e p = record {
  stays = p.stays;
  found = λ g. p.found g ∙ ap (λ x. T x ++ to.rest) e;
  good = λ _. tt;
  only = λ g w behind h b r. let o = p.only g known behind f b r in (o.0, o.1, refl);
}

pub read-other : {V : Type 0} {F : V → Type 0} {T : V → List ℕ} {P : List ℕ → Type 0} {from mid to : Ahead} {v : V} (known : V) → F known → (v ≡ known → ⊥) → to.going ≡ false → Read Is F T P from v mid → Read Is Any (λ (u : Unit {0}). T known) P from tt to
read-other known f n s p = record {
  stays = λ _. s;
  found = λ g. absurd cc;
  good = λ _. tt;
  only = λ g w behind h b r. absurd (n (p.only g known behind f b r).2);
}

-- a piece told otherwise, where the texts of what is in form are the same
pub read-as-good : {V W : Type 0} {S : V → V → Type 0} {F : V → Type 0} {T : V → List ℕ} {P : List ℕ → Type 0} {from to : Ahead} {v : V} {R : W → W → Type 0} {G : W → Type 0} {U : W → List ℕ} (f : W → V) (x : W) → f x ≡ v → ((w : W) → G w → U w ≡ T (f w)) → ((w : W) → G w → F (f w)) → (F (f x) → G x) → ((w : W) → S (f x) (f w) → R x w) → Read S F T P from v to → Read R G U P from x to
read-as-good {S = S} {F} {T} {to = to} f x e t i o s p = record {
  stays = p.stays;
  found = λ g. let h = o (subst F (sym e) (p.good g)) in p.found g ∙ ap (λ y. T y ++ to.rest) (sym e) ∙ ap (λ y. y ++ to.rest) (sym (t x h));
  good = λ g. o (subst F (sym e) (p.good g));
  only = λ g w behind h b r.
      let k = p.only g (f w) behind (i w h) b (r ∙ ap (λ y. y ++ behind) (t w h)) in
      (k.0, k.1, s w (subst (λ y. S y (f w)) (sym e) k.2));
}

-- nothing is read where a piece has no text
pub read-nothing : {V : Type 0} {F : V → Type 0} {T : V → List ℕ} {P : List ℕ → Type 0} (v : V) (from : Ahead) → F v → ((w : V) → F w → w ≡ v) → T v ≡ [] → Read Is F T P from v from
read-nothing {T = T} v from f u e = record {
  stays = λ s. s;
  found = λ g. ap (λ y. y ++ from.rest) (sym e);
  good = λ g. f;
  only = λ g w behind h b r. (g, r ∙ ap (λ y. y ++ behind) (ap T (u w h) ∙ e), sym (u w h));
}

-- what may stand behind a fixed text may stand behind it
pub read-any : {V : Type 0} {S : V → V → Type 0} {F : V → Type 0} {T : V → List ℕ} {P : List ℕ → Type 0} {from to : Ahead} {v : V} → Read S F T Anything from v to → Read S F T P from v to
read-any p = record { stays = p.stays; found = p.found; good = p.good; only = λ g w behind h b r. p.only g w behind h tt r }

-- ---- a number that may be missing
mark-digits : (n : ℕ) → n < 10 ^ 64 → decimal n ≡ 45 ∷ [] → ⊥
mark-digits n l e = omega (arith, (subst AreDigits e (decimal-digits n l)) 0 (omega arith))

-- the mark is no number's text
pub mark-alone : (n : ℤ) → IsWide n → signed_decimal n ≡ 45 ∷ [] → ⊥
mark-alone (pos n) w e = mark-digits n (omega arith) e
mark-alone (negsuc n) w e = omega (arith, subst (λ (t : List ℕ). 0 < length t) (ap (drop 1) e) (decimal-some (suc n) (omega arith)))

pub optional-bytes : (x : Option (Wide 0)) → IsOptional x → AreBytes (optional_text x)
optional-bytes None h = refl
optional-bytes (Some x) h = raw-bytes x h

optional-mark : (w : Option (Wide 0)) → IsOptional w → 45 ∷ [] ≡ optional_text w → None ≡ w
optional-mark None h e = refl
optional-mark (Some x) h e = absurd (mark-alone x.raw h (sym e))

pub mark-token : (text : List ℕ) → text ≡ 45 ∷ [] → IsToken IsOptional optional_text text (Some None)
mark-token text e = record { is = e; good = tt; only = λ w i t. ap Some (optional-mark w i (sym e ∙ t)) }

pub number-token : (text : List ℕ) (x : Wide 0) → IsToken IsRaw raw_text text (Some x) → (text ≡ 45 ∷ [] → ⊥) → IsToken IsOptional optional_text text (Some (Some x))
number-token text x h n = record { is = h.is; good = h.good; only = only }
  where
    only : (w : Option (Wide 0)) → IsOptional w → text ≡ optional_text w → Some (Some x) ≡ Some w
    only None i e = absurd (n e)
    only (Some y) i e = ap Some (h.only y i e)

pub no-token : (text : List ℕ) → IsToken IsRaw raw_text text None → (text ≡ 45 ∷ [] → ⊥) → IsToken IsOptional optional_text text None
no-token text h n = record { is = tt; good = tt; only = only }
  where
    only : (w : Option (Wide 0)) → IsOptional w → text ≡ optional_text w → None ≡ Some w
    only None i e = absurd (n e)
    only (Some y) i e = let o = h.only y i e in absurd cc
