-- Laws of writing through a page.
use Rattle.std.proofs.Common.{◌<◌, ◌+◌, length, take, get_or, ◌≡◌, ◌≤◌, ℕ, Bool, true, false, List, [], ◌∷◌, ◌++◌, Option, Result, Ok, Err, is_ok, sym, ◌∙◌, ap, refl, subst, append_assoc, arith}
use Rattle.std.proofs.lemmas.List.{append-nil, take_more, flat_map_more}
use Rattle.std.specs.List.{flat_map}
use Rattle.mj_io.specs.Growth.{Grew, GrewPart}
use Rattle.mj_io.specs.Sent.{Gathered, Sent, Wrote, empty_page, fresh_page}
use Rattle.mj_io.proofs.Faults.{Rose-then_later, Rose-after}
use Rattle.mj_io.proofs.Growth.{Grew-nothing, Grew-then}

-- a test by cases, with what it is
by_bool : (b : Bool) {P : Type 0} → (b ≡ true → P) → (b ≡ false → P) → P
by_bool true {P} t f = t refl
by_bool false {P} t f = f refl

-- all went out from an empty page
pub Sent-whole : {K : Type 0} (holds : K → Option (List ℕ)) (faults : K → ℕ) (a b : K) (text : List ℕ) → Grew (holds a) text (holds b) → faults a ≤ faults b → faults b ≡ faults a → Sent holds faults a (empty_page true) text b (empty_page true)
Sent-whole holds faults a b text grew later calm = record {
  prefix = text;
  rest = [];
  parts = sym (append-nil text);
  grew = grew;
  waits = λ _. refl;
  stopped = λ s. cc;
  later = later;
  calm = λ _. calm;
  cause = λ on off. cc;
}

sent-then_on : {K : Type 0} {holds : K → Option (List ℕ)} {faults : K → ℕ} {a b c : K} {from mid to : Gathered} {x y text : List ℕ} → Sent holds faults a from x b mid → Sent holds faults b mid y c to → text ≡ x ++ y → mid.going ≡ true → Sent holds faults a from text c to
sent-then_on {K} {holds} {faults} {a} {b} {c} {from} {mid} {to} {x} {y} {text} p q e on = record {
  prefix = p.prefix ++ q.prefix;
  rest = q.rest;
  parts =
      ap (λ s. from.pending ++ s) e ∙ sym (append_assoc from.pending x y) ∙ ap (λ s. s ++ y) p.parts
      ∙ append_assoc p.prefix p.rest y ∙ ap (λ s. p.prefix ++ (s ++ y)) (sym (p.waits on)) ∙ ap (λ s. p.prefix ++ s) q.parts
      ∙ sym (append_assoc p.prefix q.prefix q.rest);
  grew = Grew-then (holds a) (holds b) (holds c) p.prefix q.prefix p.grew q.grew;
  waits = q.waits;
  stopped = λ s. let h = p.stopped s in let k = q.stopped h.0 in (k.0, k.1 ∙ h.1);
  later = let h = p.later in let k = q.later in omega arith;
  calm = λ t. q.calm t ∙ p.calm on;
  cause = λ s t. Rose-after (faults a) (faults b) (faults c) p.later (q.cause on t);
}

sent-then_off : {K : Type 0} {holds : K → Option (List ℕ)} {faults : K → ℕ} {a b c : K} {from mid to : Gathered} {x y text : List ℕ} → Sent holds faults a from x b mid → Sent holds faults b mid y c to → text ≡ x ++ y → mid.going ≡ false → Sent holds faults a from text c to
sent-then_off {K} {holds} {faults} {a} {b} {c} {from} {mid} {to} {x} {y} {text} p q e off = record {
  prefix = p.prefix;
  rest = p.rest ++ y;
  parts =
      ap (λ s. from.pending ++ s) e ∙ sym (append_assoc from.pending x y) ∙ ap (λ s. s ++ y) p.parts
      ∙ append_assoc p.prefix p.rest y;
  grew = let P : Option (List ℕ) → Type 0 = λ s. Grew (holds a) p.prefix s in subst P (sym (q.stopped off).1) p.grew;
  waits = λ s. let h = (q.stopped off).0 in cc;
  stopped = λ s. let h = p.stopped s in let k = q.stopped h.0 in (k.0, k.1 ∙ h.1);
  later = let h = p.later in let k = q.later in omega arith;
  calm = λ t. let h = (q.stopped off).0 in cc;
  cause = λ s t. Rose-then_later (faults a) (faults b) (faults c) (p.cause s off) q.later;
}

-- one text was sent and then another
pub sent-then : {K : Type 0} {holds : K → Option (List ℕ)} {faults : K → ℕ} {a b c : K} {from mid to : Gathered} {x y text : List ℕ} → Sent holds faults a from x b mid → Sent holds faults b mid y c to → text ≡ x ++ y → Sent holds faults a from text c to
sent-then {mid = mid} p q e = by_bool mid.going (sent-then_on p q e) (sent-then_off p q e)

-- the texts of the first items of a list were sent, and then the text of one more; it begins with `sent-nothing`
pub sent-more : {K X : Type 0} {holds : K → Option (List ℕ)} {faults : K → ℕ} {a b c : K} {from mid to : Gathered} (text : X → List ℕ) (items : List X) (i : ℕ) (x d : X) → i < length items → x ≡ get_or items i d → Sent holds faults a from (flat_map text (take i items)) b mid → Sent holds faults b mid (text x) c to → Sent holds faults a from (flat_map text (take (i + 1) items)) c to
sent-more text items i x d within is p q =
    let prefix : take (i + 1) items ≡ take i items ++ x ∷ [] = take_more items i d within ∙ ap (λ y. take i items ++ y ∷ []) (sym is) in
    sent-then p q (ap (λ xs. flat_map text xs) prefix ∙ sym (flat_map_more text [] (take i items) x))

-- no text was sent
pub sent-nothing : {K : Type 0} (holds : K → Option (List ℕ)) (faults : K → ℕ) (a : K) (from : Gathered) → Sent holds faults a from [] a from
sent-nothing holds faults a from = record {
  prefix = [];
  rest = from.pending;
  parts = append-nil from.pending;
  grew = Grew-nothing (holds a);
  waits = λ _. refl;
  stopped = λ s. (s, refl);
  later = omega arith;
  calm = λ _. refl;
  cause = λ s t. cc;
}

-- the writing stopped within x, so whatever was to follow isn't written either
pub sent-past : {K : Type 0} {holds : K → Option (List ℕ)} {faults : K → ℕ} {a b : K} {from to : Gathered} {x text : List ℕ} (y : List ℕ) → Sent holds faults a from x b to → text ≡ x ++ y → to.going ≡ false → Sent holds faults a from text b to
sent-past {from = from} {x = x} y p e off = record {
  prefix = p.prefix;
  rest = p.rest ++ y;
  parts = ap (λ s. from.pending ++ s) e ∙ sym (append_assoc from.pending x y) ∙ ap (λ s. s ++ y) p.parts ∙ append_assoc p.prefix p.rest y;
  grew = p.grew;
  waits = λ s. cc;
  stopped = p.stopped;
  later = p.later;
  calm = p.calm;
  cause = p.cause;
}

-- through a fresh_page page, what went out is a prefix of the text
pub sent-part : {K : Type 0} {holds : K → Option (List ℕ)} {faults : K → ℕ} {a b : K} {to : Gathered} {text : List ℕ} → Sent holds faults a fresh_page text b to → GrewPart (holds a) text (holds b)
sent-part p = record { prefix = p.prefix; rest = p.rest; parts = p.parts; grew = p.grew }

-- a text was sent through a fresh_page page that was finished
pub wrote-from_sent : {K T E : Type 0} {holds : K → Option (List ℕ)} {faults : K → ℕ} {a b : K} {text : List ℕ} (result : Result T E) → Sent holds faults a fresh_page text b (empty_page (is_ok result)) → Wrote holds faults a text result b
wrote-from_sent {holds = holds} {a = a} {b = b} (Ok x) p = record {
  whole =
      let P = λ (s : List ℕ). Grew (holds a) s (holds b) in
      subst P (sym (p.parts ∙ ap (λ s. p.prefix ++ s) (sym (p.waits refl)) ∙ append-nil p.prefix)) p.grew;
  part = tt;
  cause = tt;
  calm = p.calm refl;
  later = p.later;
}
wrote-from_sent (Err e) p = record { whole = tt; part = sent-part p; cause = p.cause refl refl; calm = tt; later = p.later }

-- a text was sent through a fresh_page page, and the writing was finished
pub wrote-finished : {K T E : Type 0} {holds : K → Option (List ℕ)} {faults : K → ℕ} {a b c : K} {from mid : Gathered} {text : List ℕ} (result : Result T E) → from ≡ fresh_page → Sent holds faults a from text b mid → Sent holds faults b mid [] c (empty_page (is_ok result)) → Wrote holds faults a text result c
wrote-finished {holds = holds} {faults = faults} {a = a} {c = c} {text = text} result begun sent finished =
    let all = sent-then sent finished (sym (append-nil text)) in
    let P : Gathered → Type 0 = λ p. Sent holds faults a p text c (empty_page (is_ok result)) in
    wrote-from_sent result (subst P begun all)
