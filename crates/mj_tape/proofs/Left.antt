-- What is left to judge of a tape's records, at a place in its reading.
use Rattle.std.proofs.Common.{◌≡◌, ◌⊎◌, ℕ, zero, suc, ◌+◌, ◌<◌, ◌≤◌, List, [], ◌∷◌, ◌++◌, Bool, true, false, cond, Option, Some, None, length, map, refl, sym, ap, arith, inl, inr, append_assoc}
use Rattle.std.proofs.lemmas.List.{append-nil}
use Rattle.csv.specs.Machine.{Read, next_record, step, is_end, ends_at_end}
use Rattle.csv.specs.Reading.{default_config, records, records_from, source_of, pending_of, ReadRecord, ReadsNext, NextIs, strip_bom}
use Rattle.csv.specs.declared.parser.Config.{Config}
use Rattle.csv.specs.declared.parser.State.{State}
use Rattle.csv.specs.declared.parser.State.TheVariants as st
use Rattle.csv.specs.declared.reader.Reader.{Reader}
use Rattle.mj_types.specs.Control.{Control}
use Rattle.mj_types.specs.declared.tape.TapeFault.{TapeFault}
use Rattle.mj_tape.specs.Judging.{first_fault, record_fault, record_controls, raws, control_or_zero}

-- a record takes a byte at least, or it is the last, which the end of the text ends
abbrev Shorter : Read → List ℕ → Type 0
Shorter p xs = (length p.2 < length xs) ⊎ ((p.1 ≡ st.StartRecord) × (p.2 ≡ []))

shorter-end : (b : Bool) (p q : Read) → p.1 ≡ st.StartRecord → p.2 ≡ [] → cond b (Some p) None ≡ Some q → (q.1 ≡ st.StartRecord) × (q.2 ≡ [])
shorter-end true p q e f h = let g : p ≡ q = cc in rw (← g) (e, f)
shorter-end false p q e f h = absurd cc

shorter-step : (b : Bool) (p q : Read) (more : Option Read) (n : ℕ) → length p.2 ≡ n → (more ≡ Some q → (length q.2 < n) ⊎ ((q.1 ≡ st.StartRecord) × (q.2 ≡ []))) → cond b (Some p) more ≡ Some q → (length q.2 < suc n) ⊎ ((q.1 ≡ st.StartRecord) × (q.2 ≡ []))
shorter-step true p q more n e f h = let g : p ≡ q = cc in let k : length q.2 ≡ n = rw (← g) e in inl (omega arith)
shorter-step false p q more n e f h =
    elim (f h) as (λ _. (length q.2 < suc n) ⊎ ((q.1 ≡ st.StartRecord) × (q.2 ≡ []))) [ inl l ↦ inl (omega arith) | inr r ↦ inr r ]

shorter : (cfg : Config) (xs : List ℕ) (s : State) (fields : List (List ℕ)) (field : List ℕ) (q : Read) → next_record cfg s fields field xs ≡ Some q → Shorter q xs
unfolding next_record
shorter cfg [] s fields field q h = inr (shorter-end (ends_at_end s) _ q refl refl h)
shorter cfg (c ∷ rest) s fields field q h =
    shorter-step (is_end (step cfg s c).1) _ q _ (length rest) refl (shorter cfg rest _ _ _ q) h

-- no record stands behind the end
none-at_end : (cfg : Config) (q : Read) → next_record cfg st.StartRecord [] [] [] ≡ Some q → ⊥
unfolding next_record
none-at_end cfg q h = absurd cc

-- there is fuel for every record that is left
abbrev Enough : ℕ → State → List ℕ → Type 0
Enough fuel s y = (length y < fuel) ⊎ ((s ≡ st.StartRecord) × (y ≡ []))

-- what is left to judge of a text after this many records with these values, from this state and these bytes on
pub record Left (width room : ℕ) (text : List ℕ) (count : ℕ) (values : List Control) (s : State) (y : List ℕ) : Type 0 where
  pub fuel : ℕ
  pub total : count + fuel ≡ length text + 1
  pub enough : Enough fuel s y
  pub faults : first_fault width room (suc count) (records_from default_config fuel s y) ≡ first_fault width room 1 (records default_config text)
  pub held : raws values ++ record_controls (records_from default_config fuel s y) ≡ record_controls (records default_config text)
  pub counted : count + length (records_from default_config fuel s y) ≡ length (records default_config text)

pub left-start : (width room : ℕ) (text : List ℕ) → Left width room text 0 [] st.StartRecord text
left-start width room text = record {
  fuel = length text + 1;
  total = omega arith;
  enough = inl (omega arith);
  faults = refl;
  held = refl;
  counted = omega arith;
}

-- with a record left there is fuel left
fuel-left : (fuel : ℕ) (s : State) (y : List ℕ) (p : Read) → Enough fuel s y → next_record default_config s [] [] y ≡ Some p → (m : ℕ) × (fuel ≡ suc m) × Enough m p.1 p.2
fuel-left zero s y p (inl l) h = absurd (omega arith)
fuel-left (suc m) s y p (inl l) h =
    (m, refl, elim (shorter default_config y s [] [] p h) as (λ _. Enough m p.1 p.2) [ inl k ↦ inl (omega arith) | inr r ↦ inr r ])
fuel-left fuel s y p (inr r) h = absurd (none-at_end default_config p (rw (r.0, r.1) at h))

records-more : (m : ℕ) (s : State) (y : List ℕ) (p : Read) → next_record default_config s [] [] y ≡ Some p → records_from default_config (suc m) s y ≡ p.0 ∷ records_from default_config m p.1 p.2
unfolding records_from
records-more m s y p h = rw h refl

records-none : (m : ℕ) (s : State) (y : List ℕ) → next_record default_config s [] [] y ≡ None → records_from default_config m s y ≡ []
unfolding records_from
records-none zero s y h = refl
records-none (suc m) s y h = rw h refl

-- the records that are left, the first of them apart
first-left : (fuel : ℕ) (s : State) (y : List ℕ) (p : Read) (m : ℕ) → fuel ≡ suc m → next_record default_config s [] [] y ≡ Some p → records_from default_config fuel s y ≡ p.0 ∷ records_from default_config m p.1 p.2
first-left fuel s y p m e h = rw e (records-more m s y p h)

left-more : (width room : ℕ) (text : List ℕ) (count : ℕ) (values after : List Control) (s : State) (y : List ℕ) (p : Read)
    → Left width room text count values s y → next_record default_config s [] [] y ≡ Some p
    → record_fault width room (suc count) p.0 ≡ None → raws after ≡ raws values ++ map control_or_zero p.0
    → Left width room text (suc count) after p.1 p.2
left-more width room text count values after s y p left h good grew =
    let f = fuel-left left.fuel s y p left.enough h in
    let e : records_from default_config left.fuel s y ≡ p.0 ∷ records_from default_config f.0 p.1 p.2 = first-left left.fuel s y p f.0 f.1 h in
    let n : count + suc (length (records_from default_config f.0 p.1 p.2)) ≡ length (records default_config text) = rw e at left.counted in
    record {
      fuel = f.0;
      total = omega (arith, f.1, left.total);
      enough = f.2;
      faults = rw (e, good) at left.faults;
      held = rw (grew, append_assoc) (rw e at left.held);
      counted = omega arith;
    }

-- a record is taken: what is left behind it
pub left-step : (width room : ℕ) (text : List ℕ) (count next : ℕ) (values after : List Control) (s b : State) (y : List ℕ) (p : Read) (fields : List (List ℕ))
    → Left width room text count values s y → next_record default_config s [] [] y ≡ Some p → fields ≡ p.0 → b ≡ p.1
    → next ≡ count + 1 → record_fault width room next fields ≡ None → raws after ≡ raws values ++ map control_or_zero fields
    → Left width room text next after b p.2
left-step width room text count next values after s b y p fields left h ef eb en good grew =
    let e : next ≡ suc count = omega arith in
    rw (e, eb) (left-more width room text count values after s y p left h (rw (e, ef) at good) (rw ef at grew))

fault-more : (width room : ℕ) (text : List ℕ) (count : ℕ) (values : List Control) (s : State) (y : List ℕ) (p : Read) (fault : TapeFault)
    → Left width room text count values s y → next_record default_config s [] [] y ≡ Some p
    → record_fault width room (suc count) p.0 ≡ Some fault
    → first_fault width room 1 (records default_config text) ≡ Some fault
fault-more width room text count values s y p fault left h bad =
    let f = fuel-left left.fuel s y p left.enough h in
    let e : records_from default_config left.fuel s y ≡ p.0 ∷ records_from default_config f.0 p.1 p.2 = first-left left.fuel s y p f.0 f.1 h in
    sym (rw (e, bad) at left.faults)

-- a record is at fault: the first fault of all
pub left-fault : (width room : ℕ) (text : List ℕ) (count next : ℕ) (values : List Control) (s : State) (y : List ℕ) (p : Read) (fields : List (List ℕ)) (fault : TapeFault)
    → Left width room text count values s y → next_record default_config s [] [] y ≡ Some p → fields ≡ p.0
    → next ≡ count + 1 → record_fault width room next fields ≡ Some fault
    → first_fault width room 1 (records default_config text) ≡ Some fault
left-fault width room text count next values s y p fields fault left h ef en bad =
    let e : next ≡ suc count = omega arith in
    fault-more width room text count values s y p fault left h (rw (e, ef) at bad)

pub left-end : (width room : ℕ) (text : List ℕ) (count : ℕ) (values : List Control) (s : State) (y : List ℕ)
    → Left width room text count values s y → next_record default_config s [] [] y ≡ None
    → (first_fault width room 1 (records default_config text) ≡ None) × (count ≡ length (records default_config text)) × (raws values ≡ record_controls (records default_config text))
left-end width room text count values s y left h =
    let e = records-none left.fuel s y h in
    let n : count + 0 ≡ length (records default_config text) = rw e at left.counted in
    (sym (rw e at left.faults), omega arith, rw append-nil at (rw e at left.held))

-- ---- at a reader

next-cases : (o : Option Read) (f : List (List ℕ)) (b : State) (z : List ℕ) → NextIs o true f b z → (p : Read) × (o ≡ Some p) × (f ≡ p.0) × (b ≡ p.1) × (z ≡ p.2)
next-cases None f b z h = absurd cc
next-cases (Some p) f b z h = (p, refl, h.1, h.2, h.3)

taken-go : (cfg : Config) (a b : State) (y : List ℕ) (f : List (List ℕ)) (k : Option (List ℕ)) → ReadsNext cfg a (Some y) k true f b
    → (p : Read) × (next_record cfg a [] [] y ≡ Some p) × (f ≡ p.0) × (b ≡ p.1) × (k ≡ Some p.2)
taken-go cfg a b y f None r = absurd r
taken-go cfg a b y f (Some z) r = let n = next-cases _ f b z r in (n.0, n.1, n.2, n.3, ap (λ (x : List ℕ). Some x) n.4)

-- the record that a read took, and the reader behind it
pub row-taken : {R : Type 0} (rem : R → Option (List ℕ)) (a b : Reader R) (f : List (List ℕ)) (cfg : Config) (y : List ℕ)
    → a.config ≡ cfg → source_of rem a ≡ Some y → ReadRecord rem a b true f
    → (p : Read) × (next_record cfg a.state [] [] y ≡ Some p) × (f ≡ p.0) × (b.state ≡ p.1) × (source_of rem b ≡ Some p.2)
row-taken rem a b f cfg y ec ex r =
    let g = taken-go cfg a.state b.state y f (pending_of (rem b.rdr) b) (rw (ec, ex) at r.0) in
    (g.0, g.1, g.2, g.3, rw r.1 g.4)

cut-le : (b : Bool) (xs ys : List ℕ) → length xs ≤ length ys → length (cond b xs ys) ≤ length ys
cut-le true xs ys h = h
cut-le false xs ys h = omega arith

pub strip_bom-le : (bytes : List ℕ) → length (strip_bom bytes) ≤ length bytes
unfolding strip_bom
strip_bom-le [] = omega arith
strip_bom-le (a ∷ []) = omega arith
strip_bom-le (a ∷ b ∷ []) = omega arith
strip_bom-le (a ∷ b ∷ c ∷ rest) = cut-le _ rest (a ∷ b ∷ c ∷ rest) (omega arith)
