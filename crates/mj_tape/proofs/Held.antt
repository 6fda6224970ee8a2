-- What the values of an accepted tape are: the controls that its fields write.
use Rattle.std.proofs.Common.{◌≡◌, ℕ, zero, suc, ◌+◌, ◌*◌, ◌<◌, List, [], ◌∷◌, ◌++◌, Bool, true, false, not, cond, ◌==◌, nat_lt, ℤ, pos, Option, Some, None, Ok, Err, length, get_or, map, refl, ◌∙◌, arith}
use Rattle.std.proofs.lemmas.List.{get_or-map, length-map, get_or_append_left, get_or-append-add}
use Rattle.mj_types.specs.declared.tape.TapeFault.{TapeFault}
use Rattle.mj_types.specs.declared.tape.TapeFault.TheVariants.{BadNumber, Short, TooLarge, Width}
use Rattle.mj_tape.specs.Judging.{TapeValues, HoldsFields, TapesHoldFields, tape_verdict, unless_short, records_of, first_fault, record_fault, bad_field, record_controls, control_of, control_or_zero}
use Rattle.mj_tape.proofs.Verdict.{no_fault-width, eqb-equal, neither}

-- a record without a bad field has controls alone
good-field_at : (k c : ℕ) (field : List ℕ) (fields : List (List ℕ)) (o : Option ℤ) → control_of field ≡ o → bad_field k c (field ∷ fields) ≡ None
    → (control_of field ≡ Some (control_or_zero field)) × (bad_field k (suc c) fields ≡ None)
good-field_at k c field fields None e h = let bad : Some (BadNumber k c) ≡ None = rw e at h in absurd cc
good-field_at k c field fields (Some v) e h = (rw e refl, rw e at h)

good-field : (k c j : ℕ) (fields : List (List ℕ)) → bad_field k c fields ≡ None → j < length fields
    → control_of (get_or fields j []) ≡ Some (control_or_zero (get_or fields j []))
good-field k c j [] h l = absurd (omega (arith, l))
good-field k c zero (field ∷ fields) h l = (good-field_at k c field fields (control_of field) refl h).0
good-field k c (suc j) (field ∷ fields) h l =
    good-field k (suc c) j fields (good-field_at k c field fields (control_of field) refl h).1 (omega (arith, l))

-- no bad field, where there is no fault
fields-good : (a b : Bool) (e f : TapeFault) (later : Option TapeFault) → cond (not a) (Some e) (cond b (Some f) later) ≡ None → later ≡ None
fields-good true true e f later h = absurd cc
fields-good true false e f later h = h
fields-good false b e f later h = absurd cc

-- the value at a place among those of the first record, and of the others
value-first : (row : List (List ℕ)) (rest : List ℤ) (j : ℕ) → j < length row → get_or (map control_or_zero row ++ rest) j (pos 0) ≡ control_or_zero (get_or row j [])
value-first row rest j l =
    get_or_append_left (map control_or_zero row) rest (pos 0) j (rw (length-map row control_or_zero) l)
    ∙ get_or-map control_or_zero row j [] (pos 0) l

value-later : (row : List (List ℕ)) (rest : List ℤ) (width k j : ℕ) → length row ≡ width → get_or (map control_or_zero row ++ rest) (suc k * width + j) (pos 0) ≡ get_or rest (k * width + j) (pos 0)
value-later row rest width k j e =
    let n : suc k * width + j ≡ length (map control_or_zero row) + (k * width + j) = rw (length-map row control_or_zero, e) (omega arith) in
    rw n (get_or-append-add (map control_or_zero row) rest (k * width + j) (pos 0))

-- each value of records without a fault is the control of its field
held-value : (width room n k j : ℕ) (rows : List (List (List ℕ))) → first_fault width room n rows ≡ None → k < length rows → j < width
    → control_of (get_or (get_or rows k []) j []) ≡ Some (get_or (record_controls rows) (k * width + j) (pos 0))
held-value width room n k j [] h l m = absurd (omega (arith, l))
held-value width room n zero j (row ∷ rows) h l m =
    let good = neither (record_fault width room n row) (first_fault width room (suc n) rows) h in
    let e : length row ≡ width = eqb-equal (length row) width (no_fault-width _ _ _ good.0) in
    let within : j < length row = rw e m in
    let start : 0 * width + j ≡ j = omega arith in
    rw (start, value-first row (record_controls rows) j within) (good-field n 1 j row (fields-good (length row == width) (nat_lt room (n * width)) (Width n) TooLarge (bad_field n 1 row) good.0) within)
held-value width room n (suc k) j (row ∷ rows) h l m =
    let good = neither (record_fault width room n row) (first_fault width room (suc n) rows) h in
    let e : length row ≡ width = eqb-equal (length row) width (no_fault-width _ _ _ good.0) in
    rw (value-later row (record_controls rows) width k j e) (held-value width room (suc n) k j rows good.1 (omega (arith, l)) m)

-- ---- an accepted tape

held-long : (width steps : ℕ) (bytes : List ℕ) (room : ℕ) (t : TapeValues) (b : Bool) → first_fault width room 1 (records_of bytes) ≡ None
    → cond b (Err (Short (length (records_of bytes)))) (Ok (record { rows = length (records_of bytes); width = width; values = record_controls (records_of bytes) })) ≡ Ok t
    → HoldsFields width bytes t
held-long width steps bytes room t true f h = absurd cc
held-long width steps bytes room t false f h =
    let e : t ≡ record { rows = length (records_of bytes); width = width; values = record_controls (records_of bytes) } = cc in
    rw e (record { rows = refl; columns = refl; values = λ k j l m. held-value width room 1 k j (records_of bytes) f l m })

held-judged : (width steps room : ℕ) (bytes : List ℕ) (t : TapeValues) (first : Option TapeFault) → first_fault width room 1 (records_of bytes) ≡ first
    → unless_short width steps (records_of bytes) first ≡ Ok t → HoldsFields width bytes t
held-judged width steps room bytes t (Some fault) f h = absurd cc
held-judged width steps room bytes t None f h = held-long width steps bytes room t _ f h

held-within : (width steps room : ℕ) (bytes : List ℕ) (t : TapeValues) (b : Bool)
    → cond b (Err TooLarge) (unless_short width steps (records_of bytes) (first_fault width room 1 (records_of bytes))) ≡ Ok t → HoldsFields width bytes t
held-within width steps room bytes t true h = absurd cc
held-within width steps room bytes t false h = held-judged width steps room bytes t _ refl h

pub tapes-hold : TapesHoldFields
unfolding tape_verdict
tapes-hold width steps room bytes t h = held-within width steps room bytes t _ h
