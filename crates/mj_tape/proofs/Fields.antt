-- The fields of a record, one by one.
use Rattle.std.proofs.Common.{◌≡◌, ℕ, zero, suc, ◌+◌, ◌≤◌, List, [], ◌∷◌, ◌++◌, Bool, true, false, cond, Some, None, ℤ, length, drop, map, refl, sym, ◌∙◌, ap, arith, append_assoc, leb, Result, Ok, Err, unsigned_abs}
use Rattle.std.proofs.lemmas.List.{map-append}
use Rattle.std.proofs.lemmas.Bool.{leb-true}
use Rattle.std.proofs.lemmas.List.Elements.{All-push}
use Rattle.csv.specs.Records.{field_at}
use Rattle.mj_types.specs.declared.tape.TapeFault.{TapeFault}
use Rattle.mj_types.specs.declared.tape.TapeFault.TheVariants.{BadNumber}
use Rattle.mj_types.specs.Control.{Control, control_limit, AreSmall}
use Rattle.fx_text.specs.Decimal.{decimal}
use Rattle.fx_text.specs.declared.decimal.DecimalFault.{DecimalFault}
use Rattle.mj_tape.specs.Judging.{bad_field, control_or_zero, control_of, small_control, raws}

-- the field at a place stands first among those from there on
pub field-drop : (fields : List (List ℕ)) (i : ℕ) (field : List ℕ) → field_at fields i ≡ Some field → drop i fields ≡ field ∷ drop (suc i) fields
unfolding field_at
field-drop [] i field h = absurd cc
field-drop (f ∷ fs) zero field h = ap (λ (x : List ℕ). x ∷ fs) cc
field-drop (f ∷ fs) (suc i) field h = field-drop fs i field h

pub field-none : (fields : List (List ℕ)) (i : ℕ) → field_at fields i ≡ None → length fields ≤ i
unfolding field_at
field-none [] i h = omega arith
field-none (f ∷ fs) zero h = absurd cc
field-none (f ∷ fs) (suc i) h = omega (arith, field-none fs i h)

more : (k : ℕ) (fields : List (List ℕ)) (i : ℕ) (field : List ℕ) (v : ℤ) → field_at fields i ≡ Some field → control_of field ≡ Some v → bad_field k (suc i) (drop i fields) ≡ bad_field k (suc (suc i)) (drop (suc i) fields)
more k fields i field v h e = rw (field-drop fields i field h, e) refl

here : (k : ℕ) (fields : List (List ℕ)) (i : ℕ) (field : List ℕ) → field_at fields i ≡ Some field → control_of field ≡ None → bad_field k (suc i) (drop i fields) ≡ Some (BadNumber k (suc i))
here k fields i field h e = rw (field-drop fields i field h, e) refl

controls : (fields : List (List ℕ)) (i : ℕ) (field : List ℕ) (v : ℤ) → field_at fields i ≡ Some field → control_of field ≡ Some v → map control_or_zero (drop i fields) ≡ v ∷ map control_or_zero (drop (suc i) fields)
controls fields i field v h e = rw (field-drop fields i field h, e) refl

-- a control moves the search for a bad field on
pub bad_field-step : (k : ℕ) (fields : List (List ℕ)) (i j : ℕ) (field : List ℕ) (v : ℤ) → field_at fields i ≡ Some field → control_of field ≡ Some v → j ≡ i + 1
    → bad_field k (suc i) (drop i fields) ≡ bad_field k 1 fields → bad_field k (suc j) (drop j fields) ≡ bad_field k 1 fields
bad_field-step k fields i j field v h e n before =
    let s : j ≡ suc i = omega arith in rw s (sym (more k fields i field v h e) ∙ before)

-- another field ends it
pub bad_field-here : (k : ℕ) (fields : List (List ℕ)) (i : ℕ) (field : List ℕ) (fault : TapeFault) → field_at fields i ≡ Some field → control_of field ≡ None → fault ≡ BadNumber k (i + 1)
    → bad_field k (suc i) (drop i fields) ≡ bad_field k 1 fields → bad_field k 1 fields ≡ Some fault
bad_field-here k fields i field fault h e n before =
    let s : i + 1 ≡ suc i = omega arith in
    rw (n, s) (sym before ∙ here k fields i field h e)

-- a control more is held, and one fewer is left
pub controls-step : (fields : List (List ℕ)) (i j : ℕ) (field : List ℕ) (x : Control) (values after : List Control) (all : List ℤ) → field_at fields i ≡ Some field → control_of field ≡ Some x.mid → j ≡ i + 1
    → after ≡ values ++ x ∷ [] → raws values ++ map control_or_zero (drop i fields) ≡ all → raws after ++ map control_or_zero (drop j fields) ≡ all
controls-step fields i j field x values after all h e n grew before =
    let s : j ≡ suc i = omega arith in
    rw (s, grew, map-append, append_assoc) (rw (controls fields i field x.mid h e) at before)

kept : (b : Bool) (w v : ℤ) → (b ≡ true → unsigned_abs w ≤ control_limit) → cond b (Some w) None ≡ Some v → unsigned_abs v ≤ control_limit
kept true w v f h = let e : w ≡ v = cc in rw (← e) (f refl)
kept false w v f h = absurd cc

small : (r : Result ℤ DecimalFault) (v : ℤ) → small_control r ≡ Some v → unsigned_abs v ≤ control_limit
small (Ok w) v h = kept (leb (unsigned_abs w) control_limit) w v (leb-true (unsigned_abs w) control_limit) h
small (Err e) v h = absurd cc

-- a control is small
pub small-step : (field : List ℕ) (x : Control) (values after : List Control) → control_of field ≡ Some x.mid → after ≡ values ++ x ∷ [] → AreSmall values → AreSmall after
small-step field x values after e grew h = rw grew (All-push (λ (c : Control). unsigned_abs c.mid ≤ control_limit) values x h (small (decimal 32 field) x.mid e))
