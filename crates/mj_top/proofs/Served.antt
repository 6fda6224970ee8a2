-- What an accepted tape serves.
use Rattle.std.proofs.Common.{◌≡◌, ℕ, ◌≤◌, Bool, true, false, nat_lt, List, length, Option, Some, None, Ok, Err, refl, sym, ap, ltb-false, if◌then◌else◌}
use Rattle.mj_types.specs.declared.tape.TapeFault.{TapeFault}
use Rattle.mj_types.specs.declared.tape.TapeFault.TheVariants.{TooLarge, Short}
use Rattle.mj_tape.specs.Judging.{TapeValues, tape_verdict, unless_short, records_of, first_fault, record_controls, file_limit}

-- a tape that isn't short has each of the steps
unless-serves : (w n : ℕ) (rows : List (List (List ℕ))) (f : Option TapeFault) (v : TapeValues) → unless_short w n rows f ≡ Ok v → (v.width ≡ w) × (n ≤ v.rows)
unless-serves w n rows (Some fault) v e = absurd cc
unless-serves w n rows None v e = chosen (nat_lt (length rows) n) refl e
  where
    chosen : (b : Bool) → nat_lt (length rows) n ≡ b → (if b then Err (Short (length rows)) else Ok (record { rows = length rows; width = w; values = record_controls rows })) ≡ Ok v → (v.width ≡ w) × (n ≤ v.rows)
    chosen true t d = absurd cc
    chosen false t d =
        let this : TapeValues = record { rows = length rows; width = w; values = record_controls rows } in
        let same : this ≡ v = cc in
        let enough : n ≤ length rows = ltb-false (length rows) n t in
        (ap (λ x. x.width) (sym same), rw (sym same) enough)

pub judged-serves : (w n room : ℕ) (bytes : List ℕ) (v : TapeValues) → tape_verdict w n room bytes ≡ Ok v → (v.width ≡ w) × (n ≤ v.rows)
unfolding tape_verdict
judged-serves w n room bytes v e = limited (nat_lt file_limit (length bytes)) e
  where
    limited : (b : Bool) → (if b then Err TooLarge else unless_short w n (records_of bytes) (first_fault w room 1 (records_of bytes))) ≡ Ok v → (v.width ≡ w) × (n ≤ v.rows)
    limited true d = absurd cc
    limited false d = unless-serves w n (records_of bytes) (first_fault w room 1 (records_of bytes)) v d
