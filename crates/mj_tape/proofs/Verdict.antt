-- What a file is judged to be, by how its reading ended.
use Rattle.std.proofs.Common.{◌≡◌, ℕ, suc, ◌*◌, ◌<◌, ◌≤◌, List, [], ◌∷◌, Bool, true, false, not, cond, eqb, ltb, Option, Some, None, Result, Ok, Err, length, MatchResult, refl, sym, ◌∙◌, ap, arith, length-append}
use Rattle.std.proofs.lemmas.List.{length-map}
use Rattle.std.proofs.lemmas.Bool.Decides.{nat_tests}
use Rattle.mj_types.specs.Control.{Control}
use Rattle.mj_types.specs.declared.tape.Tape.{Tape}
use Rattle.mj_types.specs.declared.tape.TapeFault.{TapeFault}
use Rattle.mj_types.specs.declared.tape.TapeFault.TheVariants.{TooLarge, Short}
use Rattle.fx_whole.specs.First.{or_first}
use Rattle.mj_tape.specs.Judging.{tape_verdict, unless_short, records_of, first_fault, record_fault, record_controls, raws, seen, file_limit}

-- ---- an accepted tape has a value for each record and motor

pub no_fault-width : (b : Bool) (fault : TapeFault) (later : Option TapeFault) → cond (not b) (Some fault) later ≡ None → b ≡ true
no_fault-width true fault later h = refl
no_fault-width false fault later h = absurd cc

pub eqb-equal : (m n : ℕ) → eqb m n ≡ true → m ≡ n
eqb-equal m n h = grind (arith, nat_tests)

pub neither : (a b : Option TapeFault) → or_first a b ≡ None → (a ≡ None) × (b ≡ None)
neither None b h = (refl, h)
neither (Some fault) b h = absurd cc

pub values-fill : (width room k : ℕ) (rows : List (List (List ℕ))) → first_fault width room k rows ≡ None → length (record_controls rows) ≡ length rows * width
values-fill width room k [] h = omega arith
values-fill width room k (row ∷ rows) h =
    let n = neither (record_fault width room k row) (first_fault width room (suc k) rows) h in
    let e : length row ≡ width = eqb-equal (length row) width (no_fault-width _ _ _ n.0) in
    let r = values-fill width room (suc k) rows n.1 in
    rw (length-append, length-map, e, r) (omega arith)

-- the same, of the values as they are held
pub held-fill : (width room count : ℕ) (values : List Control) (rows : List (List (List ℕ))) → first_fault width room 1 rows ≡ None → count ≡ length rows → raws values ≡ record_controls rows → length values ≡ count * width
held-fill width room count values rows h n e =
    let a : length (raws values) ≡ length values = length-map values (λ (x : Control). x.mid) in
    let b : length (raws values) ≡ length (record_controls rows) = ap length e in
    let c = values-fill width room 1 rows h in
    rw n (sym a ∙ b ∙ c)

-- ---- the judgement

past : (m n : ℕ) → n < m → ltb n m ≡ true
past m n h = grind (arith, nat_tests)

within : (m n : ℕ) → m ≤ n → ltb n m ≡ false
within m n h = grind (arith, nat_tests)

pub judged-large : (width steps room : ℕ) (bytes : List ℕ) → file_limit < length bytes → tape_verdict width steps room bytes ≡ Err TooLarge
unfolding tape_verdict
judged-large width steps room bytes h = let e = past (length bytes) file_limit h in rw e refl

judged-read : (width steps room : ℕ) (bytes : List ℕ) → length bytes ≤ file_limit → tape_verdict width steps room bytes ≡ unless_short width steps (records_of bytes) (first_fault width room 1 (records_of bytes))
unfolding tape_verdict
judged-read width steps room bytes h = let e = within (length bytes) file_limit h in rw e refl

pub judged-fault : (width steps room : ℕ) (bytes : List ℕ) (fault : TapeFault) → length bytes ≤ file_limit → first_fault width room 1 (records_of bytes) ≡ Some fault → tape_verdict width steps room bytes ≡ Err fault
judged-fault width steps room bytes fault h f = judged-read width steps room bytes h ∙ rw f refl

-- what a tape is answered from, the records read whole
pub answered : (result : Result Tape TapeFault) (width steps room count : ℕ) (values : List Control) (bytes : List ℕ)
    → length bytes ≤ file_limit → first_fault width room 1 (records_of bytes) ≡ None → count ≡ length (records_of bytes) → raws values ≡ record_controls (records_of bytes)
    → MatchResult result (λ t. (steps ≤ count) × (t.rows ≡ count) × (t.width ≡ width) × (t.values ≡ values)) (λ fault. (count < steps) × (fault ≡ Short count))
    → seen result ≡ tape_verdict width steps room bytes
answered (Ok t) width steps room count values bytes h f n e r =
    let l : ltb (length (records_of bytes)) steps ≡ false = within steps (length (records_of bytes)) (omega arith) in
    sym (judged-read width steps room bytes h ∙ rw (f, l, r.1, n, r.2, r.3, e) refl)
answered (Err fault) width steps room count values bytes h f n e r =
    let l : ltb (length (records_of bytes)) steps ≡ true = past steps (length (records_of bytes)) (omega arith) in
    sym (judged-read width steps room bytes h ∙ rw (f, l, r.1, n) refl)
