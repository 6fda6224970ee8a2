-- What an accepted chain of readings says of each of its steps.
use Rattle.std.proofs.Common.{◌≡◌, Bool, true, false, List, ℕ, Result, Ok, Err, refl, ap}
use Rattle.mj_types.specs.declared.status.ModelCode.{ModelCode}
use Rattle.mj_form.specs.Reading.{Read, ◌>>=◌, at_key, under}
use Rattle.mj_judge.specs.Judged.{Judged, unless, limited}

-- a step that the rest uses
pub chain : {A B E : Type 0} {P : Type 0} (a : Result A E) (f : A → Result B E) (y : B) → (a >>= f) ≡ Ok y → ((x : A) → a ≡ Ok x → f x ≡ Ok y → P) → P
chain (Ok x) f y h k = k x refl h
chain (Err e) f y h k = let different : Err e ≡ Ok y → ⊥ = λ q. cc in absurd (different h)

pub at_key-ok : {A : Type 0} (key : List ℕ) (r : Judged A) (x : A) → at_key key r ≡ Ok x → r ≡ Ok x
at_key-ok key (Ok y) x h = let e : y ≡ x = cc in ap (λ z. Ok z) e
at_key-ok key (Err code) x h = absurd cc

pub under-ok : {A : Type 0} (place : List ℕ) (r : Read A) (x : A) → under place r ≡ Ok x → r ≡ Ok x
under-ok place (Ok y) x h = h
under-ok place (Err fault) x h = absurd cc

pub limited-good : {A : Type 0} (good : Bool) (n x : A) → limited good n ≡ Ok x → good ≡ true
limited-good true n x h = refl
limited-good false n x h = absurd cc

pub limited-is : {A : Type 0} (good : Bool) (n x : A) → limited good n ≡ Ok x → n ≡ x
limited-is true n x h = cc
limited-is false n x h = absurd cc

pub unless-good : (good : Bool) (code : ModelCode) (x : Unit {0}) → unless good code ≡ Ok x → good ≡ true
unless-good true code x h = refl
unless-good false code x h = absurd cc

abbrev accepted : (A E : Type 0) → A → Result A E
accepted A E a = Ok a

pub ok-same : {A E : Type 0} (a b : A) → accepted A E a ≡ accepted A E b → a ≡ b
ok-same a b h = cc
