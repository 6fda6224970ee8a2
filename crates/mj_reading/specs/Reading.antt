-- Reading a text from its beginning on: a piece of it is read where the text begins with one of the piece's texts.
use Rattle.std.specs.Fmt.{signed_decimal}
use Rattle.fx_num.specs.declared.number.Wide.{Wide}
use Rattle.fx_text.specs.Raw.{IsWide}
use Rattle.std.specs.Prelude.{◌≡◌, ℕ, suc, ◌≤◌, Bool, true, false, ◌&&◌, ◌||◌, ◌==◌, nat_le, cond, List, [], ◌∷◌, ◌++◌, Option, None, Some, IfSome, codes}

-- what is still to be read, and whether all so far was in form
pub record Ahead : Type 0 where
  pub rest : List ℕ
  pub going : Bool

-- ---- which texts may stand behind a piece: any, or those that a number or a name doesn't go on with
abbrev pub Anything : List ℕ → Type 0
Anything rest = Unit {0}

abbrev pub is_number_byte : ℕ → Bool
is_number_byte b = (nat_le 48 b && nat_le b 57) || (b == 45)

abbrev pub is_letter : ℕ → Bool
is_letter b = (nat_le 97 b && nat_le b 122) || (nat_le 65 b && nat_le b 90)

abbrev pub goes_on : (ℕ → Bool) → List ℕ → Bool
goes_on test [] = false
goes_on test (b ∷ bs) = test b

abbrev pub NoNumber : List ℕ → Type 0
NoNumber rest = goes_on is_number_byte rest ≡ false

abbrev pub NoLetter : List ℕ → Type 0
NoLetter rest = goes_on is_letter rest ≡ false

-- how many bytes for which a test holds a text begins with
abbrev pub span : (ℕ → Bool) → List ℕ → ℕ
span test [] = 0
span test (b ∷ bs) = cond (test b) (suc (span test bs)) 0

-- ---- a piece is read, which has a text for each v that is in form. Where the text begins with that of any w, it was read, and the v that
-- was found is the same as w; where it begins with none, the reading stops, and stays so
pub record Read {V : Type 0} (Same : V → V → Type 0) (InForm : V → Type 0) (text : V → List ℕ) (Behind : List ℕ → Type 0) (from : Ahead) (v : V) (to : Ahead) : Type 0 where
  pub stays : from.going ≡ false → to.going ≡ false
  pub found : to.going ≡ true → from.rest ≡ text v ++ to.rest
  pub good : to.going ≡ true → InForm v
  pub only : from.going ≡ true → (w : V) (behind : List ℕ) → InForm w → Behind behind → from.rest ≡ text w ++ behind → (to.going ≡ true) × (to.rest ≡ behind) × Same v w

-- the same thing, and two the same things
abbrev pub Is : {V : Type 0} → V → V → Type 0
Is v w = v ≡ w

abbrev pub Both : {A B : Type 0} → (A → A → Type 0) → (B → B → Type 0) → A × B → A × B → Type 0
Both S R a b = S a.0 b.0 × R a.1 b.1

-- anything is in form, or a number within a range
abbrev pub Any : {V : Type 0} → V → Type 0
Any v = Unit {0}

abbrev pub IsBetween : ℕ → ℕ → ℕ → Type 0
IsBetween least most n = (least ≤ n) × (n ≤ most)

-- the v in form whose text this is, or nothing where it is no such text
pub record IsToken {V : Type 0} (InForm : V → Type 0) (text : V → List ℕ) (told : List ℕ) (read : Option V) : Type 0 where
  pub is : IfSome read (λ v. told ≡ text v)
  pub good : IfSome read InForm
  pub only : (w : V) → InForm w → told ≡ text w → read ≡ Some w

-- ---- a number with a sign
abbrev pub IsRaw : Wide 0 → Type 0
IsRaw x = IsWide x.raw

abbrev pub raw_text : Wide 0 → List ℕ
raw_text x = signed_decimal x.raw

-- a number that may be missing, for which a mark stands
abbrev pub IsOptional : Option (Wide 0) → Type 0
IsOptional x = IfSome x IsRaw

abbrev pub optional_text : Option (Wide 0) → List ℕ
optional_text None = codes "-"
optional_text (Some x) = raw_text x
