-- The grammar of decimal numerals: an optional sign; digits with at most one point, at least one
-- digit; optionally an e, an optional sign and one or two digits. It is told by the kinds of bytes
-- that may follow at each place in a numeral.
use Rattle.std.specs.Prelude.{ℕ, suc, ◌-◌, Bool, true, false, ◌&&◌, ◌||◌, nat_le, ◌==◌, if◌then◌else◌, List, [], ◌∷◌, Option, Some, None}
use Rattle.fx_text.specs.declared.numeral.Kind.{Kind}
use Rattle.fx_text.specs.declared.numeral.Kind.TheVariants.{Digit, Sign, Point, Mark, Other}
use Rattle.fx_text.specs.declared.numeral.Place.{Place}
use Rattle.fx_text.specs.declared.numeral.Place.TheVariants.{Start, Signed, Whole, BarePoint, Fraction, Marked, MarkSigned, OneDigit, TwoDigits}

-- what a byte is in a numeral: a digit with its value, a sign, a point, or the mark e or E of an
-- exponent
abbrev pub kind_of : ℕ → Kind
kind_of b =
    if nat_le 48 b && nat_le b 57 then Digit (b - 48) else if (b == 43) || (b == 45) then Sign else if b == 46 then Point else if (b == 69) || (b == 101) then Mark else Other

-- the place in a numeral behind a byte of this kind, where such a byte may follow
abbrev pub next : Place → Kind → Option Place
next Start Sign = Some Signed
next Start (Digit d) = Some Whole
next Start Point = Some BarePoint
next Signed (Digit d) = Some Whole
next Signed Point = Some BarePoint
next Whole (Digit d) = Some Whole
next Whole Point = Some Fraction
next Whole Mark = Some Marked
next BarePoint (Digit d) = Some Fraction
next Fraction (Digit d) = Some Fraction
next Fraction Mark = Some Marked
next Marked Sign = Some MarkSigned
next Marked (Digit d) = Some OneDigit
next MarkSigned (Digit d) = Some OneDigit
next OneDigit (Digit d) = Some TwoDigits
next _ _ = None

-- a numeral may end here
abbrev pub may_end : Place → Bool
may_end Whole = true
may_end Fraction = true
may_end OneDigit = true
may_end TwoDigits = true
may_end _ = false

-- what f gives at the next place, if there is one
abbrev pub where_next : {A : Type 0} → Option Place → A → (Place → A) → A
where_next None otherwise f = otherwise
where_next (Some p) otherwise f = f p

-- the bytes complete a numeral from this place on
abbrev pub completes : Place → List ℕ → Bool
completes p [] = may_end p
completes p (b ∷ bs) = where_next (next p (kind_of b)) false (λ q. completes q bs)

-- how many of the bytes may follow from this place on
abbrev pub reach : Place → List ℕ → ℕ
reach p [] = 0
reach p (b ∷ bs) = where_next (next p (kind_of b)) 0 (λ q. suc (reach q bs))

-- the text is a numeral
abbrev pub is_numeral : List ℕ → Bool
is_numeral text = completes Start text

-- the length of the longest prefix of the text that begins a numeral
abbrev pub prefix_length : List ℕ → ℕ
prefix_length text = reach Start text
