-- The forms that a key's value may have. A number is a TOML integer or a decimal numeral in a string.
use Rattle.std.specs.Prelude.{ℕ, suc, ℤ, pos, ◌*ℤ◌, ◌^◌, Bool, true, false, ◌&&◌, ◌||◌, nat_le, if◌then◌else◌, List, [], ◌∷◌, map, Result, Ok, Err}
use Rattle.toml.specs.Data.{Data, string, integer, float, array, table, Items, no_items, item, Members}
use Rattle.fx_num.specs.declared.number.Number.{Number}
use Rattle.fx_text.specs.Decimal.{decimal, in_range}
use Rattle.fx_text.specs.declared.decimal.DecimalFault.{DecimalFault}
use Rattle.mj_types.specs.declared.status.ModelCode.{ModelCode}
use Rattle.mj_types.specs.declared.status.ModelCode.TheVariants as code
use Rattle.mj_form.specs.Reading.{◌>>=◌}

-- what a value is read as, or what is wrong with it
abbrev pub Form : Type 0 → Type 0
Form A = Data → Result A ModelCode

-- a plain number at scale F
abbrev pub Fix : ℕ → Type 0
Fix F = Number (Unit {0}) F

-- the plain number at scale F with a raw value, and those with some
abbrev pub raw : (F : ℕ) → ℤ → Fix F
raw F z = record { mid = z; rad = tt }

abbrev pub raws : (F : ℕ) → List ℤ → List (Fix F)
raws F values = map (raw F) values

abbrev pub is_float : Data → Bool
is_float (float x) = true
is_float _ = false

abbrev pub is_table : Data → Bool
is_table (table inner) = true
is_table _ = false

abbrev pub is_number : Data → Bool
is_number (integer z) = true
is_number (string s) = true
is_number _ = false

-- some item passes the test
abbrev pub any_item : (Data → Bool) → Items → Bool
any_item test no_items = false
any_item test (item value rest) = test value || any_item test rest

-- each item passes the test
abbrev pub all_items : (Data → Bool) → Items → Bool
all_items test no_items = true
all_items test (item value rest) = test value && all_items test rest

-- how many items an array has
abbrev pub count : Items → ℕ
count no_items = 0
count (item value rest) = suc (count rest)

-- a value that is a float, or an array with a float in it
abbrev pub has_float : Data → Bool
has_float (array items) = any_item is_float items
has_float value = is_float value

-- a form, behind the look for floats
abbrev pub exactly : {A : Type 0} → Form A → Form A
exactly form value = if has_float value then Err code.FloatValue else form value

abbrev pub text : Form (List ℕ)
text (string s) = Ok s
text _ = Err code.WrongKind

abbrev pub whole : Form ℤ
whole (integer z) = Ok z
whole _ = Err code.WrongKind

-- a raw value as a number, if it could be read
abbrev pub raw_number : {F : ℕ} → Result ℤ DecimalFault → Result (Fix F) ModelCode
raw_number {F} (Ok z) = Ok (raw F z)
raw_number {F} (Err fault) = Err code.BadNumber

abbrev pub number : (F : ℕ) → Form (Fix F)
number F (integer z) = raw_number (in_range (z *ℤ pos (2 ^ F)))
number F (string s) = raw_number (decimal F s)
number F _ = Err code.WrongKind

-- each item of an array as a number
abbrev pub each_number : (F : ℕ) → Items → Result (List (Fix F)) ModelCode
each_number F no_items = Ok []
each_number F (item value rest) = do
  x ← number F value
  xs ← each_number F rest
  Ok (x ∷ xs)

-- an array of numbers, if it may have as many items
abbrev pub number_list : (F : ℕ) → Bool → Items → Result (List (Fix F)) ModelCode
number_list F allowed items =
    if allowed && all_items is_number items then each_number F items else Err code.WrongKind

-- an array of at least `least` numbers and at most `most`
abbrev pub numbers : (F least most : ℕ) → Form (List (Fix F))
numbers F least most (array items) =
    number_list F (nat_le least (count items) && nat_le (count items) most) items
numbers F least most _ = Err code.WrongKind

-- an array of numbers
abbrev pub all_numbers : (F : ℕ) → Form (List (Fix F))
all_numbers F (array items) = number_list F true items
all_numbers F _ = Err code.WrongKind

-- a table
abbrev pub members : Form Members
members (table inner) = Ok inner
members _ = Err code.WrongKind

-- an array whose items are looked at later, as tables
abbrev pub items_of_tables : Form Items
items_of_tables (array items) = Ok items
items_of_tables (float x) = Err code.FloatValue
items_of_tables _ = Err code.WrongKind
