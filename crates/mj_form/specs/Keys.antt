-- The keys of a table: which there may be, and what each holds. In a table's definition one line
-- stands for one key, in the order in which the keys are judged.
use Rattle.std.specs.Prelude.{ℕ, suc, Bool, false, ◌++◌, ◌||◌, ◌==◌, nat_lt, if◌then◌else◌, List, [], ◌∷◌, length, map, drop, codes, Option, Some, None, option_map, unwrap_or, bytes_eq, is_some, not, Result, Ok, Err}
use Rattle.std.specs.Ordering.{nat_cmp, is_lt}
use Rattle.std.specs.Cmp.Lexicographic.{slice_cmp}
use Rattle.toml.specs.Data.{Data, string, Items, no_items, item, Members, no_members, member, get_member}
use Rattle.mj_types.specs.declared.status.ModelCode.{ModelCode}
use Rattle.mj_types.specs.declared.status.ModelCode.TheVariants as code
use Rattle.mj_form.specs.Reading.{Read, ◌>>=◌, ◌>>◌, refused, at_key, under, place}
use Rattle.mj_form.specs.Forms.{Form, exactly, members, items_of_tables, is_float, is_table}

-- the key is one of these
abbrev pub is_one_of : List ℕ → List (List ℕ) → Bool
is_one_of key [] = false
is_one_of key (known ∷ keys) = bytes_eq known key || is_one_of key keys

-- of a key and another, if there is another, the lesser by bytes
abbrev pub lesser : List ℕ → Option (List ℕ) → Option (List ℕ)
lesser key None = Some key
lesser key (Some other) = if is_lt (slice_cmp nat_cmp other key) then Some other else Some key

-- the least key by bytes that isn't one of these
abbrev pub least_unknown : List (List ℕ) → Members → Option (List ℕ)
least_unknown keys no_members = None
least_unknown keys (member key value rest) =
    if is_one_of key keys then least_unknown keys rest else lesser key (least_unknown keys rest)

-- a key's bytes as a path shows them: `?` for what isn't printed
abbrev pub shown_byte : ℕ → ℕ
shown_byte byte = if nat_lt byte 32 || byte == 127 then 63 else byte

abbrev pub no_other : Option (List ℕ) → Read (Unit {0})
no_other None = Ok tt
no_other (Some key) = refused code.UnknownKey (map shown_byte key)

-- the table has no key but these
unfoldable pub only : List (List ℕ) → Members → Read (Unit {0})
only keys t = no_other (least_unknown keys t)

-- the key's value is missing unless this holds
unfoldable pub must : List ℕ → Bool → Read (Unit {0})
must key holds = if holds then Ok tt else refused code.MissingKey key

-- the table has the key
abbrev pub has_key : List ℕ → Members → Bool
has_key key t = is_some (get_member key t)

abbrev pub is_text : List ℕ → Option Data → Bool
is_text text (Some (string s)) = bytes_eq s text
is_text text _ = false

-- the key holds just this text
abbrev pub holds_text : List ℕ → List ℕ → Members → Bool
holds_text key text t = is_text text (get_member key t)

abbrev pub if_present : {A : Type 0} → Form A → Option Data → Result (Option A) ModelCode
if_present form None = Ok None
if_present form (Some value) = do
  x ← form value
  Ok (Some x)

abbrev pub if_required : {A : Type 0} → Form A → Option Data → Result A ModelCode
if_required form None = Err code.MissingKey
if_required form (Some value) = form value

-- what a key holds, if the table has it
unfoldable pub optional : {A : Type 0} → Form A → List ℕ → Members → Read (Option A)
optional form key t = at_key key (if_present (exactly form) (get_member key t))

-- what a key that must be there holds
unfoldable pub required : {A : Type 0} → Form A → List ℕ → Members → Read A
required form key t = at_key key (if_required (exactly form) (get_member key t))

-- what a key holds, or else its default
unfoldable pub otherwise : {A : Type 0} → A → Form A → List ℕ → Members → Read A
otherwise default form key t = do
  found ← optional form key t
  Ok (unwrap_or found default)

-- the items, and behind them the defaults of those that are missing
abbrev pub fill : {A : Type 0} → List A → List A → List A
fill defaults found = found ++ drop (length found) defaults

-- the numbers that a key holds, and the defaults of those that are missing
unfoldable pub filled : {A : Type 0} → List A → Form (List A) → List ℕ → Members → Read (List A)
filled defaults form key t = do
  found ← otherwise [] form key t
  Ok (fill defaults found)

-- the walk of a key's value, which is a table
abbrev pub walk_value : {A : Type 0} → (Members → Read A) → List ℕ → Data → Read A
walk_value walk key value = do
  inner ← at_key key (exactly members value)
  under (key ++ codes ".") (walk inner)

abbrev pub walk_present : {A : Type 0} → (Members → Read A) → List ℕ → Option Data → Read (Option A)
walk_present walk key None = Ok None
walk_present walk key (Some value) = do
  x ← walk_value walk key value
  Ok (Some x)

abbrev pub walk_or_empty : {A : Type 0} → (Members → Read A) → List ℕ → Option Data → Read A
walk_or_empty walk key None = under (key ++ codes ".") (walk no_members)
walk_or_empty walk key (Some value) = walk_value walk key value

-- the walk of the table that a key holds, if the table has it
unfoldable pub inside : {A : Type 0} → (Members → Read A) → List ℕ → Members → Read (Option A)
inside walk key t = walk_present walk key (get_member key t)

-- the walk of the table that a key holds, of an empty one without it
unfoldable pub inside_or_empty : {A : Type 0} → (Members → Read A) → List ℕ → Members → Read A
inside_or_empty walk key t = walk_or_empty walk key (get_member key t)

-- the number of the first item that passes the test
abbrev pub first_item : (Data → Bool) → ℕ → Items → Option ℕ
first_item test n no_items = None
first_item test n (item value rest) = if test value then Some n else first_item test (suc n) rest

abbrev pub no_item : ModelCode → List ℕ → Option ℕ → Read (Unit {0})
no_item fault key None = Ok tt
no_item fault key (Some n) = refused fault (place key n)

-- the walk of an item, which is a table
abbrev pub walk_item : {A : Type 0} → (Members → Read A) → List ℕ → ℕ → Data → Read A
walk_item walk key n value = do
  inner ← at_key (place key n) (members value)
  under (place key n ++ codes ".") (walk inner)

-- each item in turn, from number n
abbrev pub each : {A : Type 0} → (ℕ → Data → Read A) → ℕ → Items → Read (List A)
each read n no_items = Ok []
each read n (item value rest) = do
  x ← read n value
  xs ← each read (suc n) rest
  Ok (x ∷ xs)

-- the walk of an array of tables: all items are looked at before the first is walked
abbrev pub walk_items : {A : Type 0} → (Members → Read A) → List ℕ → Items → Read (List A)
walk_items walk key items = do
  no_item code.FloatValue key (first_item is_float 1 items)
  no_item code.WrongKind key (first_item (λ value. not (is_table value)) 1 items)
  each (walk_item walk key) 1 items

-- the walk of a key's value, which is an array of tables
abbrev pub walk_array : {A : Type 0} → (Members → Read A) → List ℕ → Data → Read (List A)
walk_array walk key value = do
  items ← at_key key (items_of_tables value)
  walk_items walk key items

abbrev pub array_present : {A : Type 0} → (Members → Read A) → List ℕ → Option Data → Read (List A)
array_present walk key None = Ok []
array_present walk key (Some value) = walk_array walk key value

abbrev pub array_required : {A : Type 0} → (Members → Read A) → List ℕ → Option Data → Read (List A)
array_required walk key None = refused code.MissingKey key
array_required walk key (Some value) = walk_array walk key value

-- the walk of the array of tables that a key holds, of none without it
unfoldable pub tables : {A : Type 0} → (Members → Read A) → List ℕ → Members → Read (List A)
tables walk key t = array_present walk key (get_member key t)

-- the walk of the array of tables that a key must hold
unfoldable pub required_tables : {A : Type 0} → (Members → Read A) → List ℕ → Members → Read (List A)
required_tables walk key t = array_required walk key (get_member key t)
