-- The document of a model, and the raw model that it is read into.
use Rattle.std.specs.Prelude.{◌≡◌, ℕ, pos, nat_lt, ◌==◌, if◌then◌else◌, List, [], ◌∷◌, length, codes, Option, Some, None, Ok}
use Rattle.std.specs.Ordering.{int_eq}
use Rattle.std.specs.Str.{is_utf8}
use Rattle.toml.specs.Data.{Data, integer, Members, get_member}
use Rattle.toml.specs.Parse.{parse_document}
use Rattle.mj_types.specs.declared.status.ModelFault.{ModelFault}
use Rattle.mj_types.specs.declared.status.ModelCode.TheVariants as code
use Rattle.mj_form.specs.Reading.{Read, ◌>>=◌, ◌>>◌, refused}
use Rattle.mj_form.specs.Forms.{whole}
use Rattle.mj_form.specs.Keys.{only, otherwise, inside, inside_or_empty, tables}
use Rattle.mj_read.specs.declared.document.RawModel.{RawModel}
use Rattle.mj_read.specs.Tables.{option, body, geom, tendon, motor, equality, keyframe}

-- the format that a document's keys have: 2 where that is the integer at `format`, else 1
abbrev pub format_at : Option Data → ℕ
format_at (Some (integer z)) = if int_eq z (pos 2) then 2 else 1
format_at _ = 1

abbrev pub format_of : Members → ℕ
format_of t = format_at (get_member (codes "format") t)

-- the keys of format 1 and of format 2
abbrev pub first_keys : List (List ℕ)
first_keys =
    codes "format" ∷ codes "option" ∷ codes "body" ∷ codes "geom" ∷ codes "tendon" ∷
    codes "motor" ∷ codes "keyframe" ∷ []

abbrev pub second_keys : List (List ℕ)
second_keys =
    codes "format" ∷ codes "option" ∷ codes "body" ∷ codes "geom" ∷ codes "tendon" ∷
    codes "motor" ∷ codes "equality" ∷ codes "keyframe" ∷ []

abbrev pub model_keys : ℕ → List (List ℕ)
model_keys format = if format == 2 then second_keys else first_keys

unfoldable pub model : ℕ → Members → Read RawModel
model known t = do
  only (model_keys known) t
  format ← otherwise (pos 1) whole (codes "format") t
  option ← inside_or_empty option (codes "option") t
  body ← tables (body known) (codes "body") t
  geom ← tables geom (codes "geom") t
  tendon ← tables tendon (codes "tendon") t
  motor ← tables motor (codes "motor") t
  equality ← tables equality (codes "equality") t
  keyframe ← inside keyframe (codes "keyframe") t
  Ok (record { format = format; option = option; body = body; geom = geom; tendon = tendon; motor = motor; equality = equality; keyframe = keyframe })

-- the walk of a whole document
abbrev pub document_model : Members → Read RawModel
document_model t = model (format_of t) t

-- the document that bytes are: UTF-8 text, as the grammar of TOML reads it
abbrev pub document : List ℕ → Option Members
document bytes = if is_utf8 bytes then parse_document bytes else None

abbrev pub walked : Option Members → Read RawModel
walked None = refused code.NotToml []
walked (Some t) = document_model t

-- what bytes are read as: too many are refused, then what is no document, then the document's faults
abbrev pub raw_model : List ℕ → Read RawModel
raw_model bytes = if nat_lt 1048576 (length bytes) then refused code.TooLarge [] else walked (document bytes)

-- want of memory, at no key
abbrev pub no_memory : ModelFault
no_memory = record { code = code.Memory; path = [] }
