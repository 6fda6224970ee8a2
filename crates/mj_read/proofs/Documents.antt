-- The document that bytes are, from what their reader found.
use Rattle.std.proofs.Common.{◌≡◌, ◌↔◌, Bool, true, false, IsTrue, inl, inr, List, ℕ, Option, Some, None, IsUtf8, sym, ◌∙◌}
use Rattle.std.proofs.lemmas.Bool.{cases_Bool, false≢true}
use Rattle.std.proofs.lemmas.Str.{is_utf8-from_IsUtf8, IsUtf8-from_is_utf8}
use Rattle.std.specs.Str.{is_utf8}
use Rattle.toml.specs.Data.{Members}
use Rattle.toml.specs.Parse.{parse_document}
use Rattle.mj_read.specs.Document.{document}

pub document-some : (bytes : List ℕ) (t : Members) → IsUtf8 bytes → parse_document bytes ≡ Some t → document bytes ≡ Some t
document-some bytes t text read = rw (is_utf8-from_IsUtf8 bytes text, read)

pub document-none : (bytes : List ℕ) → (IsUtf8 bytes → parse_document bytes ≡ None) → document bytes ≡ None
document-none bytes refused = elim (cases_Bool (is_utf8 bytes)) [
  | inl text ↦ rw (text, refused (IsUtf8-from_is_utf8 bytes text))
  | inr other ↦ rw other
]

-- a test that is false doesn't hold
pub no_memory : {M : Type 0} (b : Bool) → IsTrue b ↔ M → b ≡ false → M → ⊥
no_memory b test fails m = let holds : b ≡ true = test.1 m in false≢true (sym fails ∙ holds)
