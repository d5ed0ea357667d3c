-- The value that a line writes, where it is text and where it is not.
use Rattle.std.proofs.Common.{◌≡◌, ℕ, List, Some, None, inl, inr}
use Rattle.std.proofs.lemmas.Bool.{cases_Bool}
use Rattle.std.proofs.lemmas.Str.{IsUtf8-from_is_utf8, is_utf8-from_IsUtf8}
use Rattle.std.specs.Prelude.{IsUtf8}
use Rattle.std.specs.Str.{is_utf8}
use Rattle.serde_json.specs.Data.{Data}
use Rattle.serde_json.specs.Read.{read}
use Rattle.def_wire.specs.Requests.{value_in}

pub value_in-text : (line : List ℕ) (d : Data) → IsUtf8 line → read line ≡ Some d → value_in line ≡ Some d
value_in-text line d text is = rw (is_utf8-from_IsUtf8 line text, is)

pub value_in-refused : (line : List ℕ) → (IsUtf8 line → read line ≡ None) → value_in line ≡ None
value_in-refused line refused = elim (cases_Bool (is_utf8 line)) [
  | inl text ↦ rw (text, refused (IsUtf8-from_is_utf8 line text))
  | inr other ↦ rw other
]
