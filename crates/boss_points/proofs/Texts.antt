-- Bytes that are text, and bytes that are none.
use Rattle.std.proofs.Common.{◌≡◌, ℕ, List, option_map, None, inl, inr}
use Rattle.std.proofs.lemmas.Bool.{cases_Bool}
use Rattle.std.proofs.lemmas.Str.{IsUtf8-from_is_utf8, is_utf8-from_IsUtf8}
use Rattle.std.specs.Prelude.{IsUtf8}
use Rattle.std.specs.Str.{is_utf8}
use Rattle.toml.specs.Data.{table}
use Rattle.toml.specs.Parse.{parse_document}
use Rattle.boss_points.specs.Reading.{table_of}

pub table_of-text : (bytes : List ℕ) → IsUtf8 bytes → table_of bytes ≡ option_map table (parse_document bytes)
table_of-text bytes text = rw (is_utf8-from_IsUtf8 bytes text)

pub table_of-no_text : (bytes : List ℕ) → ¬ (IsUtf8 bytes) → table_of bytes ≡ None
table_of-no_text bytes none = elim (cases_Bool (is_utf8 bytes)) [
  | inl text ↦ absurd (none (IsUtf8-from_is_utf8 bytes text))
  | inr other ↦ rw other
]
