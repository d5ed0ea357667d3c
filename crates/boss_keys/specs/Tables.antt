-- Source: TOML 1.0.0 (the form of the file); its keys own.
-- What a table of the file spells. One with a key that is not named here spells nothing.
use Rattle.std.specs.Prelude.{ℕ, nat_le, Bool, ◌==◌, ◌&&◌, ◌||◌, if◌then◌else◌, List, [], ◌∷◌, length, codes, Option, Some, None}
use Rattle.std.specs.List.{list_all}
use Rattle.toml.specs.Data.{Data}
use Rattle.boss_points.specs.Keys.{◌>>=◌, if_true, text_at}
use Rattle.boss_access.specs.Keys.{pattern_at, has_only}
use Rattle.boss_keys.specs.declared.entry.Entry.{Entry}
use Rattle.boss_keys.specs.Limits.{digest_length}

-- `0` to `9`, or `a` to `f`
abbrev pub is_digit : ℕ → Bool
is_digit b = (nat_le 48 b && nat_le b 57) || (nat_le 97 b && nat_le b 102)

-- 64 of these
abbrev pub is_digest : List ℕ → Bool
is_digest text = length text == digest_length && list_all is_digit text

abbrev pub digest_at : List ℕ → Data → Option (List ℕ)
digest_at key d = text_at key d >>= if_true is_digest

-- the entry that the two keys of a table spell
abbrev pub entry_in : Data → Option Entry
entry_in d = do
  process ← pattern_at (codes "process") d
  sha256 ← digest_at (codes "sha256") d
  Some (record { process = process; sha256 = sha256 })

abbrev pub entry_keys : List (List ℕ)
entry_keys = codes "process" ∷ codes "sha256" ∷ []

-- the entry that a table spells, where it has no third key
abbrev pub entry_of : Data → Option Entry
entry_of d = if has_only entry_keys d then entry_in d else None
