-- Source: FIPS 180-4 (SHA-256), as the library sha2 says it; RFC 4648, section 5 (the characters of a key); the rest own.
-- Which key is right for a name.
use Rattle.std.specs.Prelude.{ℕ, nat_le, Bool, ◌==◌, ◌&&◌, ◌||◌, List, length}
use Rattle.std.specs.List.{list_all, list_any}
use Rattle.std.specs.Str.{bytes_eq}
use Rattle.hex.specs.Hex.{encode_lower}
use Rattle.sha2.specs.Sha256.{sha256}
use Rattle.boss_access.specs.Patterns.{matches}
use Rattle.boss_keys.specs.declared.entry.Entry.{Entry}
use Rattle.boss_keys.specs.Limits.{shortest_key, longest_key}

-- `A` to `Z`, `a` to `z`, `0` to `9`, an underscore or a dash
abbrev pub is_key_byte : ℕ → Bool
is_key_byte b = (nat_le 65 b && nat_le b 90) || (nat_le 97 b && nat_le b 122) || (nat_le 48 b && nat_le b 57) || b == 95 || b == 45

-- 32 to 128 of these
abbrev pub is_key : List ℕ → Bool
is_key key = nat_le shortest_key (length key) && nat_le (length key) longest_key && list_all is_key_byte key

-- SHA-256 of the characters of a key, in hexadecimal
abbrev pub digest_of : List ℕ → List ℕ
digest_of key = encode_lower (sha256 key)

-- the entry is for this name, and the digest is the one that it has
abbrev pub is_right : List ℕ → List ℕ → Entry → Bool
is_right name digest entry = matches entry.process name && bytes_eq entry.sha256 digest

-- whoever shows this key is the process of this name
abbrev pub admits : List Entry → List ℕ → List ℕ → Bool
admits entries name key = is_key key && list_any (is_right name (digest_of key)) entries
