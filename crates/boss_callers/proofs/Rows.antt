-- Worked rows, computed from the definitions: what lines show where the key of one name is known.
use Rattle.std.proofs.Common.{◌≡◌, List, [], ◌∷◌, codes, refl}
use Rattle.std.specs.Str.{is_utf8, chars}
use Rattle.hex.specs.Hex.{encode_with}
use Rattle.sha2.specs.Sha256.{compress, digest_bytes, first_words, hash_after, rounds, schedule, sha256}
use Rattle.serde_json.proofs.OnLiterals.{serde_json_on_literals}
use Rattle.boss_access.specs.declared.pattern.Pattern.TheVariants.{Named}
use Rattle.boss_keys.specs.declared.entry.Entry.{Entry}
use Rattle.boss_callers.specs.declared.shown.Shown.TheVariants.{NoObject, Key, WrongKey}
use Rattle.boss_callers.specs.Shown.{shown_by}

-- the digest of the key of `a`, as `sha256sum` gives it, and no other one
abbrev entries : List Entry
entries = record { process = Named (codes "a"); sha256 = codes "73337f479fe170d73e53e247f3052e4243cc9c2a0ffa621853d9385c619efb77" } ∷ []

shown-of_process : shown_by entries (codes "{\"op\":\"attach\",\"process\":\"a\",\"key\":\"0123456789abcdefghijklmnopqrstuv\"}") ≡ Key (codes "a")
unfolding shown_by serde_json_on_literals is_utf8 chars first_words schedule rounds compress hash_after digest_bytes sha256 encode_with
shown-of_process = refl

-- `as` goes before the process, and a line needs no process
shown-as : shown_by entries (codes "{\"op\":\"watch\",\"process\":\"b\",\"as\":\"a\",\"key\":\"0123456789abcdefghijklmnopqrstuv\"}") ≡ Key (codes "a")
unfolding shown_by serde_json_on_literals is_utf8 chars first_words schedule rounds compress hash_after digest_bytes sha256 encode_with
shown-as = refl

shown-as_alone : shown_by entries (codes "{\"key\":\"0123456789abcdefghijklmnopqrstuv\",\"as\":\"a\"}") ≡ Key (codes "a")
unfolding shown_by serde_json_on_literals is_utf8 chars first_words schedule rounds compress hash_after digest_bytes sha256 encode_with
shown-as_alone = refl

-- of another name, also where the process is the right one
shown-of_other : shown_by entries (codes "{\"op\":\"attach\",\"process\":\"b\",\"key\":\"0123456789abcdefghijklmnopqrstuv\"}") ≡ WrongKey
unfolding shown_by serde_json_on_literals is_utf8 chars first_words schedule rounds compress hash_after digest_bytes sha256 encode_with
shown-of_other = refl

shown-as_other : shown_by entries (codes "{\"op\":\"attach\",\"process\":\"a\",\"as\":\"b\",\"key\":\"0123456789abcdefghijklmnopqrstuv\"}") ≡ WrongKey
unfolding shown_by serde_json_on_literals is_utf8 chars first_words schedule rounds compress hash_after digest_bytes sha256 encode_with
shown-as_other = refl

-- an `as` that is no name gives none, whatever the process is
shown-as_number : shown_by entries (codes "{\"op\":\"attach\",\"process\":\"a\",\"as\":1,\"key\":\"0123456789abcdefghijklmnopqrstuv\"}") ≡ WrongKey
unfolding shown_by serde_json_on_literals is_utf8 chars
shown-as_number = refl

shown-as_null : shown_by entries (codes "{\"op\":\"attach\",\"process\":\"a\",\"as\":null,\"key\":\"0123456789abcdefghijklmnopqrstuv\"}") ≡ WrongKey
unfolding shown_by serde_json_on_literals is_utf8 chars
shown-as_null = refl

shown-of_capital : shown_by entries (codes "{\"op\":\"attach\",\"process\":\"A\",\"key\":\"0123456789abcdefghijklmnopqrstuv\"}") ≡ WrongKey
unfolding shown_by serde_json_on_literals is_utf8 chars
shown-of_capital = refl

-- no name, no key, and a key that is no text
shown-nameless : shown_by entries (codes "{\"op\":\"read\",\"point\":\"lamp\",\"key\":\"0123456789abcdefghijklmnopqrstuv\"}") ≡ WrongKey
unfolding shown_by serde_json_on_literals is_utf8 chars
shown-nameless = refl

shown-keyless : shown_by entries (codes "{\"op\":\"attach\",\"process\":\"a\"}") ≡ WrongKey
unfolding shown_by serde_json_on_literals is_utf8 chars
shown-keyless = refl

shown-number : shown_by entries (codes "{\"op\":\"attach\",\"process\":\"a\",\"key\":7}") ≡ WrongKey
unfolding shown_by serde_json_on_literals is_utf8 chars
shown-number = refl

-- 31 characters
shown-short : shown_by entries (codes "{\"op\":\"attach\",\"process\":\"a\",\"key\":\"0123456789abcdefghijklmnopqrstu\"}") ≡ WrongKey
unfolding shown_by serde_json_on_literals is_utf8 chars
shown-short = refl

-- of two equal keys the last counts
shown-twice : shown_by entries (codes "{\"process\":\"a\",\"key\":7,\"key\":\"0123456789abcdefghijklmnopqrstuv\"}") ≡ Key (codes "a")
unfolding shown_by serde_json_on_literals is_utf8 chars first_words schedule rounds compress hash_after digest_bytes sha256 encode_with
shown-twice = refl

shown-twice_wrong : shown_by entries (codes "{\"process\":\"a\",\"key\":\"0123456789abcdefghijklmnopqrstuv\",\"key\":7}") ≡ WrongKey
unfolding shown_by serde_json_on_literals is_utf8 chars
shown-twice_wrong = refl

-- what is no object shows nothing
shown-no_json : shown_by entries (codes "attach a 0123456789abcdefghijklmnopqrstuv") ≡ NoObject
unfolding shown_by serde_json_on_literals is_utf8 chars
shown-no_json = refl

shown-array : shown_by entries (codes "[{\"process\":\"a\",\"key\":\"0123456789abcdefghijklmnopqrstuv\"}]") ≡ NoObject
unfolding shown_by serde_json_on_literals is_utf8 chars
shown-array = refl

shown-text : shown_by entries (codes "\"0123456789abcdefghijklmnopqrstuv\"") ≡ NoObject
unfolding shown_by serde_json_on_literals is_utf8 chars
shown-text = refl
