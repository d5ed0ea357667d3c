-- Worked rows, computed from the definitions: files, one accepted and others refused, and who is admitted by a key.
use Rattle.std.proofs.Common.{◌≡◌, ℕ, true, false, List, [], ◌∷◌, ◌++◌, codes, drop, pos, negsuc, Ok, Err, refl}
use Rattle.std.specs.Fmt.{digits}
use Rattle.hex.specs.Hex.{encode_with}
use Rattle.sha2.specs.Sha256.{compress, digest_bytes, first_words, hash_after, rounds, schedule, sha256}
use Rattle.toml.specs.Data.{Data, string, integer, array, table, Items, no_items, item, no_members, member}
use Rattle.boss_access.specs.declared.pattern.Pattern.TheVariants.{Named, Beginning}
use Rattle.boss_keys.specs.declared.entry.Entry.{Entry}
use Rattle.boss_keys.specs.declared.refusal.KeysRefusal.TheVariants.{TooLong, Missing, TooMany, BadKey, BadReserve}
use Rattle.boss_keys.specs.Admission.{is_key, digest_of, admits}
use Rattle.boss_keys.specs.Lines.{refusal_line}
use Rattle.boss_keys.specs.Reading.{entries_in, file_in, reserve_in}

-- a key of 32 characters, and its digest as `sha256sum` gives it
abbrev shown : List ℕ
shown = codes "0123456789abcdefghijklmnopqrstuv"

abbrev digest : List ℕ
digest = codes "73337f479fe170d73e53e247f3052e4243cc9c2a0ffa621853d9385c619efb77"

pub digest-of_shown : digest_of shown ≡ digest
unfolding first_words schedule rounds compress hash_after digest_bytes sha256 encode_with
digest-of_shown = refl

-- ---- files; keys of a table ascend

abbrev file_of : Items → Data
file_of tables = table (member (codes "key") (array tables) no_members)

abbrev entry_with : List ℕ → List ℕ → Data
entry_with process sha256 = table (member (codes "process") (string process) (member (codes "sha256") (string sha256) no_members))

abbrev a_key : Data
a_key = entry_with (codes "a") digest

pub two-entries : entries_in (file_of (item a_key (item (entry_with (codes "night-*") digest) no_items)))
    ≡ Ok (record { process = Named (codes "a"); sha256 = digest } ∷ record { process = Beginning (codes "night-"); sha256 = digest } ∷ [])
two-entries = refl

pub no-entries : entries_in (file_of no_items) ≡ Ok []
no-entries = refl

pub missing-key : entries_in (table no_members) ≡ Err Missing
missing-key = refl

pub key-no_array : entries_in (table (member (codes "key") a_key no_members)) ≡ Err Missing
key-no_array = refl

-- the first that is bad is told
pub digest-shorter : entries_in (file_of (item a_key (item (entry_with (codes "a") (drop 1 digest)) (item (table no_members) no_items)))) ≡ Err (BadKey 2)
digest-shorter = refl

pub digest-capital : entries_in (file_of (item (entry_with (codes "a") (codes "A" ++ drop 1 digest)) no_items)) ≡ Err (BadKey 1)
digest-capital = refl

pub pattern-bad : entries_in (file_of (item (entry_with (codes "*.a") digest) no_items)) ≡ Err (BadKey 1)
pattern-bad = refl

pub third-key : entries_in (file_of (item (table (member (codes "note") (integer (pos 1)) (member (codes "process") (string (codes "a")) (member (codes "sha256") (string digest) no_members)))) no_items))
    ≡ Err (BadKey 1)
third-key = refl

-- ---- workers that are kept

abbrev keeping : Data → Data
keeping reserve = table (member (codes "key") (array (item a_key no_items)) (member (codes "reserve") reserve no_members))

pub file-keeps_4 : file_in (keeping (integer (pos 4))) ≡ Ok (record { keys = record { process = Named (codes "a"); sha256 = digest } ∷ []; reserve = 4 })
file-keeps_4 = refl

pub file-keeps_none : file_in (file_of no_items) ≡ Ok (record { keys = []; reserve = 0 })
file-keeps_none = refl

pub reserve-greatest : reserve_in (keeping (integer (pos 1024))) ≡ Ok 1024
reserve-greatest = refl

pub reserve-greater : reserve_in (keeping (integer (pos 1025))) ≡ Err BadReserve
reserve-greater = refl

pub reserve-negative : reserve_in (keeping (integer (negsuc 0))) ≡ Err BadReserve
reserve-negative = refl

pub reserve-text : reserve_in (keeping (string (codes "4"))) ≡ Err BadReserve
reserve-text = refl

-- a bad entry is told before it
pub entry-before_reserve : file_in (table (member (codes "key") (array (item (table no_members) no_items)) (member (codes "reserve") (integer (pos 1025)) no_members)))
    ≡ Err (BadKey 1)
entry-before_reserve = refl

-- ---- what may be a key at all

pub key-of_32 : is_key shown ≡ true
key-of_32 = refl

pub key-of_31 : is_key (drop 1 shown) ≡ false
key-of_31 = refl

pub key-of_128 : is_key (shown ++ shown ++ shown ++ shown) ≡ true
key-of_128 = refl

pub key-of_129 : is_key (shown ++ shown ++ shown ++ shown ++ codes "_") ≡ false
key-of_129 = refl

pub key-with_space : is_key (shown ++ codes " ") ≡ false
key-with_space = refl

-- ---- who is admitted

abbrev entries : List Entry
entries = record { process = Named (codes "b"); sha256 = codes "0" ++ drop 1 digest } ∷ record { process = Named (codes "a"); sha256 = digest } ∷ []

pub admitted-by_its_key : admits entries (codes "a") shown ≡ true
unfolding first_words schedule rounds compress hash_after digest_bytes sha256 encode_with
admitted-by_its_key = refl

-- the key of another name, and a digest that begins otherwise
pub admitted-other : admits entries (codes "b") shown ≡ false
unfolding first_words schedule rounds compress hash_after digest_bytes sha256 encode_with
admitted-other = refl

pub admitted-by_none : admits [] (codes "a") shown ≡ false
admitted-by_none = refl

-- ---- lines

pub line-bad_reserve : refusal_line BadReserve ≡ codes "keys bad-reserve\n"
line-bad_reserve = refl

pub line-missing : refusal_line Missing ≡ codes "keys missing\n"
line-missing = refl

pub line-bad_key : refusal_line (BadKey 2) ≡ codes "keys bad-key 2\n"
unfolding digits
line-bad_key = refl

pub line-too_many : refusal_line (TooMany 513) ≡ codes "keys too-many 513\n"
unfolding digits
line-too_many = refl

pub line-too_long : refusal_line (TooLong 1048577) ≡ codes "keys too-long 1048577\n"
unfolding digits
line-too_long = refl
