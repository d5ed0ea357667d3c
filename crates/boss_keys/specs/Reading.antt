-- Source: TOML 1.0.0 (the form of the file); its keys own; the tests and their order own.
-- What a file spells, or why it is refused: six tests in their order, and in the fifth the least place.
use Rattle.std.specs.Prelude.{◌≡◌, ℕ, ◌+◌, nat_le, nat_lt, ℤ, pos, negsuc, Bool, if◌then◌else◌, List, [], ◌∷◌, ◌++◌, length, codes, Option, Some, None, Result, Ok, Err}
use Rattle.std.specs.Option.{option_and_then, option_map_or, ok_or}
use Rattle.toml.specs.Data.{Data, as_integer, get}
use Rattle.boss_model.specs.Limits.{longest_file}
use Rattle.boss_points.specs.Keys.{array_at}
use Rattle.boss_points.specs.Reading.{table_of}
use Rattle.boss_keys.specs.declared.entry.Entry.{Entry}
use Rattle.boss_keys.specs.declared.file.KeyFile.{KeyFile}
use Rattle.boss_keys.specs.declared.refusal.KeysRefusal.{KeysRefusal}
use Rattle.boss_keys.specs.declared.refusal.KeysRefusal.TheVariants.{TooLong, NotToml, Missing, TooMany, BadKey, BadReserve, NoMemory}
use Rattle.boss_keys.specs.Limits.{most_entries, most_reserve}
use Rattle.boss_keys.specs.Tables.{entry_of}

-- one test after another, until one refuses
infixl 10 ◌>>=◌
abbrev pub ◌>>=◌ : {A B : Type 0} → Result A KeysRefusal → (A → Result B KeysRefusal) → Result B KeysRefusal
(Ok x) >>= rest = rest x
(Err refusal) >>= rest = Err refusal

abbrev pub refuse_if : Bool → KeysRefusal → Result (Unit {0}) KeysRefusal
refuse_if test refusal = if test then Err refusal else Ok tt

abbrev pub at_most : ℕ → List Data → Result (Unit {0}) KeysRefusal
at_most most tables = refuse_if (nat_lt most (length tables)) (TooMany (length tables))

-- the entries of the tables, of which the first has this place, after the earlier ones; or the first that is refused
abbrev pub entries_from : ℕ → List Entry → List Data → Result (List Entry) KeysRefusal
entries_from place earlier [] = Ok earlier
entries_from place earlier (d ∷ ds) = option_map_or (λ entry. entries_from (place + 1) (earlier ++ entry ∷ []) ds) (entry_of d) (Err (BadKey place))

-- tests 3 to 5, and the entries of a table; their places count from 1
abbrev pub entries_in : Data → Result (List Entry) KeysRefusal
entries_in file = do
  tables ← ok_or (array_at (codes "key") file) Missing  -- 3
  _ ← at_most most_entries tables  -- 4
  entries_from 1 [] tables  -- 5

-- a number of workers: from 0 to 1,024
abbrev pub reserve_of : ℤ → Option ℕ
reserve_of (pos n) = if nat_le n most_reserve then Some n else None
reserve_of (negsuc _) = None

abbrev pub reserve_spelled : Data → Option ℕ
reserve_spelled value = option_and_then reserve_of (as_integer value)

-- how many workers are kept for whoever shows a key: none where it is left out
abbrev pub reserve_in : Data → Result ℕ KeysRefusal
reserve_in file = option_map_or (λ value. ok_or (reserve_spelled value) BadReserve) (get (codes "reserve") file) (Ok 0)

-- tests 3 to 6, and what a table spells
abbrev pub file_in : Data → Result KeyFile KeysRefusal
file_in file = do
  entries ← entries_in file
  reserve ← reserve_in file  -- 6
  Ok (record { keys = entries; reserve = reserve })

-- all six tests, and what the bytes spell
unfoldable pub keys_of : List ℕ → Result KeyFile KeysRefusal
keys_of bytes = do
  _ ← refuse_if (nat_lt longest_file (length bytes)) (TooLong (length bytes))  -- 1
  file ← ok_or (table_of bytes) NotToml  -- 2
  file_in file

-- the refusal is the one that reading gives. Out of memory says nothing.
abbrev pub Refused : {A : Type 0} → KeysRefusal → Result A KeysRefusal → Type 0
Refused NoMemory read = Unit {0}
Refused refusal read = read ≡ Err refusal

-- what was answered, seen by view, is what reading gives
abbrev pub Gives : {A B : Type 0} → (A → B) → Result A KeysRefusal → Result B KeysRefusal → Type 0
Gives view (Ok x) read = read ≡ Ok (view x)
Gives view (Err refusal) read = Refused refusal read
