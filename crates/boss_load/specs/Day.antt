-- Source: own.
-- A day's load: the catalogue of a plant of 40 points, and a script in which six processes hold them one after another. Each
-- transaction is renewed six times, and then left to expire.
use Rattle.std.specs.Prelude.{ℕ, ◌+◌, ◌*◌, ◌%◌, List, ◌++◌, codes, decimal}
use Rattle.std.specs.List.{flat_map, range_with_len}

-- ---- the catalogue

unfoldable pub point_text : ℕ → List ℕ
point_text point = codes "\n[[point]]\nname = \"p" ++ decimal point
    ++ codes "\"\ndriver = \"field\"\nkind = \"analog\"\nmin = 0\nmax = 100000\ndefault = 20000\n"

unfoldable pub load_catalogue : List ℕ
load_catalogue = codes "drivers = [\"field\"]\n" ++ flat_map point_text (range_with_len 0 40)

-- ---- transaction number `i`, from 0

-- the session of the process that submits it
abbrev pub session_of : ℕ → ℕ
session_of i = 1 + i % 6

abbrev pub value_of : ℕ → ℕ → ℕ
value_of seed i = 30000 + (31 * seed + 7919 * i) % 60001

-- the moment of its line of this number, from 1 to 7, in milliseconds
abbrev pub moment_of : ℕ → ℕ → ℕ
moment_of i line = 24000 * (7 * i + line)

-- ---- the script's lines

unfoldable pub attach_text : ℕ → List ℕ
attach_text session = codes "{\"on\":" ++ decimal session ++ codes ",\"op\":\"attach\",\"process\":\"q" ++ decimal session ++ codes "\"}\n"

-- how a line begins that a session writes at a moment
unfoldable pub heading : ℕ → ℕ → List ℕ
heading i line = codes "{\"on\":" ++ decimal (session_of i) ++ codes ",\"at\":" ++ decimal (moment_of i line)

-- the point and the value of its one write
unfoldable pub target_text : ℕ → ℕ → List ℕ
target_text seed i = codes "{\"point\":\"p" ++ decimal (i % 40) ++ codes "\",\"value\":" ++ decimal (value_of seed i)

-- the write: a lease of a minute, and half a minute at 25,000 behind it
unfoldable pub write_text : ℕ → ℕ → List ℕ
write_text seed i = target_text seed i ++ codes ",\"priority\":" ++ decimal (8 + i % 6) ++ codes ",\"lease\":60000,\"revert\":[[25000,30000]]}"

unfoldable pub submit_text : ℕ → ℕ → List ℕ
submit_text seed i = heading i 1 ++ codes ",\"op\":\"submit\",\"writes\":[" ++ write_text seed i ++ codes "]}\n"

unfoldable pub renew_text : ℕ → ℕ → List ℕ
renew_text i line = heading i line ++ codes ",\"op\":\"renew\",\"txn\":" ++ decimal (i + 1) ++ codes ",\"length\":60000}\n"

unfoldable pub transaction_text : ℕ → ℕ → List ℕ
transaction_text seed i = submit_text seed i ++ flat_map (renew_text i) (range_with_len 2 6)

-- all processes attach
unfoldable pub attaches_text : List ℕ
attaches_text = flat_map attach_text (range_with_len 1 6)

-- so many transactions behind them
unfoldable pub load_script : ℕ → ℕ → List ℕ
load_script count seed = attaches_text ++ flat_map (transaction_text seed) (range_with_len 0 count)
