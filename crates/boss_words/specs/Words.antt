-- Source: own.
-- The table of words. No word is an option, but for `--help` and `--version`, and the number of words is exactly the row's.
use Rattle.std.specs.Prelude.{ℕ, ◌^◌, Bool, nat_le, nat_lt, ◌&&◌, if◌then◌else◌, List, [], ◌∷◌, length, map, codes, Option, Some, None, String, string_bytes}
use Rattle.std.specs.Option.{option_and_then}
use Rattle.std.specs.Char.{is_ascii_digit}
use Rattle.std.specs.List.{list_all}
use Rattle.std.specs.Str.{bytes_eq}
use Rattle.std.specs.Str.Parse.{digits_value}
use Rattle.std.specs.declared.alloc.Global.{Global}
use Rattle.boss_model.specs.Limits.{most_workers}
use Rattle.boss_words.specs.declared.job.Job.{Job}
use Rattle.boss_words.specs.declared.job.Job.TheVariants.{Script, Serve, Check, Adopt, Shift, Feed, Standby, Load, Help, Version}

abbrev pub texts : List (String Global) → List (List ℕ)
texts words = map (λ word. string_bytes word) words

infixl 10 ◌>>=◌
abbrev pub ◌>>=◌ : {A B : Type 0} → Option A → (A → Option B) → Option B
found >>= rest = option_and_then rest found

-- a name of a file or an address: any text but the empty one
abbrev pub word_of : List ℕ → Option (List ℕ)
word_of [] = None
word_of (byte ∷ bytes) = Some (byte ∷ bytes)

-- 1 to 10 decimal digits, without a sign
abbrev pub is_number : List ℕ → Bool
is_number text = nat_le 1 (length text) && nat_le (length text) 10 && list_all is_ascii_digit text

-- the number that they spell, within these bounds
abbrev pub number_of : ℕ → ℕ → List ℕ → Option ℕ
number_of least most text =
    if is_number text && nat_le least (digits_value 10 text) && nat_le (digits_value 10 text) most then Some (digits_value 10 text) else None

-- 1 to 19 decimal digits, without a sign
abbrev pub is_event_number : List ℕ → Bool
is_event_number text = nat_le 1 (length text) && nat_le (length text) 19 && list_all is_ascii_digit text

-- the number of an event that they spell, below 2^62
abbrev pub event_number_of : List ℕ → Option ℕ
event_number_of text = if is_event_number text && nat_lt (digits_value 10 text) (2 ^ 62) then Some (digits_value 10 text) else None

-- script CATALOGUE JOURNAL
abbrev pub script_of : List (List ℕ) → Option Job
script_of (catalogue ∷ journal ∷ []) = do
  catalogue ← word_of catalogue
  journal ← word_of journal
  Some (Script catalogue journal)
script_of _ = None

-- a file that may be left out: its name, or `-` for none
abbrev pub file_of : List ℕ → Option (Option (List ℕ))
file_of text = if bytes_eq text (codes "-") then Some None else option_and_then (λ word. Some (Some word)) (word_of text)

-- RULES PLAN KEYS, of which the last, the last two or all may be left out
abbrev pub optional_of : List (List ℕ) → Option (Option (List ℕ) × Option (List ℕ) × Option (List ℕ))
optional_of [] = Some (None, None, None)
optional_of (rules ∷ []) = do
  rules ← file_of rules
  Some (rules, None, None)
optional_of (rules ∷ plan ∷ []) = do
  rules ← file_of rules
  plan ← file_of plan
  Some (rules, plan, None)
optional_of (rules ∷ plan ∷ keys ∷ []) = do
  rules ← file_of rules
  plan ← file_of plan
  keys ← file_of keys
  Some (rules, plan, keys)
optional_of _ = None

-- serve CATALOGUE JOURNAL ADDRESS WORKERS CONNECTIONS, and then RULES PLAN KEYS
abbrev pub serve_of : List (List ℕ) → Option Job
serve_of (catalogue ∷ journal ∷ address ∷ workers ∷ connections ∷ optional) = do
  workers ← number_of 1 most_workers workers
  connections ← number_of 1 4294967295 connections
  catalogue ← word_of catalogue
  journal ← word_of journal
  address ← word_of address
  files ← optional_of optional
  Some (Serve catalogue journal address workers connections files.0 files.1 files.2)
serve_of _ = None

-- check CATALOGUE JOURNAL
abbrev pub check_of : List (List ℕ) → Option Job
check_of (catalogue ∷ journal ∷ []) = do
  catalogue ← word_of catalogue
  journal ← word_of journal
  Some (Check catalogue journal)
check_of _ = None

-- adopt OLD NEW JOURNAL
abbrev pub adopt_of : List (List ℕ) → Option Job
adopt_of (old ∷ new ∷ journal ∷ []) = do
  old ← word_of old
  new ← word_of new
  journal ← word_of journal
  Some (Adopt old new journal)
adopt_of _ = None

-- 1 to 19 decimal digits that spell a length of time in milliseconds: 1 to 2^62 - 1
abbrev pub shift_by : List ℕ → Option ℕ
shift_by text = option_and_then (λ by. if nat_le 1 by then Some by else None) (event_number_of text)

-- shift CATALOGUE JOURNAL BY
abbrev pub shift_of : List (List ℕ) → Option Job
shift_of (catalogue ∷ journal ∷ by ∷ []) = do
  by ← shift_by by
  catalogue ← word_of catalogue
  journal ← word_of journal
  Some (Shift catalogue journal by)
shift_of _ = None

-- feed CATALOGUE JOURNAL FROM
abbrev pub feed_of : List (List ℕ) → Option Job
feed_of (catalogue ∷ journal ∷ from ∷ []) = do
  from ← event_number_of from
  catalogue ← word_of catalogue
  journal ← word_of journal
  Some (Feed catalogue journal from)
feed_of _ = None

-- standby CATALOGUE JOURNAL
abbrev pub standby_of : List (List ℕ) → Option Job
standby_of (catalogue ∷ journal ∷ []) = do
  catalogue ← word_of catalogue
  journal ← word_of journal
  Some (Standby catalogue journal)
standby_of _ = None

-- load COUNT SEED
abbrev pub load_of : List (List ℕ) → Option Job
load_of (count ∷ seed ∷ []) = do
  count ← number_of 1 10000 count
  seed ← number_of 0 4294967295 seed
  Some (Load count seed)
load_of _ = None

-- a job that has no words but its own
abbrev pub alone_of : Job → List (List ℕ) → Option Job
alone_of job [] = Some job
alone_of job _ = None

-- what the words ask for, or nothing where they are in no row
abbrev pub job_of : List (List ℕ) → Option Job
job_of [] = None
job_of (job ∷ arguments) =
    if bytes_eq job (codes "script") then script_of arguments else
    (if bytes_eq job (codes "serve") then serve_of arguments else
    (if bytes_eq job (codes "check") then check_of arguments else
    (if bytes_eq job (codes "adopt") then adopt_of arguments else
    (if bytes_eq job (codes "shift") then shift_of arguments else
    (if bytes_eq job (codes "feed") then feed_of arguments else
    (if bytes_eq job (codes "standby") then standby_of arguments else
    (if bytes_eq job (codes "load") then load_of arguments else
    (if bytes_eq job (codes "help") then alone_of Help arguments else
    (if bytes_eq job (codes "--help") then alone_of Help arguments else
    (if bytes_eq job (codes "version") then alone_of Version arguments else
    (if bytes_eq job (codes "--version") then alone_of Version arguments else None)))))))))))
