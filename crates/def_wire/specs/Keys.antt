-- Source: RFC 8259 (JSON) (objects, numbers); keys and bounds own; what a write is made of (priority, lease,
-- reversion, error policy): BOSS.
-- What stands under a key of a JSON object; none where it is missing, of another kind, or out of the bounds given here. Of
-- equal keys the last counts.
use Rattle.std.specs.Prelude.{ℕ, ◌-◌, ℤ, pos, int_le, unsigned_abs, nat_le, Bool, ◌&&◌, if◌then◌else◌, List, [], ◌∷◌, length, codes, bytes_eq, Option, Some, None, option_map}
use Rattle.std.specs.Option.{option_and_then, option_map_or}
use Rattle.serde_json.specs.Data.{Data, Items, no_items, item}
use Rattle.serde_json.specs.Find.{get, as_number, as_i64, as_str, as_array}
use Rattle.boss_model.specs.declared.command.Policy.{Policy}
use Rattle.boss_model.specs.declared.command.Policy.TheVariants.{Abort, Keep}
use Rattle.boss_model.specs.declared.command.Step.{Step}
use Rattle.boss_model.specs.Limits.{most_writes, last_number}
use Rattle.boss_model.specs.Names.{is_name}

-- what was found, taken on by what follows
infixl 10 ◌>>=◌
abbrev pub ◌>>=◌ : {A B : Type 0} → Option A → (A → Option B) → Option B
found >>= rest = option_and_then rest found

abbrev pub if_true : {A : Type 0} → (A → Bool) → A → Option A
if_true test x = if test x then Some x else None

-- ---- kinds

-- a whole number is one that fits 64 bits with a sign; a fraction, an exponent and -0 are none
abbrev pub whole : Data → Option ℤ
whole d = as_number d >>= as_i64

abbrev pub at_least : ℕ → ℤ → Option ℕ
at_least low z = if int_le (pos low) z then Some (unsigned_abs z) else None

abbrev pub within : ℕ → ℕ → ℤ → Option ℕ
within low high z = at_least low z >>= if_true (λ n. nat_le n high)

-- a whole number of at least this
abbrev pub number_from : ℕ → Data → Option ℕ
number_from low d = whole d >>= at_least low

-- a whole number from the one up to and with the other
abbrev pub number_within : ℕ → ℕ → Data → Option ℕ
number_within low high d = whole d >>= within low high

abbrev pub name : Data → Option (List ℕ)
name d = as_str d >>= if_true is_name

abbrev pub list_of : Items → List Data
list_of no_items = []
list_of (item d ds) = d ∷ list_of ds

abbrev pub list : Data → Option (List Data)
list d = option_map list_of (as_array d)

abbrev pub is_short : List Data → Bool
is_short items = nat_le 1 (length items) && nat_le (length items) most_writes

-- an array of at least one item, and of no more than a submit has writes
abbrev pub short_list : Data → Option (List Data)
short_list d = list d >>= if_true is_short

-- ---- keys

-- a key that has to be there
abbrev pub under : {A : Type 0} → List ℕ → (Data → Option A) → Data → Option A
under key read d = get key d >>= read

-- a key that may be missing, with what is read then
abbrev pub under_or : {A : Type 0} → List ℕ → (Data → Option A) → A → Data → Option A
under_or key read default d = option_map_or read (get key d) (Some default)

-- ---- numbered requests

-- the number that a process gives a request: at least 1 and below `last_number`
abbrev pub seq : Data → Option ℕ
seq d = number_within 1 (last_number - 1) d

-- ---- parts of a submit

abbrev pub policy_named : List ℕ → Option Policy
policy_named text = if bytes_eq text (codes "abort") then Some Abort else (if bytes_eq text (codes "keep") then Some Keep else None)

abbrev pub policy : Data → Option Policy
policy d = as_str d >>= policy_named

-- a write as it is spelled: its point is a text
pub record Write : Type 0 where
  pub point : List ℕ
  pub value : ℤ
  pub priority : ℤ
  pub lease : ℤ
  pub revert : List Step
