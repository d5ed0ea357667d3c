-- Source: TOML 1.0.0 (the form of the file); its keys own.
-- What the keys of a plan's tables spell. A key that is not named here is passed over.
use Rattle.std.specs.Prelude.{ℕ, ◌^◌, nat_eq, nat_le, ℤ, pos, negsuc, neg_ℤ, int_le, Bool, ◌&&◌, ◌||◌, if◌then◌else◌, List, length, codes, is_some, Option, Some, None}
use Rattle.std.specs.Option.{option_map_or}
use Rattle.std.specs.Str.{bytes_eq}
use Rattle.toml.specs.Data.{Data, get, as_integer, as_str}
use Rattle.boss_model.specs.declared.places.Protocol.{Protocol}
use Rattle.boss_model.specs.declared.places.Protocol.TheVariants.{Modbus, Bacnet}
use Rattle.boss_points.specs.Keys.{◌>>=◌, if_true, text_at}

abbrev pub has : List ℕ → Data → Bool
has key d = is_some (get key d)

-- ---- numbers

-- a whole number from 0 up to this
abbrev pub natural_up_to : ℕ → ℤ → Option ℕ
natural_up_to most (pos n) = if nat_le n most then Some n else None
natural_up_to most (negsuc _) = None

abbrev pub natural_in : ℕ → Data → Option ℕ
natural_in most d = as_integer d >>= natural_up_to most

abbrev pub at_least : ℕ → ℕ → Bool
at_least least n = nat_le least n

-- one that is not below this either
abbrev pub natural_between : ℕ → ℕ → Data → Option ℕ
natural_between least most d = natural_in most d >>= if_true (at_least least)

-- ---- a driver's table

abbrev pub is_host : List ℕ → Bool
is_host text = nat_le 1 (length text) && nat_le (length text) 255

abbrev pub host_of : Data → Option (List ℕ)
host_of driver = text_at (codes "host") driver >>= if_true is_host

abbrev pub protocol_named : List ℕ → Option Protocol
protocol_named name = if bytes_eq name (codes "modbus") then Some Modbus else (if bytes_eq name (codes "bacnet") then Some Bacnet else None)

abbrev pub protocol_in : Data → Option Protocol
protocol_in d = as_str d >>= protocol_named

-- where the key is missing, the host speaks Modbus
abbrev pub speaks_of : Data → Option Protocol
speaks_of driver = option_map_or protocol_in (get (codes "speaks") driver) (Some Modbus)

-- how long the host is waited for, in milliseconds, where the key is missing
abbrev pub usual_wait : Protocol → ℕ
usual_wait Modbus = 5000
usual_wait Bacnet = 2000

abbrev pub wait_of : Protocol → Data → Option ℕ
wait_of speaks driver = option_map_or (natural_between 50 5000) (get (codes "wait") driver) (Some (usual_wait speaks))

-- how often a request is sent at most; over Modbus once, and no key says so
abbrev pub tries_in : Protocol → Data → Option ℕ
tries_in Modbus d = None
tries_in Bacnet d = natural_between 1 4 d

abbrev pub usual_tries : Protocol → ℕ
usual_tries Modbus = 1
usual_tries Bacnet = 2

abbrev pub tries_of : Protocol → Data → Option ℕ
tries_of speaks driver = option_map_or (tries_in speaks) (get (codes "tries") driver) (Some (usual_tries speaks))

-- ---- how often something is done, of a driver or of a place

-- in milliseconds, and 0 for never
abbrev pub interval_of : ℤ → Option ℕ
interval_of (pos n) = if nat_eq n 0 || (nat_le 1000 n && nat_le n 86400000) then Some n else None
interval_of (negsuc _) = None

abbrev pub interval_in : Data → Option ℕ
interval_in d = as_integer d >>= interval_of

-- as usual where the key is missing
abbrev pub interval_at : List ℕ → ℕ → Data → Option ℕ
interval_at key usual d = option_map_or interval_in (get key d) (Some usual)

-- ---- the scale of a place

-- where the key is missing, it is 1
abbrev pub times_of : Data → Option ℕ
times_of place = option_map_or (natural_between 1 1000) (get (codes "times") place) (Some 1)

-- what one of a register stands for, in thousandths of the point's unit, or in states
abbrev pub is_per : ℤ → Bool
is_per per = int_le (pos 1) per && int_le per (pos (10 ^ 15))

abbrev pub per_in : Data → Option ℤ
per_in d = as_integer d >>= if_true is_per

-- where the key is missing, it is 1
abbrev pub per_of : Data → Option ℤ
per_of place = option_map_or per_in (get (codes "per") place) (Some (pos 1))

-- what a register has for 0
abbrev pub is_offset : ℤ → Bool
is_offset offset = int_le (neg_ℤ (pos (10 ^ 9))) offset && int_le offset (pos (10 ^ 9))

abbrev pub offset_in : Data → Option ℤ
offset_in d = as_integer d >>= if_true is_offset

abbrev pub offset_of : Data → Option ℤ
offset_of place = option_map_or offset_in (get (codes "offset") place) (Some (pos 0))

-- what that comes to in thousandths
abbrev pub is_shift : ℤ → Bool
is_shift shift = int_le (neg_ℤ (pos (10 ^ 18))) shift && int_le shift (pos (10 ^ 18))
