-- Source: own; hosts and addresses as in RFC 3986, section 3.2.2, but for what they may name.
-- The word of a journal that etcd keeps: `etcd:HOST:PORT,HOST:PORT/NAME`.
use Rattle.std.specs.Prelude.{ℕ, zero, suc, ◌+◌, ◌==◌, Bool, true, false, not, ◌&&◌, ◌||◌, nat_le, if◌then◌else◌, List, [], ◌∷◌, ◌++◌, length, ◌-◌, get_or, take, drop, codes, position, bytes_eq, Option, Some, None, option_map}
use Rattle.std.specs.Char.{is_ascii_alphanumeric, is_ascii_digit, is_ascii_hexdigit}
use Rattle.std.specs.List.{list_all}
use Rattle.std.specs.Option.{option_map_or}
use Rattle.std.specs.Str.Parse.{digits_value}
use Rattle.boss_places.specs.declared.place.Place.{Place}

-- what stands before and behind the first of these bytes
abbrev pub cut_at : ℕ → List ℕ → Option (List ℕ × List ℕ)
cut_at byte text = option_map (λ place. (take place text, drop (place + 1) text)) (position (λ other. other == byte) text)

-- ---- members

-- 1 to 5 decimal digits, of which the first is no zero
abbrev pub is_number : List ℕ → Bool
is_number text = nat_le 1 (length text) && nat_le (length text) 5 && not (get_or text 0 0 == 48) && list_all is_ascii_digit text

abbrev pub is_port : List ℕ → Bool
is_port text = is_number text && nat_le (digits_value 10 text) 65535

abbrev pub is_host_byte : ℕ → Bool
is_host_byte byte = is_ascii_alphanumeric byte || byte == 46 || byte == 95 || byte == 45

-- a name, or an address of version 4
abbrev pub is_host : List ℕ → Bool
is_host text = nat_le 1 (length text) && nat_le (length text) 253 && list_all is_host_byte text

abbrev pub is_address_byte : ℕ → Bool
is_address_byte byte = is_ascii_hexdigit byte || byte == 58 || byte == 46

-- an address of version 6
abbrev pub is_address : List ℕ → Bool
is_address text = nat_le 1 (length text) && nat_le (length text) 45 && list_all is_address_byte text

-- a colon and a port
abbrev pub is_behind : List ℕ → Bool
is_behind [] = false
is_behind (first ∷ port) = first == 58 && is_port port

abbrev pub are_bracketed : Option (List ℕ × List ℕ) → Bool
are_bracketed None = false
are_bracketed (Some parts) = is_address parts.0 && is_behind parts.1

-- what stands behind a bracket: an address of version 6, another bracket, a colon and a port
abbrev pub is_bracketed : List ℕ → Bool
is_bracketed text = are_bracketed (cut_at 93 text)

abbrev pub are_plain : Option (List ℕ × List ℕ) → Bool
are_plain None = false
are_plain (Some parts) = is_host parts.0 && is_port parts.1

-- a host, a colon and a port
abbrev pub is_plain : List ℕ → Bool
is_plain text = are_plain (cut_at 58 text)

abbrev pub is_member : List ℕ → Bool
is_member [] = false
is_member (first ∷ text) = if first == 91 then is_bracketed text else is_plain (first ∷ text)

abbrev pub first_by : List ℕ → Option (List ℕ × List ℕ) → List ℕ × Option (List ℕ)
first_by text None = (text, None)
first_by text (Some parts) = (parts.0, Some parts.1)

-- what stands before the first comma, and what behind it, if there is one
abbrev pub first_of : List ℕ → List ℕ × Option (List ℕ)
first_of text = first_by text (cut_at 44 text)

-- the members that a text names, with commas between them, where there are at most so many
abbrev pub members_from : ℕ → List ℕ → Option (List (List ℕ))
members_from zero text = None
members_from (suc more) text =
    if is_member (first_of text).0
    then option_map (λ members. (first_of text).0 ∷ members) (option_map_or (members_from more) (first_of text).1 (Some []))
    else None

-- ---- the journal's name

-- `.b` stands behind the name of its second file
abbrev pub is_second : List ℕ → Bool
is_second file = bytes_eq (codes ".b") (drop (length file - 2) file)

abbrev pub name_in : List ℕ → List ℕ
name_in file = if is_second file then take (length file - 2) file else file

-- 1 to 64 of these bytes, and `.b` not behind all others
abbrev pub is_name : List ℕ → Bool
is_name name = nat_le 1 (length name) && nat_le (length name) 64 && not (is_second name) && list_all is_host_byte name

-- ---- the word

-- it means a place in etcd, rightly or wrongly, and no file
abbrev pub is_place : List ℕ → Bool
is_place word = bytes_eq (codes "etcd:") (take 5 word)

-- the place that these members have under this name of a file
abbrev pub place_with : List ℕ → List ℕ → Option Place
place_with members file =
    if is_name (name_in file)
    then option_map (λ members. record { members = members; name = name_in file; is_second = is_second file }) (members_from 9 members)
    else None

abbrev pub place_in : Option (List ℕ × List ℕ) → Option Place
place_in None = None
place_in (Some parts) = place_with parts.0 parts.1

-- the place that a word means, or nothing where it means none
abbrev pub place_of : List ℕ → Option Place
place_of word = if is_place word then place_in (cut_at 47 (drop 5 word)) else None

-- with what the keys of a file begin
abbrev pub key_of : Place → List ℕ
key_of place = place.name ++ (if place.is_second then codes "/b" else codes "/a")
