-- Source: own.
use Rattle.std.specs.Prelude.{ℕ, Bool, ◌==◌, ◌&&◌, ◌||◌, nat_le, List, length}
use Rattle.std.specs.List.{list_all}
use Rattle.boss_model.specs.Limits.{longest_name}

-- a letter `a` to `z`, a digit, a dot, an underscore or a dash
abbrev pub is_name_byte : ℕ → Bool
is_name_byte b = (nat_le 97 b && nat_le b 122) || (nat_le 48 b && nat_le b 57) || b == 46 || b == 95 || b == 45

-- at least one of these
abbrev pub is_name : List ℕ → Bool
is_name bytes = nat_le 1 (length bytes) && nat_le (length bytes) longest_name && list_all is_name_byte bytes
