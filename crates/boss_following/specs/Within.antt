-- Source: own.
-- What is known of a state of which some bytes have come.
use Rattle.std.specs.Prelude.{ℕ, nat_le, Bool, true, ◌&&◌, List, length}
use Rattle.boss_following.specs.declared.place.Place.{Place}
use Rattle.boss_following.specs.declared.place.Place.TheVariants.{Between, Passing, Taking}
use Rattle.boss_model.specs.Limits.{last_number}

-- a state that is to be taken has a number that may be, and not more bytes have come than it has
abbrev pub is_within : Place → List ℕ → Bool
is_within Between bytes = true
is_within (Passing left) bytes = true
is_within (Taking number size) bytes = nat_le number last_number && nat_le (length bytes) size
