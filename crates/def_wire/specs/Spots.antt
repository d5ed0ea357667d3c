-- Source: own.
-- How the key at fault in a line is written.
use Rattle.std.specs.Prelude.{ℕ, List, ◌++◌, codes, decimal}
use Rattle.boss_model.specs.declared.spot.Key.{Key}
use Rattle.boss_model.specs.declared.spot.Key.TheVariants as key
use Rattle.boss_model.specs.declared.spot.Spot.{Spot}
use Rattle.boss_model.specs.declared.spot.Spot.TheVariants as spot

-- a key, as it stands in a line
abbrev pub key_text : Key → List ℕ
key_text key.Op = codes "op"
key_text key.On = codes "on"
key_text key.At = codes "at"
key_text key.Process = codes "process"
key_text key.Writes = codes "writes"
key_text key.Policy = codes "policy"
key_text key.Seq = codes "seq"
key_text key.Txn = codes "txn"
key_text key.Length = codes "length"
key_text key.Points = codes "points"
key_text key.From = codes "from"
key_text key.Max = codes "max"
key_text key.Point = codes "point"
key_text key.Value = codes "value"
key_text key.Priority = codes "priority"
key_text key.Lease = codes "lease"
key_text key.Revert = codes "revert"

-- a place among items, from 0
abbrev pub at_place : List ℕ → ℕ → List ℕ
at_place text place = text ++ codes "[" ++ decimal place ++ codes "]"

abbrev pub write_text : ℕ → Key → List ℕ
write_text place key = at_place (codes "writes") place ++ codes "." ++ key_text key

abbrev pub spot_text : Spot → List ℕ
spot_text (spot.Line key) = key_text key
spot_text (spot.Named place) = at_place (codes "points") place
spot_text (spot.Write place key) = write_text place key
spot_text (spot.Step write place) = at_place (write_text write key.Revert) place
spot_text (spot.Half write place half) = at_place (at_place (write_text write key.Revert) place) half
