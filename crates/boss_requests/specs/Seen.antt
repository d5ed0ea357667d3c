-- Source: own over RFC 8259 (JSON).
-- The parts of a request that contracts speak of.
use Rattle.std.specs.Prelude.{ℕ}
use Rattle.serde_json.specs.Data.{Data}
use Rattle.boss_model.specs.declared.command.Setting.{Setting}
use Rattle.boss_model.specs.Catalogue.{Catalogue}
use Rattle.def_wire.specs.Requests.{Parsed, point_at, setting_at, text_at, write_at, ◌>>=◌}

-- the point of the text at this place, which has to be a text and to name a point
abbrev pub point_in : Catalogue → ℕ → Data → Parsed ℕ
point_in catalogue index d = do
  name ← text_at index d
  point_at catalogue index name

-- the write at this place, which has to be a write and of a point
abbrev pub setting_in : Catalogue → ℕ → Data → Parsed Setting
setting_in catalogue index d = do
  write ← write_at index d
  setting_at catalogue index write
