-- Source: own.
-- What the words and the catalogue's file come to.
use Rattle.std.specs.Prelude.{ℕ, Bool, true, false, not, nat_lt, if◌then◌else◌, List, codes, Option, Some, None, Result, Ok, Err}
use Rattle.std.specs.List.{position_from}
use Rattle.std.specs.Option.{option_and_then, option_map_or}
use Rattle.std.specs.Str.{bytes_eq}
use Rattle.boss_model.specs.Catalogue.{Catalogue, Point}
use Rattle.boss_points.specs.declared.CatalogueRefusal.{CatalogueRefusal}
use Rattle.boss_points.specs.declared.CatalogueRefusal.TheVariants.{UnknownDriver}
use Rattle.boss_points.specs.Reading.{catalogue_of, ◌>>=◌}
use Rattle.boss_words.specs.declared.Job.{Job}
use Rattle.boss_words.specs.declared.Job.TheVariants.{Script, Serve, Check, Adopt, Shift, Feed, Standby, Load, Help, Version}
use Rattle.boss_words.specs.Words.{job_of}

-- the catalogue's file of a script whose journal is in memory alone
abbrev pub catalogue_word : Job → Option (List ℕ)
catalogue_word (Script catalogue journal) = if bytes_eq journal (codes "-") then Some catalogue else None
catalogue_word (Serve catalogue journal address workers connections rules plan keys) = None
catalogue_word (Check catalogue journal) = None
catalogue_word (Adopt old new journal) = None
catalogue_word (Shift catalogue journal by) = None
catalogue_word (Feed catalogue journal from) = None
catalogue_word (Standby catalogue journal) = None
catalogue_word (Load count seed) = None
catalogue_word Help = None
catalogue_word Version = None

abbrev pub script_of_words : List (List ℕ) → Option (List ℕ)
script_of_words words = option_and_then catalogue_word (job_of words)

-- what is served: a job of the table of words
abbrev pub is_served : Option Job → Bool
is_served (Some (Script catalogue journal)) = true
is_served (Some (Check catalogue journal)) = true
is_served (Some (Adopt old new journal)) = true
is_served (Some (Shift catalogue journal by)) = true
is_served (Some (Serve catalogue journal address workers connections rules plan keys)) = true
is_served (Some (Feed catalogue journal from)) = true
is_served (Some (Standby catalogue journal)) = true
is_served (Some (Load count seed)) = true
is_served (Some Help) = true
is_served (Some Version) = true
is_served None = false

-- the point's driver has none of these devices
abbrev pub lacks_device : ℕ → Point → Bool
lacks_device count point = not (nat_lt point.actuator.driver count)

-- the catalogue where each point's driver has a device; else it is refused at the least point whose driver has none
abbrev pub with_devices : ℕ → Catalogue → Result Catalogue CatalogueRefusal
with_devices count catalogue = option_map_or (λ place. Err (UnknownDriver place)) (position_from (lacks_device count) 0 catalogue.points) (Ok catalogue)

-- the catalogue of a file, for so many devices
abbrev pub usable : ℕ → List ℕ → Result Catalogue CatalogueRefusal
usable count bytes = catalogue_of bytes >>= with_devices count
