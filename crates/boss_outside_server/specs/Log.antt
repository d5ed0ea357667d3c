-- Source: own.
use Rattle.std.specs.Prelude.{List, [], ◌∷◌}
use Rattle.boss_outside_server.specs.declared.log.Link.{Link}
use Rattle.boss_outside_server.specs.declared.log.Link.TheVariants.{End, More'}

-- the entries of a log, from the newest to the oldest
abbrev pub newest_first : {T : Type 0} → Link T → List T
newest_first End = []
newest_first (More' entry p older) = entry ∷ newest_first older
