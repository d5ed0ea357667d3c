-- Source: own.
-- Points of one catalogue that another one has not.
use Rattle.std.specs.Prelude.{List, filter, is_none}
use Rattle.boss_model.specs.Catalogue.{Point, Catalogue, place_of}

-- the points that the new catalogue has no more, by their names; turned round, those that are added
abbrev pub removed : Catalogue → Catalogue → List Point
removed old new = filter (λ point. is_none (place_of new point.name)) old.points
