-- The slots of open parts, as a loop gathers them.
use Rattle.std.proofs.Common.{◌≡◌, ℕ, ◌+◌, ◌<◌, ◌++◌, List, [], ◌∷◌, length, map, take, get_or, ap, sym, ◌∙◌}
use Rattle.std.specs.List.{filter, filter_map}
use Rattle.std.proofs.lemmas.List.{take_more, map-append}
use Rattle.std.proofs.lemmas.List.Elements.{filter-append, filter_map-append}
use Rattle.boss_model.specs.Records.{Part}
use Rattle.boss_model.specs.Renew.{part_on}
use Rattle.law_records.specs.Slots.{is_open, slot_of_part, open_slots}
use Rattle.boss_persistent.specs.Meant.{place_of, open_places}

open-append : (parts others : List Part) → open_places (parts ++ others) ≡ open_places parts ++ open_places others
open-append parts others =
    ap (λ kept. map place_of (map slot_of_part kept)) (filter-append is_open parts others)
    ∙ ap (map place_of) (map-append slot_of_part (filter is_open parts) (filter is_open others))
    ∙ map-append place_of (open_slots parts) (open_slots others)

-- of the points so far, and of one more
pub named-more : (parts : List Part) (points : List ℕ) (i point : ℕ) → i < length points → point ≡ get_or points i point →
    open_places (filter_map (part_on parts) (take (i + 1) points))
    ≡ open_places (filter_map (part_on parts) (take i points)) ++ open_places (filter_map (part_on parts) (point ∷ []))
named-more parts points i point within is =
    ap (λ some. open_places (filter_map (part_on parts) some)) (take_more points i point within ∙ ap (λ next. take i points ++ next ∷ []) (sym is))
    ∙ ap open_places (filter_map-append (part_on parts) (take i points) (point ∷ []))
    ∙ open-append (filter_map (part_on parts) (take i points)) (filter_map (part_on parts) (point ∷ []))
