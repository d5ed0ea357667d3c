-- A loop that writes over each element, of which what it stands for is known.
use Rattle.std.proofs.Common.{◌≡◌, ℕ, ◌+◌, ◌<◌, List, ◌++◌, length, map, take, drop, set, get_or, ap, sym, ◌∙◌, arith}
use Rattle.std.proofs.lemmas.List.{get_or-map, length-map, map-set}
use Rattle.std.proofs.lemmas.List.Edits.{map_over_more}

pub seen_over_more : {X Y : Type 0} (see : X → Y) (f : Y → Y) (xs ys : List X) (i : ℕ) (old new : X) → i < length xs → i < length ys →
    map see ys ≡ map f (take i (map see xs)) ++ drop i (map see xs) → old ≡ get_or ys i old → see new ≡ f (see old) →
    map see (set ys i new) ≡ map f (take (i + 1) (map see xs)) ++ drop (i + 1) (map see xs)
seen_over_more see f xs ys i old new within inside so_far found made =
    let long : length (map see xs) ≡ length xs = length-map xs see in
    map-set see ys i new
    ∙ ap (set (map see ys) i) made
    ∙ map_over_more f (map see xs) (map see ys) i (see old) (omega (arith, long, within)) so_far
    (ap see found ∙ sym (get_or-map see ys i old (see old) inside))
