use Rattle.std.proofs.Common.{◌≡◌, ◌++◌, ap, ◌∙◌, codes, rules}
use Rattle.std.specs.List.{flat_map, range_with_len}
use Rattle.boss_load.specs.Day.{load_catalogue, point_text}
use Rattle.boss_load.proofs.catalogue.load_catalogue.Goals as goal

pub returns : goal.returns
unfolding load_catalogue
returns c =
    let all : c.loop-point.point ≡ 40 = search rules in
    c.from_vec.ensures ∙ c.loop-point.invariant ∙ ap (λ n. codes "drivers = [\"field\"]\n" ++ flat_map point_text (range_with_len 0 n)) all
