-- Canonical lines of a point, computed: without minimum times, with both, and with one.
use Rattle.std.proofs.Common.{◌≡◌, ℕ, ℤ, pos, List, [], ◌∷◌, codes, refl}
use Rattle.std.specs.Fmt.{digits}
use Rattle.boss_model.specs.declared.point.Kind.TheVariants.{Binary}
use Rattle.boss_model.specs.Catalogue.{Point}
use Rattle.def_catalogue.specs.Canonical.{point_line}

abbrev pump : ℤ → ℤ → Point
pump on off = record { name = codes "pump"; actuator = record { kind = Binary; default = pos 0; driver = 0 }; min_on = on; min_off = off }

abbrev line : ℤ → ℤ → List ℕ
line on off = point_line (codes "heat" ∷ []) (pump on off)

pub line-without_times : line (pos 0) (pos 0) ≡ codes "p pump heat binary 0 1 0\n"
unfolding digits
line-without_times = refl

pub line-with_both_times : line (pos 300000) (pos 86400000) ≡ codes "p pump heat binary 0 1 0 300000 86400000\n"
unfolding digits
line-with_both_times = refl

pub line-with_one_time : line (pos 0) (pos 1) ≡ codes "p pump heat binary 0 1 0 0 1\n"
unfolding digits
line-with_one_time = refl
