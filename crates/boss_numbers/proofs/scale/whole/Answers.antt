use Rattle.std.proofs.Common.{rules, ◌≡◌, w64, FitsSigned, ◌∙◌}
use Rattle.std.specs.Int.{w128}
use Rattle.std.proofs.lemmas.Int.{to_z-of_z}
use Rattle.boss_numbers.proofs.Held.{nearest-computed}
use Rattle.boss_numbers.proofs.scale.whole.Goals as goal

pub returns-in-Nearest : goal.returns-in-Nearest
returns-in-Nearest c =
    let n-fits : FitsSigned w64 c.args.n = c.ranges.n in
    let per-fits : FitsSigned w64 c.args.per = c.ranges.per in
    let n : c.from-n.result ≡ c.args.n = search (rules, to_z-of_z) in
    let per : c.from-per.result ≡ c.args.per = search (rules, to_z-of_z) in
    let quotient = c.div_euclid-in-Nearest.ensures in
    to_z-of_z w128 c.div_euclid-in-Nearest.result (record { sfits = c.div_euclid-in-Nearest.type_inv })
    ∙ rw (c.in-Nearest.is) (quotient ∙ rw (n, per) (nearest-computed c.args.n c.args.per n-fits per-fits))
