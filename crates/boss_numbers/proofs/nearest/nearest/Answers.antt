use Rattle.std.proofs.Common.{◌≡◌, ◌*◌, ◌^◌, sym, subst, ◌∙◌, ap}
use Rattle.boss_numbers.specs.Nearest.{IsNearest}
use Rattle.boss_numbers.proofs.Rounding.{rounded-nearest}
use Rattle.boss_numbers.proofs.nearest.nearest.Goals as goal

pub returns-clause-nearest : goal.returns-clause-nearest
returns-clause-nearest c =
    let low = c.lower-scaled.result in
    let whole : low.n * 2 ^ c.raise.result.e ≡ c.args.n * 2 ^ 149 = ap (λ n. n * 2 ^ c.raise.result.e) c.lower-scaled.ensures.same ∙ c.raise.ensures.same in
    subst (λ bits. IsNearest (c.args.n * 2 ^ 149) c.args.d bits) (sym c.round.ensures)
    (rounded-nearest (c.args.n * 2 ^ 149) c.args.d low.n low.d c.raise.result.e low.e c.requires c.lower-scaled.ensures.parts whole
    c.lower-scaled.ensures.scale c.lower-scaled.ensures.least c.lower-scaled.ensures.most)
