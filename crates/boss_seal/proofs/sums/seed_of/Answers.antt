use Rattle.std.proofs.Common.{take, sym, ap, ◌∙◌}
use Rattle.std.proofs.lemmas.List.{take_all}
use Rattle.sha2.specs.Sha256.{sha256}
use Rattle.def_seal.specs.Seals.{seed_of}
use Rattle.boss_seal.proofs.sums.seed_of.Goals as goal

pub returns : goal.returns
unfolding seed_of
returns c first = c.first_eight.ensures ∙ ap (take 8) c.digest.ensures ∙ ap (λ l. take 8 (sha256 l)) (sym (take_all 64 c.args.rest.now c.requires))
