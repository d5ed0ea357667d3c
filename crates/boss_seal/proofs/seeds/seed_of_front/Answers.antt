use Rattle.std.proofs.Common.{◌≤◌, ◌∷◌, ◌++◌, length, take, sym, ap, ◌∙◌, arith, length-append}
use Rattle.std.proofs.lemmas.List.{take_all}
use Rattle.sha2.specs.Sha256.{sha256}
use Rattle.def_seal.specs.Seals.{seed_of}
use Rattle.boss_seal.proofs.seeds.seed_of_front.Goals as goal

pub returns : goal.returns
unfolding seed_of
returns c first =
    let front = c.args.mark.now ++ c.args.version ∷ c.args.digest.now in
    let short : length front ≤ 64 = omega (arith, c.told-mark, c.told-digest, length-append c.args.mark.now (c.args.version ∷ c.args.digest.now)) in
    c.first_eight.ensures ∙ ap (take 8) (c.finalize.ensures front c.front_hasher.ensures) ∙ ap (λ l. take 8 (sha256 l)) (sym (take_all 64 front short))
