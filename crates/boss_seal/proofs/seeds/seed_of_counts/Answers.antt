use Rattle.std.proofs.Common.{◌≤◌, ◌∷◌, ◌++◌, length, take, sym, ap, ◌∙◌, arith, length-append}
use Rattle.std.specs.Int.{w64, to_be_bytes}
use Rattle.std.proofs.lemmas.List.{take_all}
use Rattle.sha2.specs.Sha256.{sha256}
use Rattle.def_seal.specs.Seals.{seed_of}
use Rattle.boss_seal.proofs.Parts.{long_number, three_numbers, behind_front}
use Rattle.boss_seal.proofs.seeds.seed_of_counts.Goals as goal

pub returns : goal.returns
unfolding seed_of
returns c first =
    let g = to_be_bytes w64 c.args.generation in
    let e = to_be_bytes w64 c.args.events in
    let n = to_be_bytes w64 c.args.size in
    let a = c.to_be_bytes.result in
    let b = c.to_be_bytes-2.result in
    let d = c.to_be_bytes-3.result in
    let start = c.args.mark.now ++ c.args.version ∷ c.args.digest.now in
    let front = c.args.mark.now ++ c.args.version ∷ (c.args.digest.now ++ (g ++ (e ++ n))) in
    let short : length front ≤ 64 =
    omega (
      arith,
      c.told-mark,
      c.told-digest,
      length-append c.args.mark.now (c.args.version ∷ (c.args.digest.now ++ (g ++ (e ++ n)))),
      length-append c.args.digest.now (g ++ (e ++ n)),
      length-append g (e ++ n),
      length-append e n,
      long_number c.args.generation,
      long_number c.args.events,
      long_number c.args.size,
    ) in
    c.first_eight.ensures
    ∙ ap (take 8)
    (c.finalize.ensures (((start ++ a) ++ b) ++ d) (c.update-3.ensures ((start ++ a) ++ b) (c.update-2.ensures (start ++ a) (c.update.ensures start c.front_hasher-hasher.ensures))))
    ∙ ap (λ l. take 8 (sha256 l))
    (three_numbers start a b d g e n c.to_be_bytes.ensures c.to_be_bytes-2.ensures c.to_be_bytes-3.ensures ∙ behind_front c.args.mark.now c.args.digest.now g e n c.args.version ∙ sym (take_all 64 front short))
