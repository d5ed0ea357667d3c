use Rattle.std.proofs.Common.{◌≡◌, ◌∙◌, ◌+◌, length, sym, ap, arith}
use Rattle.def_seal.proofs.Seals.{length-seed_of}
use Rattle.boss_model.specs.Seen.{seen}
use Rattle.boss_snapshot.specs.Writes.{state_text}
use Rattle.boss_snapshot.proofs.Writings.{long_word, front_long, held_long, filled_long, with_size, with_seed, with_sum}
use Rattle.boss_snapshot.proofs.writing.write_rest.Goals as goal

pub write_size-requires : goal.write_size-requires
write_size-requires g c told =
    let long = held_long c.args.digest.now c.args.generation c.args.events (seen c.args.kept.now) c.told-digest _ (c.in_ok-end.ensures.text told) in
    omega (arith, long)

pub write_seed-requires : goal.write_seed-requires
write_seed-requires g c told =
    let d = seen c.args.kept.now in
    let held = c.in_ok-end.ensures.text told in
    let long = held_long c.args.digest.now c.args.generation c.args.events d c.told-digest _ held in
    let end = c.in_ok-end.ensures.end told in
    let count : c.saturating_sub.result ≡ length (state_text d) + 8 = omega (arith, long, end, c.saturating_sub.ensures, c.text_place.ensures.is) in
    let one = with_size c.args.digest.now c.args.generation c.args.events d c.told-digest _ held _ c.saturating_sub.result count (c.in_ok-write_size.ensures.text told) in
    let filled = filled_long c.args.digest.now c.args.generation c.args.events d c.told-digest _ held _ _ (long_word 0) one in
    omega (arith, filled)

pub write_sum-requires : goal.write_sum-requires
write_sum-requires g c = record {
  low = omega (arith, c.in_ok-end.ensures.low, c.saturating_sub-2.ensures);
  there = λ told.
      let d = seen c.args.kept.now in
      let held = c.in_ok-end.ensures.text told in
      let long = held_long c.args.digest.now c.args.generation c.args.events d c.told-digest _ held in
      let end = c.in_ok-end.ensures.end told in
      let count : c.saturating_sub.result ≡ length (state_text d) + 8 = omega (arith, long, end, c.saturating_sub.ensures, c.text_place.ensures.is) in
      let at : c.saturating_sub-2.result ≡ 73 + length (state_text d) = omega (arith, long, end, c.saturating_sub-2.ensures) in
      let one = with_size c.args.digest.now c.args.generation c.args.events d c.told-digest _ held _ c.saturating_sub.result count (c.in_ok-write_size.ensures.text told) in
      let two = with_seed c.args.digest.now c.args.generation c.args.events d c.told-digest _ held _ _ _ one (c.in_ok-seed.ensures.seed told) (c.in_ok-seed.ensures.text told) in
      let eight = ap length (c.in_ok-seed.ensures.seed told) ∙ length-seed_of _ in
      let filled = filled_long c.args.digest.now c.args.generation c.args.events d c.told-digest _ held _ _ (sym (ap length two.0) ∙ eight) two.1 in
      (omega (arith, at), omega (arith, at, filled));
}

pub returns-clause-text : goal.returns-clause-text
returns-clause-text g c told =
    let d = seen c.args.kept.now in
    let held = c.in_ok-end.ensures.text told in
    let long = held_long c.args.digest.now c.args.generation c.args.events d c.told-digest _ held in
    let end = c.in_ok-end.ensures.end told in
    let count : c.saturating_sub.result ≡ length (state_text d) + 8 = omega (arith, long, end, c.saturating_sub.ensures, c.text_place.ensures.is) in
    let at : c.saturating_sub-2.result ≡ 73 + length (state_text d) = omega (arith, long, end, c.saturating_sub-2.ensures) in
    let one = with_size c.args.digest.now c.args.generation c.args.events d c.told-digest _ held _ c.saturating_sub.result count (c.in_ok-write_size.ensures.text told) in
    let two = with_seed c.args.digest.now c.args.generation c.args.events d c.told-digest _ held _ _ _ one (c.in_ok-seed.ensures.seed told) (c.in_ok-seed.ensures.text told) in
    with_sum c.args.digest.now c.args.generation c.args.events d c.told-digest _ held _ _ _ c.saturating_sub-2.result two.1 two.0 at (c.in_ok-write_sum.ensures.text told)

pub returns-clause-place : goal.returns-clause-place
returns-clause-place g c told =
    let long = held_long c.args.digest.now c.args.generation c.args.events (seen c.args.kept.now) c.told-digest _ (c.in_ok-end.ensures.text told) in
    let end = c.in_ok-end.ensures.end told in
    let front = front_long c.args.digest.now c.args.generation c.args.events (seen c.args.kept.now) c.told-digest in
    omega (arith, long, end, front)
