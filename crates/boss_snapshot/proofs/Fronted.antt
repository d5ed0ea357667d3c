-- What the front of a kept state tells, whatever stands behind it.
use Rattle.std.proofs.Common.{◌≡◌, ⊎_elim, ◌==◌, ℕ, ◌+◌, ◌-◌, ◌^◌, ◌<◌, ◌≤◌, nat_lt, Bool, true, false, cond, List, [], ◌∷◌, ◌++◌, length, take, drop, refl, sym, ap, subst, ◌∙◌, append_assoc, append-nil, length-append, arith}
use Rattle.std.specs.Int.{w64, from_be_bytes}
use Rattle.std.proofs.lemmas.Bool.{cases_lt}
use Rattle.std.proofs.lemmas.Bool.Decides.{nat_tests}
use Rattle.std.proofs.lemmas.List.{take_at, drop_at, drop-drop}
use Rattle.std.proofs.lemmas.Nat.{from_be_bytes-to_be_bytes_8}
use Rattle.def_bytes.specs.States.{state}
use Rattle.def_bytes.proofs.OfStates.{state_spelled}
use Rattle.def_bytes.specs.Fields.{Field, number_text}
use Rattle.def_log.specs.Kinds.{state_mark, generation_of}
use Rattle.def_log.specs.Versions.{IsKnown}
use Rattle.def_seal.specs.Seals.{has_sums, seed_of, sum_of, sealed}
use Rattle.def_seal.proofs.Seals.{length-seed_of, length-sum_of, seed_of_front, seed_of_rest}
use Rattle.boss_model.specs.Limits.{last_number}
use Rattle.boss_model.specs.State.{Persistent}
use Rattle.def_disk_pair.specs.Fronts.{heading, kept_size, kept_bytes, kept_head, kept_state, kept_seed, kept_front}
use Rattle.boss_snapshot.specs.Fronts.{version_of, digest_of, events_of, size_of, text_place, text_of, HasCounts}
use Rattle.boss_snapshot.specs.Refusals.{IsKeptState}
use Rattle.boss_snapshot.specs.Spells.{SpellsSealed}
use Rattle.boss_snapshot.proofs.Writings.{long_word}

word_back : (n : ℕ) (more : List ℕ) → n < 2 ^ 64 → from_be_bytes w64 (take 8 (number_text w64 n ++ more)) ≡ n
unfolding number_text
word_back n more small = ap (from_be_bytes w64) (take_at (number_text w64 n) more 8 refl) ∙ from_be_bytes-to_be_bytes_8 n small

below : (m : ℕ) → nat_lt (m + 8) (2 ^ 64) ≡ true → m + 8 < 2 ^ 64
below m is = grind (arith, nat_tests)

short_of : (version : ℕ) (d : Persistent) → nat_lt ((state version).most + 8) (2 ^ 64) ≡ true → (state version).fits d ≡ true →
    length ((state version).text d) + 8 < 2 ^ 64
short_of version d most fits =
    let short : length ((state version).text d) ≤ (state version).most = (state_spelled version).short.short d fits in
    let least : (state version).most + 8 < 2 ^ 64 = below (state version).most most in
    omega (arith, short, least)

-- from version 2 on a state has one spelling
pub later : (version : ℕ) → 2 ≤ version → state version ≡ state 2
later version many = let no : (version == 1) ≡ false = grind (arith, nat_tests, many) in rw no refl

short_text : (version : ℕ) (d : Persistent) → IsKnown version → (state version).fits d ≡ true → length ((state version).text d) + 8 < 2 ^ 64
short_text version d known fits =
    ⊎_elim
    (λ below.
    let one : version ≡ 1 = omega (arith, below, known.0) in
    subst (λ v. (state v).fits d ≡ true → length ((state v).text d) + 8 < 2 ^ 64) (sym one) (short_of 1 d refl) fits)
    (λ up. subst (λ (s : Field Persistent). s.fits d ≡ true → length (s.text d) + 8 < 2 ^ 64) (sym (later version up)) (short_of 2 d refl) fits)
    (cases_lt version 2)

size_short : (on : Bool) (n : ℕ) → n + 8 < 2 ^ 64 → cond on (n + 8) n < 2 ^ 64
size_short true n few = few
size_short false n few = omega (arith, few)

regroup : (g e n body z : List ℕ) → (g ++ (e ++ (n ++ body))) ++ z ≡ g ++ (e ++ (n ++ (body ++ z)))
regroup g e n body z =
    append_assoc g (e ++ (n ++ body)) z ∙ ap (λ t. g ++ t) (append_assoc e (n ++ body) z ∙ ap (λ t. e ++ t) (append_assoc n body z))

three_first : (g e n z : List ℕ) → g ++ (e ++ (n ++ z)) ≡ (g ++ (e ++ n)) ++ z
three_first g e n z = ap (λ t. g ++ t) (sym (append_assoc e n z)) ∙ sym (append_assoc g (e ++ n) z)

-- the text behind a seed, with its sum
body_back : (on : Bool) (l seed text sum rest : List ℕ) → length seed ≡ 8 → length sum ≡ 8 → drop 65 l ≡ cond on (seed ++ (text ++ sum)) text ++ rest →
    take (cond on (length text + 8) (length text)) (drop (cond on 73 65) l) ≡ cond on (text ++ sum) text
body_back true l seed text sum rest eight eight_too is =
    let size : length (text ++ sum) ≡ length text + 8 = length-append text sum ∙ ap (λ n. length text + n) eight_too in
    ap (take (length text + 8))
    (sym (drop-drop 8 65 l) ∙ ap (drop 8) (is ∙ append_assoc seed (text ++ sum) rest) ∙ drop_at seed ((text ++ sum) ++ rest) 8 eight)
    ∙ take_at (text ++ sum) rest (length text + 8) size
body_back false l seed text sum rest eight eight_too is = ap (take (length text)) is ∙ take_at text rest (length text) refl

body_long : (on : Bool) (seed text sum : List ℕ) → length seed ≡ 8 → length sum ≡ 8 →
    65 + length (cond on (seed ++ (text ++ sum)) text) ≡ cond on 73 65 + cond on (length text + 8) (length text)
body_long true seed text sum eight eight_too = omega (arith, eight, eight_too, length-append seed (text ++ sum), length-append text sum)
body_long false seed text sum eight eight_too = refl

module _ (digest bytes rest : List ℕ) (first version generation events : ℕ) (d : Persistent) (len : length digest ≡ 32)
    (is : bytes ≡ kept_front first version digest generation events ((state version).text d) ++ rest) where
  abbrev text : List ℕ
  text = (state version).text d

  abbrev size : ℕ
  size = kept_size version text

  abbrev seed : List ℕ
  seed = kept_seed version digest generation events text

  abbrev behind_size : List ℕ
  behind_size = kept_bytes version seed text ++ rest

  abbrev behind_events : List ℕ
  behind_events = number_text w64 size ++ behind_size

  abbrev behind_generation : List ℕ
  behind_generation = number_text w64 events ++ behind_events

  whole : bytes ≡ first ∷ (state_mark ++ version ∷ (digest ++ (number_text w64 generation ++ behind_generation)))
  whole =
      is ∙ append_assoc (heading first state_mark version digest) (kept_state version seed generation events text) rest
      ∙ ap (λ t. heading first state_mark version digest ++ t)
      (regroup (number_text w64 generation) (number_text w64 events) (number_text w64 size) (kept_bytes version seed text) rest)

  at_generation : drop 41 bytes ≡ number_text w64 generation ++ behind_generation
  at_generation = ap (drop 41) whole ∙ drop_at digest (number_text w64 generation ++ behind_generation) 32 len

  at_events : drop 49 bytes ≡ behind_generation
  at_events = sym (drop-drop 8 41 bytes) ∙ ap (drop 8) at_generation ∙ drop_at (number_text w64 generation) behind_generation 8 (long_word generation)

  at_size : drop 57 bytes ≡ behind_events
  at_size = sym (drop-drop 8 49 bytes) ∙ ap (drop 8) at_events ∙ drop_at (number_text w64 events) behind_events 8 (long_word events)

  at_body : drop 65 bytes ≡ behind_size
  at_body = sym (drop-drop 8 57 bytes) ∙ ap (drop 8) at_size ∙ drop_at (number_text w64 size) behind_size 8 (long_word size)

  pub version_is : version_of bytes ≡ version
  version_is = ap version_of whole

  pub digest_is : digest_of bytes ≡ digest
  digest_is = ap digest_of whole ∙ take_at digest (number_text w64 generation ++ behind_generation) 32 len

  generation_is : generation < 2 ^ 64 → generation_of bytes ≡ generation
  generation_is small = ap (λ l. from_be_bytes w64 (take 8 l)) at_generation ∙ word_back generation behind_generation small

  events_is : events ≤ last_number → events_of bytes ≡ events
  events_is few = ap (λ l. from_be_bytes w64 (take 8 l)) at_events ∙ word_back events behind_events (omega (arith, few))

  abbrev words : List ℕ
  words = number_text w64 generation ++ (number_text w64 events ++ number_text w64 size)

  words_long : length words ≡ 24
  words_long = omega (
    arith,
    length-append (number_text w64 generation) (number_text w64 events ++ number_text w64 size),
    length-append (number_text w64 events) (number_text w64 size),
    long_word generation,
    long_word events,
    long_word size,
  )

  pub seed_is : seed_of bytes ≡ seed
  seed_is =
      let head : List ℕ = kept_head version digest generation events size in
      let split : digest ++ (number_text w64 generation ++ behind_generation) ≡ (digest ++ words) ++ behind_size =
      ap (λ t. digest ++ t) (three_first (number_text w64 generation) (number_text w64 events) (number_text w64 size) behind_size)
      ∙ sym (append_assoc digest words behind_size) in
      let parted : bytes ≡ (first ∷ head) ++ behind_size = whole ∙ ap (λ t. first ∷ (state_mark ++ version ∷ t)) split in
      let long : length (digest ++ words) ≡ 56 = omega (arith, len, words_long, length-append digest words) in
      ap seed_of parted ∙ seed_of_front first head behind_size (omega (arith, long)) ∙ seed_of_rest first 0 head

  module _ (known : IsKnown version) (small : generation < 2 ^ 64) (few : events ≤ last_number) (fits : (state version).fits d ≡ true) where
    size_is : size_of bytes ≡ size
    size_is =
        ap (λ l. from_be_bytes w64 (take 8 l)) at_size
        ∙ word_back size behind_size (size_short (has_sums version) (length text) (short_text version d known fits))

    text_is : text_of bytes ≡ sealed version (seed_of bytes) 65 text
    text_is =
        ap (λ v. take (size_of bytes) (drop (text_place v) bytes)) version_is ∙ ap (λ n. take n (drop (text_place version) bytes)) size_is
        ∙ body_back (has_sums version) bytes seed text (sum_of seed 65 text) rest
        (length-seed_of (0 ∷ kept_head version digest generation events size)) (length-sum_of seed 65 text) at_body
        ∙ ap (λ s. sealed version s 65 text) (sym seed_is)

    counts : HasCounts bytes
    counts = record {
      spelled = ap (take 24) (at_generation ∙ three_first (number_text w64 generation) (number_text w64 events) (number_text w64 size) behind_size)
          ∙ take_at words behind_size 24 words_long
          ∙ ap (λ n. number_text w64 n ++ (number_text w64 events ++ number_text w64 size)) (sym (generation_is small))
          ∙ ap (λ n. number_text w64 (generation_of bytes) ++ (number_text w64 n ++ number_text w64 size)) (sym (events_is few))
          ∙ ap (λ n. number_text w64 (generation_of bytes) ++ (number_text w64 (events_of bytes) ++ number_text w64 n)) (sym size_is);
      counted = subst (λ n. n < 2 ^ 64) (sym (generation_is small)) small;
    }

    long_bytes : length bytes ≡ (text_place version + size) + length rest
    long_bytes =
        omega (
          arith,
          ap length whole,
          length-append digest (number_text w64 generation ++ behind_generation),
          length-append (number_text w64 generation) behind_generation,
          length-append (number_text w64 events) behind_events,
          length-append (number_text w64 size) behind_size,
          length-append (kept_bytes version seed text) rest,
          long_word generation,
          long_word events,
          long_word size,
          len,
          body_long (has_sums version) seed text (sum_of seed 65 text) (length-seed_of (0 ∷ kept_head version digest generation events size)) (length-sum_of seed 65 text),
        )

    place_is : text_place (version_of bytes) + size_of bytes ≡ text_place version + size
    place_is = ap (λ v. text_place v + size_of bytes) version_is ∙ ap (λ n. text_place version + n) size_is

    pub kept_there : 1 ≤ length rest → IsKeptState digest bytes d events (text_place (version_of bytes) + size_of bytes)
    kept_there some =
        let all = long_bytes in
        let here = place_is in
        record {
          known = subst IsKnown (sym version_is) known;
          same = digest_is;
          events_are = sym (events_is few);
          few = few;
          counts = counts;
          spells = subst (λ v. SpellsSealed v (seed_of bytes) d (text_of bytes)) (sym version_is) (record { fits = fits; is = text_is });
          behind = refl;
          gate = omega (arith, all, here, some);
        }

    -- and its gate is behind the front
    pub gate_is : text_place (version_of bytes) + size_of bytes ≡ length (kept_front first version digest generation events text)
    gate_is =
        let all = long_bytes in
        let here = place_is in
        let split : length bytes ≡ length (kept_front first version digest generation events text) + length rest =
        ap length is ∙ length-append (kept_front first version digest generation events text) rest in
        omega (arith, all, here, split)

place_on : (on : Bool) → on ≡ true → cond {A = ℕ} on 73 65 ≡ 73
place_on true is = refl
place_on false is = absurd cc

-- where there are sums, their seed by the length of the front
pub front_seed : (digest front : List ℕ) (first version generation events : ℕ) (d : Persistent) → length digest ≡ 32 →
    front ≡ kept_front first version digest generation events ((state version).text d) → IsKnown version → generation < 2 ^ 64 → events ≤ last_number →
    (state version).fits d ≡ true → has_sums version ≡ true →
    (73 ≤ length front) × (seed_of front ≡ seed_of (0 ∷ kept_head version digest generation events (length front - 73)))
front_seed digest front first version generation events d len is known small few fits on =
    let whole : front ≡ kept_front first version digest generation events ((state version).text d) ++ [] =
    is ∙ sym (append-nil (kept_front first version digest generation events ((state version).text d))) in
    let long = long_bytes digest front [] first version generation events d len whole known small few fits in
    let place : text_place version ≡ 73 = place_on (has_sums version) on in
    let size : kept_size version ((state version).text d) ≡ length front - 73 = omega (arith, long, place) in (
      omega (arith, long, place),
      seed_is digest front [] first version generation events d len whole ∙ ap (λ n. seed_of (0 ∷ kept_head version digest generation events n)) size,
    )
