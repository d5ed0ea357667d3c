-- A kept state, written or read, is the front of a disk.
use Rattle.std.proofs.Common.{◌≡◌, ◌≢◌, ℕ, ◌+◌, ◌^◌, ◌<◌, ◌≤◌, nat_le, ◌==◌, Bool, true, false, cond, ◌&&◌, ◌||◌, List, [], ◌∷◌, ◌++◌, length, get_or, take, drop, refl, sym, ap, subst, ◌∙◌, append_assoc, append-nil, length-append, arith}
use Rattle.std.specs.Int.{w64}
use Rattle.std.specs.Prelude.{bytes_eq}
use Rattle.std.proofs.lemmas.List.{length-take, length-take-le, length-drop, get_or-drop, drop-drop, take-append-drop}
use Rattle.std.proofs.lemmas.Slice.Eq.{bytes_eq-Decides}
use Rattle.std.proofs.Math.Seq.{take-add}
use Rattle.def_bytes.specs.States.{state}
use Rattle.def_bytes.proofs.Spelling.{left_true, right_true}
use Rattle.def_bytes.specs.Fields.{number_text}
use Rattle.def_log.specs.declared.kind.DiskKind.TheVariants.{Idle, Plain, State, Other}
use Rattle.def_log.specs.Kinds.{kind_of, is_idle, is_seeded, is_state, mark_is, plain_mark, state_mark, generation_of}
use Rattle.def_log.specs.Versions.{newest_version}
use Rattle.def_seal.specs.Seals.{has_sums, seed_of, sum_of}
use Rattle.def_seal.proofs.Seals.{length-sum_of, seed_of_front, seed_of_rest}
use Rattle.boss_model.specs.declared.state.Actuator.{Actuator}
use Rattle.boss_model.specs.Limits.{last_number}
use Rattle.boss_model.specs.Sound.{IsSoundPersistent}
use Rattle.boss_model.specs.State.{Persistent}
use Rattle.def_disk_pair.specs.Fronts.{heading, kept_size, kept_bytes, kept_head, kept_seed, IsStateFront}
use Rattle.boss_snapshot.specs.Fronts.{version_of, digest_of, events_of, size_of, text_place, text_of}
use Rattle.boss_snapshot.specs.Refusals.{IsKeptState}
use Rattle.boss_snapshot.specs.Writes.{state_front, state_text}
use Rattle.boss_snapshot.proofs.OfFronts.{behind_head}

-- ---- written

pub written_front : (plant : List Actuator) (digest : List ℕ) (generation events first : ℕ) (d : Persistent) → first ≢ 0 → generation < 2 ^ 64
    → events ≤ last_number → (state 2).fits d ≡ true → IsSoundPersistent plant d
    → IsStateFront plant digest newest_version generation d events (state_front first digest generation events d)
unfolding state_text
written_front plant digest generation events first d marked counted few fits sound = record {
  first = first;
  written = marked;
  known = (omega arith, omega arith);
  is = refl;
  counted = counted;
  few = few;
  fits = fits;
  sound = sound;
}

-- ---- what the kind tells

kind_parts : (idle plain kept : Bool) (n g : ℕ) → cond idle Idle (cond plain Plain (cond kept (State n) Other)) ≡ State g
    → (idle ≡ false) × ((kept ≡ true) × (n ≡ g))
kind_parts true plain kept n g is = absurd cc
kind_parts false true kept n g is = absurd cc
kind_parts false false true n g is = (refl, (refl, cc))
kind_parts false false false n g is = absurd cc

not_zero : (short : Bool) (first : ℕ) → (short || (first == 0)) ≡ false → first ≢ 0
not_zero true first is none = absurd cc
not_zero false first is none = let zero : (first == 0) ≡ true = ap (λ n. n == 0) none in cc

if_so : (on test : Bool) → on ≡ true → cond on test true ≡ true → test ≡ true
if_so true test is so = so
if_so false test is so = absurd cc

module _ (bytes : List ℕ) (generation : ℕ) (kind : kind_of bytes ≡ State generation) where
  parts : (is_idle bytes ≡ false) × ((is_state bytes ≡ true) × (generation_of bytes ≡ generation))
  parts = kind_parts (is_idle bytes) (nat_le 42 (length bytes) && mark_is bytes plain_mark) (is_state bytes) (generation_of bytes) generation kind

  first_written : get_or bytes 0 0 ≢ 0
  first_written = not_zero (nat_le (length bytes) 1) (get_or bytes 0 0) parts.0

  mark_stands : take 7 (drop 1 bytes) ≡ state_mark
  mark_stands = (bytes_eq-Decides (take 7 (drop 1 bytes)) state_mark).0
      (left_true (mark_is bytes state_mark) (is_seeded bytes) (right_true (nat_le 66 (length bytes)) (mark_is bytes state_mark && is_seeded bytes) parts.1.0))

  -- where there are sums their seed stands behind the length
  seed_stands : has_sums (version_of bytes) ≡ true → take 8 (drop 65 bytes) ≡ seed_of bytes
  seed_stands on =
      (bytes_eq-Decides (take 8 (drop 65 bytes)) (seed_of bytes)).0
      (if_so (has_sums (version_of bytes)) (bytes_eq (take 8 (drop 65 bytes)) (seed_of bytes)) on
      (right_true (mark_is bytes state_mark) (is_seeded bytes) (right_true (nat_le 66 (length bytes)) (mark_is bytes state_mark && is_seeded bytes) parts.1.0)))

-- ---- the parts of what stands before a gate

one_byte : (l : List ℕ) → 1 ≤ length l → take 1 l ≡ get_or l 0 0 ∷ []
one_byte [] long = absurd (omega (arith, long))
one_byte (x ∷ l) long = refl

module _ (l : List ℕ) (size : ℕ) (long : 65 ≤ length l) where
  version_byte : take 1 (drop 8 l) ≡ get_or l 8 0 ∷ []
  version_byte = one_byte (drop 8 l) (omega (arith, long, length-drop 8 l)) ∙ ap (λ b. b ∷ []) (get_or-drop 8 l 0 0)

  head_parts : take 41 l ≡ get_or l 0 0 ∷ (take 7 (drop 1 l) ++ get_or l 8 0 ∷ take 32 (drop 9 l))
  head_parts =
      take-add 1 40 l
      ∙ ap (λ t. t ++ take 40 (drop 1 l)) (one_byte l (omega (arith, long)))
      ∙ ap (λ t. get_or l 0 0 ∷ t) (take-add 7 33 (drop 1 l)
      ∙ ap (λ t. take 7 (drop 1 l) ++ take 33 t) (drop-drop 7 1 l)
      ∙ ap (λ t. take 7 (drop 1 l) ++ t) (take-add 1 32 (drop 8 l)
      ∙ ap (λ t. take 1 (drop 8 l) ++ take 32 t) (drop-drop 1 8 l)
      ∙ ap (λ t. t ++ take 32 (drop 9 l)) version_byte))

  pub front_parts : take (65 + size) l ≡ (get_or l 0 0 ∷ (take 7 (drop 1 l) ++ get_or l 8 0 ∷ take 32 (drop 9 l))) ++ (take 24 (drop 41 l) ++ take size (drop 65 l))
  front_parts =
      let all : 65 + size ≡ 41 + (24 + size) = omega arith in
      ap (λ n. take n l) all ∙ take-add 41 (24 + size) l
      ∙ ap (λ t. t ++ take (24 + size) (drop 41 l)) head_parts
      ∙ ap (λ t. (get_or l 0 0 ∷ (take 7 (drop 1 l) ++ get_or l 8 0 ∷ take 32 (drop 9 l))) ++ t)
      (take-add 24 size (drop 41 l) ∙ ap (λ t. take 24 (drop 41 l) ++ take size t) (drop-drop 24 41 l))

-- ---- read

kept_apart : (g e n text : List ℕ) → (g ++ (e ++ n)) ++ text ≡ g ++ (e ++ (n ++ text))
kept_apart g e n text = append_assoc g (e ++ n) text ∙ ap (λ t. g ++ t) (append_assoc e n text)

-- a text with its sum, where there are sums
sealed_long : (on : Bool) (text sum : List ℕ) → length sum ≡ 8 → length (cond on (text ++ sum) text) ≡ cond on (length text + 8) (length text)
sealed_long true text sum eight = length-append text sum ∙ ap (λ n. length text + n) eight
sealed_long false text sum eight = refl

-- what stands behind the length
body : (on : Bool) (l seed text sum : List ℕ) (size : ℕ) → (on ≡ true → take 8 (drop 65 l) ≡ seed) → take size (drop (cond on 73 65) l) ≡ cond on (text ++ sum) text →
    take (cond on 8 0 + size) (drop 65 l) ≡ cond on (seed ++ (text ++ sum)) text
body true l seed text sum size seeded is =
    take-add 8 size (drop 65 l) ∙ ap (λ t. t ++ take size (drop 8 (drop 65 l))) (seeded refl)
    ∙ ap (λ t. seed ++ take size t) (drop-drop 8 65 l) ∙ ap (λ t. seed ++ t) is
body false l seed text sum size seeded is = let none : 0 + size ≡ size = omega arith in ap (λ n. take n (drop 65 l)) none ∙ is

place_of : (on : Bool) (size : ℕ) → cond on 73 65 + size ≡ 65 + (cond on 8 0 + size)
place_of true size = omega arith
place_of false size = omega arith

module _ (digest bytes : List ℕ) (generation events place : ℕ) (d : Persistent) (kept : IsKeptState digest bytes d events place) where
  abbrev text : List ℕ
  text = (state (version_of bytes)).text d

  abbrev sum : List ℕ
  sum = sum_of (seed_of bytes) 65 text

  long_text : length (text_of bytes) ≡ size_of bytes
  long_text =
      let behind = kept.behind in
      let gate = kept.gate in
      omega (arith, behind, gate, length-take (size_of bytes) (drop (text_place (version_of bytes)) bytes), length-drop (text_place (version_of bytes)) bytes)

  size_there : size_of bytes ≡ kept_size (version_of bytes) text
  size_there = sym long_text ∙ ap length kept.spells.is ∙ sealed_long (has_sums (version_of bytes)) text sum (length-sum_of (seed_of bytes) 65 text)

  counts_there : generation_of bytes ≡ generation → take 24 (drop 41 bytes) ≡ number_text w64 generation ++ (number_text w64 events ++ number_text w64 (kept_size (version_of bytes) text))
  counts_there same =
      kept.counts.spelled
      ∙ ap (λ n. number_text w64 n ++ (number_text w64 (events_of bytes) ++ number_text w64 (size_of bytes))) same
      ∙ ap (λ n. number_text w64 generation ++ (number_text w64 n ++ number_text w64 (size_of bytes))) (sym kept.events_are)
      ∙ ap (λ n. number_text w64 generation ++ (number_text w64 events ++ number_text w64 n)) size_there

  module _ (kind : kind_of bytes ≡ State generation) where
    long : 65 ≤ length bytes
    long = let behind = kept.behind in let gate = kept.gate in behind_head (version_of bytes) (size_of bytes) (length bytes) (subst (λ n. n < length bytes) behind gate)

    told : (is_idle bytes ≡ false) × ((is_state bytes ≡ true) × (generation_of bytes ≡ generation))
    told = parts bytes generation kind

    -- the head, whatever size is asked for
    parts_there : (size : ℕ) → take (65 + size) bytes
        ≡ heading (get_or bytes 0 0) state_mark (version_of bytes) digest
        ++ ((number_text w64 generation ++ (number_text w64 events ++ number_text w64 (kept_size (version_of bytes) text))) ++ take size (drop 65 bytes))
    parts_there size =
        front_parts bytes size long
        ∙ ap (λ t. (get_or bytes 0 0 ∷ (t ++ version_of bytes ∷ digest_of bytes)) ++ (take 24 (drop 41 bytes) ++ take size (drop 65 bytes))) (mark_stands bytes generation kind)
        ∙ ap (λ t. heading (get_or bytes 0 0) state_mark (version_of bytes) t ++ (take 24 (drop 41 bytes) ++ take size (drop 65 bytes))) kept.same
        ∙ ap (λ t. heading (get_or bytes 0 0) state_mark (version_of bytes) digest ++ (t ++ take size (drop 65 bytes))) (counts_there told.1.1)

    abbrev pub head : List ℕ
    head = kept_head (version_of bytes) digest generation events (kept_size (version_of bytes) text)

    head_long : length head ≡ 64
    head_long =
        let words = number_text w64 generation ++ (number_text w64 events ++ number_text w64 (kept_size (version_of bytes) text)) in
        let first : length (take 65 bytes) ≡ 65 = length-take-le 65 bytes long in
        let all = ap length (parts_there 0) in
        omega (arith, first, all, length-append digest words, length-append words [], length-append digest (words ++ []))

    seed_there : seed_of bytes ≡ kept_seed (version_of bytes) digest generation events text
    seed_there =
        let words = number_text w64 generation ++ (number_text w64 events ++ number_text w64 (kept_size (version_of bytes) text)) in
        let whole : bytes ≡ (get_or bytes 0 0 ∷ head) ++ drop 65 bytes =
        sym (take-append-drop 65 bytes)
        ∙ ap (λ t. t ++ drop 65 bytes) (parts_there 0 ∙ ap (λ w. heading (get_or bytes 0 0) state_mark (version_of bytes) digest ++ w) (append-nil words)) in
        ap seed_of whole ∙ seed_of_front (get_or bytes 0 0) head (drop 65 bytes) head_long ∙ seed_of_rest (get_or bytes 0 0) 0 head

    body_there : take (cond (has_sums (version_of bytes)) 8 0 + size_of bytes) (drop 65 bytes)
        ≡ kept_bytes (version_of bytes) (kept_seed (version_of bytes) digest generation events text) text
    body_there =
        body (has_sums (version_of bytes)) bytes (seed_of bytes) text sum (size_of bytes) (seed_stands bytes generation kind) kept.spells.is
        ∙ ap (λ s. kept_bytes (version_of bytes) s text) seed_there

    pub read_front : (plant : List Actuator) → IsSoundPersistent plant d → IsStateFront plant digest (version_of bytes) generation d events (take place bytes)
    read_front plant sound =
        let words = number_text w64 generation ++ (number_text w64 events ++ number_text w64 (kept_size (version_of bytes) text)) in
        record {
          first = get_or bytes 0 0;
          written = first_written bytes generation kind;
          known = kept.known;
          is = ap (λ n. take n bytes) (kept.behind ∙ place_of (has_sums (version_of bytes)) (size_of bytes)) ∙ parts_there (cond (has_sums (version_of bytes)) 8 0 + size_of bytes)
              ∙ ap (λ t. heading (get_or bytes 0 0) state_mark (version_of bytes) digest ++ (words ++ t)) body_there
              ∙ ap (λ t. heading (get_or bytes 0 0) state_mark (version_of bytes) digest ++ t)
              (kept_apart (number_text w64 generation) (number_text w64 events) (number_text w64 (kept_size (version_of bytes) text))
              (kept_bytes (version_of bytes) (kept_seed (version_of bytes) digest generation events text) text));
          counted = subst (λ n. n < 2 ^ 64) told.1.1 kept.counts.counted;
          few = kept.few;
          fits = kept.spells.fits;
          sound = sound;
        }
