-- The kind of a disk by its front, whatever stands behind it.
use Rattle.std.proofs.Common.{◌≡◌, ◌≢◌, ℕ, ◌^◌, ◌<◌, ◌≤◌, nat_le, ◌==◌, Bool, true, false, cond, ◌||◌, List, ◌∷◌, ◌++◌, length, take, drop, refl, sym, ap, ◌∙◌, append_assoc, arith, length-append}
use Rattle.std.specs.Int.{w64, from_be_bytes}
use Rattle.std.proofs.lemmas.Bool.{le-leb}
use Rattle.std.proofs.lemmas.Bool.Decides.{nat_tests}
use Rattle.std.proofs.lemmas.List.{take_at, drop_at}
use Rattle.std.specs.Prelude.{bytes_eq}
use Rattle.std.proofs.lemmas.Slice.Eq.{bytes_eq-Decides}
use Rattle.std.proofs.lemmas.Nat.{from_be_bytes-to_be_bytes_8}
use Rattle.def_bytes.specs.Fields.{number_text}
use Rattle.boss_model.specs.declared.state.Actuator.{Actuator}
use Rattle.boss_model.specs.State.{Persistent}
use Rattle.def_bytes.specs.States.{state}
use Rattle.def_log.specs.declared.kind.DiskKind.TheVariants.{Plain, State}
use Rattle.def_log.specs.Kinds.{plain_mark, state_mark, is_seeded, kind_of}
use Rattle.def_seal.specs.Seals.{has_sums, seed_of, sum_of}
use Rattle.def_seal.proofs.Seals.{seed_of_front, seed_of_rest, length-seed_of}
use Rattle.def_disk_pair.specs.Fronts.{kept_size, kept_bytes, kept_head, kept_seed, IsPlainFront, IsStateFront}

not_idle : (first : ℕ) (more : List ℕ) → first ≢ 0 → 1 ≤ length more → (nat_le (length (first ∷ more)) 1 || (first == 0)) ≡ false
not_idle first more written some =
    let long : nat_le (length (first ∷ more)) 1 ≡ false = grind (arith, nat_tests) in
    let set : (first == 0) ≡ false = grind (arith, nat_tests) in
    rw (long, set) refl

long_word : (n : ℕ) → length (number_text w64 n) ≡ 8
unfolding number_text
long_word n = refl

word_back : (n : ℕ) (more : List ℕ) → n < 2 ^ 64 → from_be_bytes w64 (take 8 (number_text w64 n ++ more)) ≡ n
unfolding number_text
word_back n more small = ap (from_be_bytes w64) (take_at (number_text w64 n) more 8 refl) ∙ from_be_bytes-to_be_bytes_8 n small

plain_kind : (first : ℕ) (more : List ℕ) → first ≢ 0 → 34 ≤ length more → kind_of (first ∷ (plain_mark ++ more)) ≡ Plain
plain_kind first more written long =
    let idle = not_idle first (plain_mark ++ more) written (omega (arith, long)) in
    let enough : nat_le 42 (length (first ∷ (plain_mark ++ more))) ≡ true = le-leb _ _ (omega (arith, long)) in
    rw (idle, enough) refl

pub state_kind : (first version generation : ℕ) (digest more : List ℕ) → first ≢ 0 → length digest ≡ 32 → generation < 2 ^ 64 → 17 ≤ length more →
    is_seeded (first ∷ (state_mark ++ version ∷ (digest ++ (number_text w64 generation ++ more)))) ≡ true →
    kind_of (first ∷ (state_mark ++ version ∷ (digest ++ (number_text w64 generation ++ more)))) ≡ State generation
state_kind first version generation digest more written len small long seeded =
    let bytes = first ∷ (state_mark ++ version ∷ (digest ++ (number_text w64 generation ++ more))) in
    let size : 66 ≤ length bytes = omega (arith, len, long, long_word generation, length-append digest (number_text w64 generation ++ more), length-append (number_text w64 generation) more) in
    let idle = not_idle first (state_mark ++ version ∷ (digest ++ (number_text w64 generation ++ more))) written (omega (arith, size)) in
    let some : nat_le 42 (length bytes) ≡ true = le-leb _ _ (omega (arith, size)) in
    let enough : nat_le 66 (length bytes) ≡ true = le-leb _ _ size in
    rw (idle, some, enough, seeded) (ap State (ap (λ t. from_be_bytes w64 (take 8 t)) (drop_at digest (number_text w64 generation ++ more) 32 len) ∙ word_back generation more small))

pub plain_front : (digest : List ℕ) → length digest ≡ 32 → (version : ℕ) (from : Persistent) (before : ℕ) (front : List ℕ) (gate : ℕ) (rest : List ℕ) →
    IsPlainFront digest version from before front → kind_of (front ++ gate ∷ rest) ≡ Plain
plain_front digest len version from before front gate rest p = ap (λ f. kind_of (f ++ gate ∷ rest)) p.is
    ∙ plain_kind p.first (version ∷ (digest ++ gate ∷ rest)) p.written (omega (arith, len, length-append digest (gate ∷ rest)))

-- behind the length stands the seed
seeded_by : (on : Bool) (bytes seed : List ℕ) → (on ≡ true → take 8 (drop 65 bytes) ≡ seed) → cond on (bytes_eq (take 8 (drop 65 bytes)) seed) true ≡ true
seeded_by true bytes seed there = (bytes_eq-Decides (take 8 (drop 65 bytes)) seed).1 (there refl)
seeded_by false bytes seed there = refl

regroup : (digest g e n body a : List ℕ) → digest ++ (g ++ ((e ++ (n ++ body)) ++ a)) ≡ (digest ++ (g ++ (e ++ n))) ++ (body ++ a)
regroup digest g e n body a =
    ap (λ t. digest ++ (g ++ t)) (append_assoc e (n ++ body) a ∙ ap (λ t. e ++ t) (append_assoc n body a) ∙ sym (append_assoc e n (body ++ a)))
    ∙ ap (λ t. digest ++ t) (sym (append_assoc g (e ++ n) (body ++ a))) ∙ sym (append_assoc digest (g ++ (e ++ n)) (body ++ a))

taken_seed : (on : Bool) (seed rest text a : List ℕ) → length seed ≡ 8 → on ≡ true → take 8 (cond on (seed ++ rest) text ++ a) ≡ seed
taken_seed true seed rest text a long is = ap (take 8) (append_assoc seed rest a) ∙ take_at seed (rest ++ a) 8 long
taken_seed false seed rest text a long is = absurd cc

pub seeded_front : (first version generation before : ℕ) (digest text a : List ℕ) → length digest ≡ 32 →
    is_seeded (first ∷ (state_mark ++ version ∷ (digest ++ (number_text w64 generation
    ++ ((number_text w64 before ++ (number_text w64 (kept_size version text) ++ kept_bytes version (kept_seed version digest generation before text) text)) ++ a))))) ≡ true
seeded_front first version generation before digest text a len =
    let size = kept_size version text in
    let seed = kept_seed version digest generation before text in
    let body = kept_bytes version seed text in
    let head = kept_head version digest generation before size in
    let words = number_text w64 generation ++ (number_text w64 before ++ number_text w64 size) in
    let behind = digest ++ (number_text w64 generation ++ ((number_text w64 before ++ (number_text w64 size ++ body)) ++ a)) in
    let bytes = first ∷ (state_mark ++ version ∷ behind) in
    let long : length (digest ++ words) ≡ 56 =
    omega (
      arith,
      len,
      length-append digest words,
      length-append (number_text w64 generation) (number_text w64 before ++ number_text w64 size),
      length-append (number_text w64 before) (number_text w64 size),
      long_word generation,
      long_word before,
      long_word size,
    ) in
    let whole : bytes ≡ (first ∷ head) ++ (body ++ a) =
    ap (λ t. first ∷ (state_mark ++ version ∷ t)) (regroup digest (number_text w64 generation) (number_text w64 before) (number_text w64 size) body a) in
    let same : seed_of bytes ≡ seed = ap seed_of whole ∙ seed_of_front first head (body ++ a) (omega (arith, long)) ∙ seed_of_rest first 0 head in
    let at : drop 65 bytes ≡ body ++ a = ap (drop 65) whole ∙ drop_at (first ∷ head) (body ++ a) 65 (omega (arith, long)) in
    ap (λ s. cond (has_sums version) (bytes_eq (take 8 (drop 65 bytes)) s) true) same
    ∙ seeded_by (has_sums version) bytes seed
    (λ on. ap (take 8) at ∙ taken_seed (has_sums version) seed (text ++ sum_of seed 65 text) text a (length-seed_of (0 ∷ head)) on)

module _ (plant : List Actuator) (digest : List ℕ) (len : length digest ≡ 32) where
  pub state_front : (version generation : ℕ) (from : Persistent) (before : ℕ) (front : List ℕ) (gate : ℕ) (rest : List ℕ) →
      IsStateFront plant digest version generation from before front → kind_of (front ++ gate ∷ rest) ≡ State generation
  state_front version generation from before front gate rest p =
      let text = (state version).text from in
      let seed = kept_seed version digest generation before text in
      let body = kept_bytes version seed text in
      let after = number_text w64 before ++ (number_text w64 (kept_size version text) ++ body) in
      ap (λ f. kind_of (f ++ gate ∷ rest)) p.is
      ∙ ap (λ t. kind_of (p.first ∷ (state_mark ++ version ∷ t)))
      (append_assoc digest (number_text w64 generation ++ after) (gate ∷ rest) ∙ ap (λ t. digest ++ t) (append_assoc (number_text w64 generation) after (gate ∷ rest)))
      ∙ state_kind p.first version generation digest (after ++ gate ∷ rest) p.written len p.counted
      (omega (
        arith,
        length-append after (gate ∷ rest),
        length-append (number_text w64 before) (number_text w64 (kept_size version text) ++ body),
        length-append (number_text w64 (kept_size version text)) body,
        long_word before,
        long_word (kept_size version text),
      ))
      (seeded_front p.first version generation before digest text (gate ∷ rest) len)
