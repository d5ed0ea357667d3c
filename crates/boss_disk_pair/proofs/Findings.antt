-- What the kinds and the first bytes of two disks tell.
use Rattle.std.proofs.Common.{◌≡◌, ◌≢◌, inl, inr, ⊎_elim, ℕ, ◌<◌, ◌≤◌, ◌==◌, nat_le, Bool, true, false, cond, ◌||◌, ◌&&◌, List, [], ◌∷◌, ◌++◌, length, get_or, take, drop, refl, ap, ◌∙◌, arith}
use Rattle.std.proofs.lemmas.Bool.{cases_lt}
use Rattle.std.proofs.lemmas.Bool.Decides.{nat_tests}
use Rattle.std.proofs.lemmas.List.{length-drop, get_or-drop, drop-drop}
use Rattle.std.proofs.lemmas.Slice.Eq.{bytes_eq-Decides}
use Rattle.std.proofs.Math.Seq.{take-add}
use Rattle.def_bytes.proofs.Spelling.{right_true, left_true}
use Rattle.def_log.specs.declared.kind.DiskKind.TheVariants.{Idle, Plain, State, Other}
use Rattle.def_log.specs.Kinds.{kind_of, is_idle, is_state, mark_is, plain_mark, generation_of}
use Rattle.boss_model.specs.State.{first_persistent}
use Rattle.def_disk_pair.specs.Fronts.{IsPlainFront}
use Rattle.def_disk_pair.specs.Pairs.{IsNew}
use Rattle.boss_snapshot.specs.Fronts.{version_of, digest_of}
use Rattle.def_log.specs.Versions.{IsKnown}

-- ---- an idle disk

idle_part : (idle plain kept : Bool) (n : ℕ) → cond idle Idle (cond plain Plain (cond kept (State n) Other)) ≡ Idle → idle ≡ true
idle_part true plain kept n is = refl
idle_part false true kept n is = absurd cc
idle_part false false true n is = absurd cc
idle_part false false false n is = absurd cc

zero_or_short : (bytes : List ℕ) → is_idle bytes ≡ true → length bytes ≤ 42 → IsNew bytes
zero_or_short [] is few = inl (omega arith)
zero_or_short (x ∷ bytes) is few = ⊎_elim
    (λ long.
    let zero : x ≡ 0 = grind (arith, nat_tests, is, long) in
    inr (bytes, ap (λ b. b ∷ bytes) zero, few))
    (λ short. inl (omega (arith, short)))
    (cases_lt 1 (length (x ∷ bytes)))

pub idle_new : (bytes : List ℕ) → kind_of bytes ≡ Idle → length bytes ≤ 42 → IsNew bytes
idle_new bytes is few = zero_or_short bytes (idle_part (is_idle bytes) (nat_le 42 (length bytes) && mark_is bytes plain_mark) (is_state bytes) (generation_of bytes) is) few

pub not_new : (bytes : List ℕ) → 42 < length bytes → IsNew bytes → ⊥
not_new bytes many (inl short) = omega (arith, many, short)
not_new bytes many (inr zero) = let few = zero.2 in omega (arith, many, few)

-- ---- a journal from the first state on

plain_parts : (idle plain kept : Bool) (n : ℕ) → cond idle Idle (cond plain Plain (cond kept (State n) Other)) ≡ Plain → (idle ≡ false) × (plain ≡ true)
plain_parts true plain kept n is = absurd cc
plain_parts false true kept n is = (refl, refl)
plain_parts false false true n is = absurd cc
plain_parts false false false n is = absurd cc

not_zero : (short : Bool) (first : ℕ) → (short || (first == 0)) ≡ false → first ≢ 0
not_zero true first is none = absurd cc
not_zero false first is none = let zero : (first == 0) ≡ true = ap (λ n. n == 0) none in cc

one_byte : (l : List ℕ) → 1 ≤ length l → take 1 l ≡ get_or l 0 0 ∷ []
one_byte [] long = absurd (omega (arith, long))
one_byte (x ∷ l) long = refl

module _ (bytes : List ℕ) (kind : kind_of bytes ≡ Plain) where
  parts : (is_idle bytes ≡ false) × ((nat_le 42 (length bytes) && mark_is bytes plain_mark) ≡ true)
  parts = plain_parts (is_idle bytes) (nat_le 42 (length bytes) && mark_is bytes plain_mark) (is_state bytes) (generation_of bytes) kind

  pub plain_long : 42 ≤ length bytes
  plain_long = let long : nat_le 42 (length bytes) ≡ true = left_true (nat_le 42 (length bytes)) (mark_is bytes plain_mark) parts.1 in grind (arith, nat_tests, long)

  mark_stands : take 7 (drop 1 bytes) ≡ plain_mark
  mark_stands = (bytes_eq-Decides (take 7 (drop 1 bytes)) plain_mark).0 (right_true (nat_le 42 (length bytes)) (mark_is bytes plain_mark) parts.1)

  head_parts : take 41 bytes ≡ get_or bytes 0 0 ∷ (take 7 (drop 1 bytes) ++ get_or bytes 8 0 ∷ take 32 (drop 9 bytes))
  head_parts =
      let version_byte : take 1 (drop 8 bytes) ≡ get_or bytes 8 0 ∷ [] =
      one_byte (drop 8 bytes) (omega (arith, plain_long, length-drop 8 bytes)) ∙ ap (λ b. b ∷ []) (get_or-drop 8 bytes 0 0) in
      take-add 1 40 bytes
      ∙ ap (λ t. t ++ take 40 (drop 1 bytes)) (one_byte bytes (omega (arith, plain_long)))
      ∙ ap (λ t. get_or bytes 0 0 ∷ t) (take-add 7 33 (drop 1 bytes)
      ∙ ap (λ t. take 7 (drop 1 bytes) ++ take 33 t) (drop-drop 7 1 bytes)
      ∙ ap (λ t. take 7 (drop 1 bytes) ++ t) (take-add 1 32 (drop 8 bytes)
      ∙ ap (λ t. take 1 (drop 8 bytes) ++ take 32 t) (drop-drop 1 8 bytes)
      ∙ ap (λ t. t ++ take 32 (drop 9 bytes)) version_byte))

  pub plain_front : (digest : List ℕ) → IsKnown (version_of bytes) → digest_of bytes ≡ digest → IsPlainFront digest (version_of bytes) first_persistent 0 (take 41 bytes)
  plain_front digest known same = record {
    first = get_or bytes 0 0;
    written = not_zero (nat_le (length bytes) 1) (get_or bytes 0 0) parts.0;
    known = known;
    is = head_parts ∙ ap (λ t. get_or bytes 0 0 ∷ (t ++ get_or bytes 8 0 ∷ take 32 (drop 9 bytes))) mark_stands
        ∙ ap (λ t. get_or bytes 0 0 ∷ (plain_mark ++ get_or bytes 8 0 ∷ t)) same;
    first_state = refl;
    none_before = refl;
  }
