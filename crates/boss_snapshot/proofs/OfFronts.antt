-- What the first 65 bytes tell of all.
use Rattle.std.proofs.Common.{◌≡◌, ℕ, ◌+◌, ◌<◌, ◌≤◌, ⊎_elim, nat_le, Bool, true, false, cond, ◌&&◌, List, ◌∷◌, length, take, drop, ap, subst, ◌∙◌, arith}
use Rattle.std.specs.Prelude.{IsTrue}
use Rattle.std.specs.Int.{w64, from_be_bytes}
use Rattle.std.proofs.lemmas.List.{take-take, drop-take, get_or-take}
use Rattle.std.proofs.lemmas.Bool.{cases_lt}
use Rattle.std.proofs.lemmas.Bool.Decides.{nat_tests}
use Rattle.def_log.specs.declared.kind.DiskKind.TheVariants.{Idle, Plain, State, Other}
use Rattle.def_log.specs.Kinds.{kind_of, is_idle, mark_is, plain_mark, state_mark, is_seeded, generation_of}
use Rattle.sha2.specs.Sha256.{sha256}
use Rattle.def_seal.specs.Seals.{has_sums, seed_of}
use Rattle.boss_snapshot.specs.Fronts.{version_of, digest_of, events_of, size_of, text_place}
use Rattle.boss_snapshot.specs.Refusals.{IsState}

pub seed_first : (bytes : List ℕ) → seed_of (take 65 bytes) ≡ seed_of bytes
unfolding seed_of
seed_first bytes = ap (λ l. take 8 (sha256 l)) (ap (take 64) (drop-take 1 64 bytes) ∙ take-take 64 64 (drop 1 bytes) (omega arith))

-- and of the bytes behind byte 0
pub seed_mid : (first : ℕ) (bytes : List ℕ) → seed_of (first ∷ take 64 (drop 1 bytes)) ≡ seed_of bytes
unfolding seed_of
seed_mid first bytes = ap (λ l. take 8 (sha256 l)) (take-take 64 64 (drop 1 bytes) (omega arith))

module _ (head bytes : List ℕ) (is : head ≡ take 65 bytes) where
  pub same_version : version_of head ≡ version_of bytes
  same_version = ap version_of is ∙ get_or-take 65 bytes 8 0 (omega arith)

  pub same_digest : digest_of head ≡ digest_of bytes
  same_digest = ap digest_of is ∙ ap (take 32) (drop-take 9 56 bytes) ∙ take-take 32 56 (drop 9 bytes) (omega arith)

  pub same_seed : seed_of head ≡ seed_of bytes
  same_seed = ap seed_of is ∙ seed_first bytes

  pub same_events : events_of head ≡ events_of bytes
  same_events = ap events_of is ∙ ap (from_be_bytes w64) (ap (take 8) (drop-take 49 16 bytes) ∙ take-take 8 16 (drop 49 bytes) (omega arith))

  pub same_size : size_of head ≡ size_of bytes
  same_size = ap size_of is ∙ ap (from_be_bytes w64) (ap (take 8) (drop-take 57 8 bytes) ∙ take-take 8 8 (drop 57 bytes) (omega arith))

-- a state begins behind the head
least : (on : Bool) → 65 ≤ cond on 73 65
least true = omega arith
least false = omega arith

pub behind_head : (version size end : ℕ) → text_place version + size < end → 65 ≤ end
behind_head version size end inside = omega (arith, inside, least (has_sums version))

-- a test that holds where this does, and did not hold
pub denied : {P : Type 0} (test : Bool) → (P → IsTrue test) → test ≡ false → P → ⊥
denied {P} test gives failed here = let bad : false ≡ true = subst IsTrue failed (gives here) in cc

pub no_place : (test : Bool) (place size end : ℕ) → (place + size < end → IsTrue test) → test ≡ false → end ≤ place + size
no_place test place size end gives failed = ⊎_elim (λ here. absurd (denied test gives failed here)) (λ none. none) (cases_lt (place + size) end)

-- a kept state has 66 bytes at least
none_kept : (idle plain : Bool) → IsState (cond idle Idle (cond plain Plain Other)) → ⊥
none_kept true plain is = is
none_kept false true is = is
none_kept false false is = is

pub long_state : (bytes : List ℕ) → IsState (kind_of bytes) → 66 ≤ length bytes
long_state bytes is =
    ⊎_elim
    (λ short.
    let no : nat_le 66 (length bytes) ≡ false = grind (arith, nat_tests) in
    absurd (none_kept (is_idle bytes) (nat_le 42 (length bytes) && mark_is bytes plain_mark)
    (subst (λ t. IsState (cond (is_idle bytes) Idle (cond (nat_le 42 (length bytes) && mark_is bytes plain_mark) Plain (cond (t && (mark_is bytes state_mark && is_seeded bytes)) (State (generation_of bytes)) Other)))) no is)))
    (λ long. long)
    (cases_lt (length bytes) 66)
