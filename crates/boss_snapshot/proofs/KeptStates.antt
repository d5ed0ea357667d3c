-- A state that was read, or that the bytes do not spell.
use Rattle.std.proofs.Common.{◌≡◌, ℕ, ◌+◌, ◌<◌, Bool, true, false, cond, Result, Ok, Err, Option, Some, None, IfOk, MatchOption, List, ◌++◌, length, take, drop, refl, sym, ap, subst, ◌∙◌, inr, arith}
use Rattle.boss_model.specs.State.{Persistent}
use Rattle.def_bytes.specs.States.{state}
use Rattle.boss_snapshot.specs.Fronts.{version_of, digest_of, size_of, text_place, text_of, IsStateHead}
use Rattle.def_log.specs.Versions.{IsKnown}
use Rattle.boss_snapshot.specs.Refusals.{DamagedAt, IsKeptState}
use Rattle.boss_snapshot.specs.Spells.{SpellsState, SpellsSealed}
use Rattle.def_seal.specs.Seals.{has_sums, seed_of, sum_of}
use Rattle.def_seal.proofs.Seals.{one_record}

-- ---- sums

with_sum_on : (on : Bool) (a s : List ℕ) → on ≡ true → cond on (a ++ s) a ≡ a ++ s
with_sum_on true a s is = refl
with_sum_on false a s is = absurd cc

pub unsealed_text : (version : ℕ) (seed : List ℕ) (d : Persistent) (whole bytes : List ℕ) → has_sums version ≡ true → whole ≡ bytes ++ sum_of seed 65 bytes →
    SpellsSealed version seed d whole → SpellsState version d bytes
unsealed_text version seed d whole bytes on is spells = record {
  fits = spells.fits;
  is = one_record version 65 seed bytes ((state version).text d) (with_sum_on (has_sums version) bytes (sum_of seed 65 bytes) on ∙ sym is ∙ spells.is);
}

-- bytes that are read where others are spelled
pub none_read : {A E : Type 0} (result : Result (Option A) E) (see : A → Persistent) (S T : Persistent → Type 0) → ((d : Persistent) → S d → T d)
    → ((d : Persistent) → T d → IfOk result (λ found. MatchOption found ⊥ (λ kept. see kept ≡ d)))
    → IfOk result (λ found. found ≡ None → (d : Persistent) → S d → ⊥)
none_read (Ok None) see S T gives only = λ none d spells. only d (gives d spells)
none_read (Ok (Some kept)) see S T gives only = λ none. absurd cc
none_read (Err e) see S T gives only = tt

-- ---- what was read

module _ (digest bytes : List ℕ) (version events size : ℕ) (seed : List ℕ) (head : IsStateHead digest bytes version events size seed)
    (text : List ℕ) (is : text ≡ take size (drop (text_place version) bytes)) where
  whole_text : text ≡ text_of bytes
  whole_text = is ∙ ap (λ n. take n (drop (text_place version) bytes)) head.size_is ∙ ap (λ v. take (size_of bytes) (drop (text_place v) bytes)) head.version_is

  -- the same of the bytes of the disk, and back
  there : (d : Persistent) → SpellsSealed version seed d text → SpellsSealed (version_of bytes) (seed_of bytes) d (text_of bytes)
  there d spells =
      subst (λ v. SpellsSealed v (seed_of bytes) d (text_of bytes)) head.version_is
      (subst (λ s. SpellsSealed version s d (text_of bytes)) head.seeded (subst (SpellsSealed version seed d) whole_text spells))

  back : (d : Persistent) → SpellsSealed (version_of bytes) (seed_of bytes) d (text_of bytes) → SpellsSealed version seed d text
  back d spells =
      subst (SpellsSealed version seed d) (sym whole_text)
      (subst (λ s. SpellsSealed version s d (text_of bytes)) (sym head.seeded)
      (subst (λ v. SpellsSealed v (seed_of bytes) d (text_of bytes)) (sym head.version_is) spells))

  pub kept_is : (d : Persistent) → SpellsSealed version seed d text → IsKeptState digest bytes d events (text_place version + size)
  kept_is d spells = record {
    known = subst IsKnown head.version_is head.known;
    same = head.same;
    events_are = head.events_are;
    few = head.few;
    counts = head.counts;
    spells = there d spells;
    behind = ap (λ n. text_place version + n) head.size_is ∙ ap (λ v. text_place v + size_of bytes) head.version_is;
    gate = head.inside;
  }

  pub none_is : ((d : Persistent) → SpellsSealed version seed d text → ⊥) → IsKnown (version_of bytes) × (digest_of bytes ≡ digest) × DamagedAt bytes 65
  none_is none =
      let few = head.few in
      let inside = head.inside in
      let events_are = head.events_are in
      let size_is = head.size_is in (
        subst IsKnown head.version_is head.known,
        head.same,
        inr (inr (
          refl,
          omega arith,
          subst (λ v. text_place v + size_of bytes < length bytes) head.version_is (subst (λ n. text_place version + n < length bytes) head.size_is inside),
          λ d spells. none d (back d spells),
        )),
      )
