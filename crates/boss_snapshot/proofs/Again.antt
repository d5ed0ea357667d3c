-- What is written of a state is read again, and nothing else is.
use Rattle.std.proofs.Common.{◌≡◌, ◌⊎◌, ℕ, ◌+◌, ◌^◌, ◌<◌, ◌≤◌, true, inl, inr, List, [], ◌∷◌, ◌++◌, length, Option, Some, refl, sym, ap, subst, ◌∙◌, append_assoc, length-append, arith}
use Rattle.std.specs.Int.{w64}
use Rattle.def_bytes.specs.States.{state}
use Rattle.def_bytes.proofs.Spelling.{some-is}
use Rattle.def_bytes.specs.Fields.{number_text}
use Rattle.def_log.specs.declared.kind.DiskKind.TheVariants.{State}
use Rattle.def_log.specs.Kinds.{kind_of, state_mark}
use Rattle.def_log.specs.Versions.{newest_version, IsKnown}
use Rattle.def_seal.specs.Seals.{seed_of}
use Rattle.def_seal.proofs.Seals.{one_record}
use Rattle.boss_model.specs.Limits.{last_number}
use Rattle.boss_model.specs.State.{Persistent}
use Rattle.def_disk_pair.proofs.OfKinds.{state_kind, seeded_front}
use Rattle.def_disk_pair.specs.Fronts.{kept_size, kept_bytes, kept_seed}
use Rattle.boss_snapshot.specs.declared.refusal.SnapshotRefusal.{SnapshotRefusal}
use Rattle.boss_snapshot.specs.declared.refusal.SnapshotRefusal.TheVariants.{Version, Catalogue, Damaged, DiskFault, NoMemory}
use Rattle.boss_snapshot.specs.Fronts.{version_of}
use Rattle.boss_snapshot.specs.Refusals.{IsKeptState, Refuses}
use Rattle.boss_snapshot.specs.Writes.{state_front, state_text}
use Rattle.boss_snapshot.proofs.Fronted.{kept_there, gate_is}
use Rattle.boss_snapshot.proofs.Whole.{read_again}
use Rattle.boss_snapshot.proofs.Writings.{long_word}

module _ (digest bytes : List ℕ) (generation events : ℕ) (d : Persistent) (len : length digest ≡ 32) (is : bytes ≡ state_front 66 digest generation events d ++ 0 ∷ []) where
  pub written_kind : generation < 2 ^ 64 → kind_of bytes ≡ State generation
  unfolding state_text
  written_kind small =
      let text : List ℕ = (state newest_version).text d in
      let seed : List ℕ = kept_seed newest_version digest generation events text in
      let after : List ℕ = number_text w64 events ++ (number_text w64 (kept_size newest_version text) ++ kept_bytes newest_version seed text) in
      let whole : bytes ≡ 66 ∷ (state_mark ++ newest_version ∷ (digest ++ (number_text w64 generation ++ (after ++ 0 ∷ [])))) =
      is ∙ ap (λ t. 66 ∷ (state_mark ++ newest_version ∷ t))
      (append_assoc digest (number_text w64 generation ++ after) (0 ∷ []) ∙ ap (λ t. digest ++ t) (append_assoc (number_text w64 generation) after (0 ∷ []))) in
      ap kind_of whole ∙ state_kind 66 newest_version generation digest (after ++ 0 ∷ []) (λ zero. omega (arith, zero)) len small
      (omega (
        arith,
        length-append after (0 ∷ []),
        length-append (number_text w64 events) (number_text w64 (kept_size newest_version text) ++ kept_bytes newest_version seed text),
        length-append (number_text w64 (kept_size newest_version text)) (kept_bytes newest_version seed text),
        long_word events,
        long_word (kept_size newest_version text),
      ))
      (seeded_front 66 newest_version generation events digest text (0 ∷ []) len)

  module _ (small : generation < 2 ^ 64) (few : events ≤ last_number) (fits : (state 2).fits d ≡ true) where
    pub written_kept : (place : ℕ) → place ≡ length (state_front 66 digest generation events d) → IsKeptState digest bytes d events place
    unfolding state_text
    written_kept place here =
        let known : IsKnown newest_version = (omega arith, omega arith) in
        subst (IsKeptState digest bytes d events)
        (gate_is digest bytes (0 ∷ []) 66 newest_version generation events d len is known small few fits ∙ sym here)
        (kept_there digest bytes (0 ∷ []) 66 newest_version generation events d len is known small few fits (omega arith))

-- ---- one state, and no refusal of it

module _ (digest bytes : List ℕ) (d : Persistent) (events place : ℕ) (kept : IsKeptState digest bytes d events place) where
  pub kept_alone : (other : Persistent) (many gate : ℕ) → IsKeptState digest bytes other many gate → (d ≡ other) × (events ≡ many) × (place ≡ gate)
  kept_alone other many gate next =
      let version : ℕ = version_of bytes in
      let mine : List ℕ = (state version).text d in
      let theirs : List ℕ = (state version).text other in
      let texts : mine ≡ theirs = one_record version 65 (seed_of bytes) mine theirs (sym kept.spells.is ∙ next.spells.is) in
      let states : ◌≡◌ {A = Option (Persistent × List ℕ)} (Some (d, [])) (Some (other, [])) =
      sym (read_again version mine d (record { fits = kept.spells.fits; is = refl })) ∙ read_again version mine other (record { fits = next.spells.fits; is = texts }) in
      (ap (λ (p : Persistent × List ℕ). p.0) (some-is _ _ states), kept.events_are ∙ sym next.events_are, kept.behind ∙ sym next.behind)

  pub kept_taken : (refusal : SnapshotRefusal) → Refuses digest bytes refusal → (refusal ≡ DiskFault) ⊎ (refusal ≡ NoMemory)
  kept_taken (Version found) told = absurd (told.1 (subst IsKnown (sym told.0) kept.known))
  kept_taken (Catalogue was found) told = absurd (told.3 (told.1 ∙ kept.same))
  kept_taken (Damaged at) (known, same, inl why) = let events_are = kept.events_are in let few = kept.few in absurd (omega (arith, why.1, events_are, few))
  kept_taken (Damaged at) (known, same, inr (inl why)) = let behind = kept.behind in let gate = kept.gate in absurd (omega (arith, why.2, behind, gate))
  kept_taken (Damaged at) (known, same, inr (inr why)) = absurd (why.3 d kept.spells)
  kept_taken DiskFault told = inl refl
  kept_taken NoMemory told = inr refl
