-- A pair holds one thing, or is refused for one reason.
use Rattle.std.proofs.Common.{◌≡◌, ◌⊎◌, inl, inr, ℕ, List, refl, sym, ap, subst, ◌∙◌, arith}
use Rattle.def_log.specs.InForce.{InForce, Foreign, Neither, First, Second}
use Rattle.def_log.specs.declared.kind.DiskKind.{DiskKind}
use Rattle.def_log.specs.declared.kind.DiskKind.TheVariants.{Plain}
use Rattle.def_log.specs.Kinds.{kind_of, in_force}
use Rattle.boss_model.specs.State.{Persistent}
use Rattle.def_disk_pair.specs.Pairs.{OfThatInForce}
use Rattle.boss_pair_find.specs.declared.refusal.DurableRefusal.{DurableRefusal}
use Rattle.boss_pair_find.specs.declared.refusal.DurableRefusal.TheVariants.{NotAJournal, Version, Catalogue, Damaged, DiskFault, NoMemory}
use Rattle.boss_pair_find.specs.Holds.{OfOneInForce, IsNewPair, IsNoPair, IsPlain, IsPlainPair, IsStatePair}
use Rattle.boss_pair_find.specs.Refusals.{FindRefuses, IsOfBytes}
use Rattle.boss_snapshot.specs.Fronts.{version_of, digest_of}
use Rattle.def_log.specs.Versions.{IsKnown}
use Rattle.boss_snapshot.specs.declared.refusal.SnapshotRefusal.TheVariants as reading
use Rattle.boss_snapshot.specs.Refusals.{IsKeptState, IsState, Refuses, DamagedAt}
use Rattle.boss_snapshot.proofs.Again.{kept_alone, kept_taken}

-- ---- one disk is in force

none_foreign : (P : List ℕ → Type 0) (i : InForce) (first second : List ℕ) → i ≡ Foreign → OfThatInForce P (λ bytes. ⊥) i first second → ⊥
none_foreign P i first second is p = let q : ⊥ = subst (λ j. OfThatInForce P (λ bytes. ⊥) j first second) is p in q

none_neither : (P : List ℕ → Type 0) (i : InForce) (first second : List ℕ) → i ≡ Neither → OfThatInForce P (λ bytes. ⊥) i first second → ⊥
none_neither P i first second is p = let q : ⊥ = subst (λ j. OfThatInForce P (λ bytes. ⊥) j first second) is p in q

both_of : {C : Type 0} (P Q : List ℕ → Type 0) (i : InForce) (first second : List ℕ) → ((bytes : List ℕ) → P bytes → Q bytes → C)
    → OfThatInForce P (λ bytes. ⊥) i first second → OfThatInForce Q (λ bytes. ⊥) i first second → C
both_of P Q Foreign first second gives p q = absurd p
both_of P Q Neither first second gives p q = absurd p
both_of P Q First first second gives p q = gives first p q
both_of P Q Second first second gives p q = gives second p q

not_both : (i : InForce) → i ≡ Foreign → i ≡ Neither → ⊥
not_both i one other = let bad : Foreign ≡ Neither = sym one ∙ other in cc

-- what is said of a disk in force is said of no pair that is refused as no journal
no_pair : (P : List ℕ → Type 0) (first second : List ℕ) → IsNoPair first second → OfOneInForce P first second → ⊥
no_pair P first second (inl foreign) p = none_foreign P (in_force (kind_of first) (kind_of second)) first second foreign p
no_pair P first second (inr none) p = none_neither P (in_force (kind_of first) (kind_of second)) first second none.0 p

new_pair : (P : List ℕ → Type 0) (first second : List ℕ) → IsNewPair first second → OfOneInForce P first second → ⊥
new_pair P first second new p = none_neither P (in_force (kind_of first) (kind_of second)) first second new.0 p

-- ---- a new pair

pub new_refused : (digest first second : List ℕ) (refusal : DurableRefusal) → IsNewPair first second → FindRefuses digest first second refusal → refusal ≡ DiskFault
new_refused digest first second NotAJournal new (inl foreign) = absurd (not_both (in_force (kind_of first) (kind_of second)) foreign new.0)
new_refused digest first second NotAJournal new (inr none) = absurd (none.1 new.1)
new_refused digest first second (Version found) new why = absurd (new_pair (λ bytes. Refuses digest bytes (reading.Version found)) first second new why)
new_refused digest first second (Catalogue kept found) new why = absurd (new_pair (λ bytes. Refuses digest bytes (reading.Catalogue kept found)) first second new why)
new_refused digest first second (Damaged place) new why =
    absurd (new_pair (λ bytes. IsState (kind_of bytes) × Refuses digest bytes (reading.Damaged place)) first second new why)
new_refused digest first second DiskFault new why = refl
new_refused digest first second NoMemory new why = absurd (new_pair (λ bytes. IsState (kind_of bytes)) first second new why)

pub new_not_plain : (digest first second : List ℕ) → IsNewPair first second → IsPlainPair digest first second → ⊥
new_not_plain digest first second new plain = new_pair (IsPlain digest) first second new plain

pub new_not_kept : (digest first second : List ℕ) (d : Persistent) (events place : ℕ) → IsNewPair first second → IsStatePair digest d events place first second → ⊥
new_not_kept digest first second d events place new kept =
    new_pair (λ bytes. IsState (kind_of bytes) × IsKeptState digest bytes d events place) first second new kept

-- ---- one with a disk in force

-- a kind is not both
plain_no_state : (kind : DiskKind) → kind ≡ Plain → IsState kind → ⊥
plain_no_state kind plain state = let bad : ⊥ = subst IsState plain state in bad

no_version : (digest bytes : List ℕ) (found : ℕ) → IsKnown (version_of bytes) → Refuses digest bytes (reading.Version found) → ⊥
no_version digest bytes found known why = why.1 (subst IsKnown (sym why.0) known)

no_catalogue : (digest bytes kept found : List ℕ) → digest_of bytes ≡ digest → Refuses digest bytes (reading.Catalogue kept found) → ⊥
no_catalogue digest bytes kept found same why = why.3 (why.1 ∙ same)

pub plain_refused : (digest first second : List ℕ) (refusal : DurableRefusal) → IsPlainPair digest first second → FindRefuses digest first second refusal → refusal ≡ DiskFault
plain_refused digest first second NotAJournal plain why = absurd (no_pair (IsPlain digest) first second why plain)
plain_refused digest first second (Version found) plain why =
    absurd (both_of (IsPlain digest) (λ bytes. Refuses digest bytes (reading.Version found)) (in_force (kind_of first) (kind_of second)) first second
    (λ bytes is told. no_version digest bytes found is.1 told) plain why)
plain_refused digest first second (Catalogue kept found) plain why =
    absurd (both_of (IsPlain digest) (λ bytes. Refuses digest bytes (reading.Catalogue kept found)) (in_force (kind_of first) (kind_of second)) first second
    (λ bytes is told. no_catalogue digest bytes kept found is.2 told) plain why)
plain_refused digest first second (Damaged place) plain why =
    absurd (both_of (IsPlain digest) (λ bytes. IsState (kind_of bytes) × Refuses digest bytes (reading.Damaged place)) (in_force (kind_of first) (kind_of second)) first second
    (λ bytes is told. plain_no_state (kind_of bytes) is.0 told.0) plain why)
plain_refused digest first second DiskFault plain why = refl
plain_refused digest first second NoMemory plain why =
    absurd (both_of (IsPlain digest) (λ bytes. IsState (kind_of bytes)) (in_force (kind_of first) (kind_of second)) first second
    (λ bytes is told. plain_no_state (kind_of bytes) is.0 told) plain why)

module _ (digest : List ℕ) (d : Persistent) (events place : ℕ) where
  abbrev Kept : List ℕ → Type 0
  Kept bytes = IsState (kind_of bytes) × IsKeptState digest bytes d events place

  no_damage : (bytes : List ℕ) (at : ℕ) → Kept bytes → Refuses digest bytes (reading.Damaged at) → ⊥
  no_damage bytes at is why = never (kept_taken digest bytes d events place is.1 (reading.Damaged at) why)
    where
      never : (reading.Damaged at ≡ reading.DiskFault) ⊎ (reading.Damaged at ≡ reading.NoMemory) → ⊥
      never (inl bad) = cc
      never (inr bad) = cc

  pub kept_refused : (first second : List ℕ) (refusal : DurableRefusal) → IsStatePair digest d events place first second →
      FindRefuses digest first second refusal → (refusal ≡ DiskFault) ⊎ (refusal ≡ NoMemory)
  kept_refused first second NotAJournal kept why = absurd (no_pair Kept first second why kept)
  kept_refused first second (Version found) kept why =
      absurd (both_of Kept (λ bytes. Refuses digest bytes (reading.Version found)) (in_force (kind_of first) (kind_of second)) first second
      (λ bytes is told. no_version digest bytes found is.1.known told) kept why)
  kept_refused first second (Catalogue was found) kept why =
      absurd (both_of Kept (λ bytes. Refuses digest bytes (reading.Catalogue was found)) (in_force (kind_of first) (kind_of second)) first second
      (λ bytes is told. no_catalogue digest bytes was found is.1.same told) kept why)
  kept_refused first second (Damaged at) kept why =
      absurd (both_of Kept (λ bytes. IsState (kind_of bytes) × Refuses digest bytes (reading.Damaged at)) (in_force (kind_of first) (kind_of second)) first second
      (λ bytes is told. no_damage bytes at is told.1) kept why)
  kept_refused first second DiskFault kept why = inl refl
  kept_refused first second NoMemory kept why = inr refl

  pub plain_not_kept : (first second : List ℕ) → IsPlainPair digest first second → IsStatePair digest d events place first second → ⊥
  plain_not_kept first second plain kept = both_of (IsPlain digest) Kept (in_force (kind_of first) (kind_of second)) first second
      (λ bytes is told. plain_no_state (kind_of bytes) is.0 told.0) plain kept

  pub kept_one : (other : Persistent) (many gate : ℕ) (first second : List ℕ) → IsStatePair digest d events place first second →
      IsStatePair digest other many gate first second → (d ≡ other) × (events ≡ many) × (place ≡ gate)
  kept_one other many gate first second one two = both_of Kept (λ bytes. IsState (kind_of bytes) × IsKeptState digest bytes other many gate)
      (in_force (kind_of first) (kind_of second)) first second
      (λ bytes is told. kept_alone digest bytes d events place is.1 other many gate told.1) one two

-- ---- one reason

-- a disk is damaged at one place
one_damage : (bytes : List ℕ) (place other : ℕ) → DamagedAt bytes place → DamagedAt bytes other → place ≡ other
one_damage bytes place other (inl p) (inl q) = p.0 ∙ sym q.0
one_damage bytes place other (inl p) (inr (inl q)) = absurd (omega (arith, p.1, q.1))
one_damage bytes place other (inl p) (inr (inr q)) = absurd (omega (arith, p.1, q.1))
one_damage bytes place other (inr (inl p)) (inl q) = absurd (omega (arith, p.1, q.1))
one_damage bytes place other (inr (inl p)) (inr (inl q)) = p.0 ∙ sym q.0
one_damage bytes place other (inr (inl p)) (inr (inr q)) = absurd (omega (arith, p.2, q.2))
one_damage bytes place other (inr (inr p)) (inl q) = absurd (omega (arith, p.1, q.1))
one_damage bytes place other (inr (inr p)) (inr (inl q)) = absurd (omega (arith, p.2, q.2))
one_damage bytes place other (inr (inr p)) (inr (inr q)) = p.0 ∙ sym q.0

module _ (digest first second : List ℕ) where
  abbrev Told : DurableRefusal → Type 0
  Told refusal = FindRefuses digest first second refusal

  abbrev Of : (List ℕ → Type 0) → Type 0
  Of P = OfOneInForce P first second

  abbrev Versions : ℕ → List ℕ → Type 0
  Versions found bytes = Refuses digest bytes (reading.Version found)

  abbrev Catalogues : List ℕ → List ℕ → List ℕ → Type 0
  Catalogues kept found bytes = Refuses digest bytes (reading.Catalogue kept found)

  abbrev Damages : ℕ → List ℕ → Type 0
  Damages place bytes = IsState (kind_of bytes) × Refuses digest bytes (reading.Damaged place)

  together : {C : Type 0} (P Q : List ℕ → Type 0) → ((bytes : List ℕ) → P bytes → Q bytes → C) → Of P → Of Q → C
  together P Q gives p q = both_of P Q (in_force (kind_of first) (kind_of second)) first second gives p q

  pub one_reason : (refusal other : DurableRefusal) → IsOfBytes refusal → IsOfBytes other → Told refusal → Told other → refusal ≡ other
  one_reason NotAJournal NotAJournal here there p q = refl
  one_reason NotAJournal (Version found) here there p q = absurd (no_pair (Versions found) first second p q)
  one_reason NotAJournal (Catalogue kept found) here there p q = absurd (no_pair (Catalogues kept found) first second p q)
  one_reason NotAJournal (Damaged place) here there p q = absurd (no_pair (Damages place) first second p q)
  one_reason (Version found) NotAJournal here there p q = absurd (no_pair (Versions found) first second q p)
  one_reason (Version found) (Version other) here there p q =
      together (Versions found) (Versions other) (λ bytes one two. ap Version (one.0 ∙ sym two.0)) p q
  one_reason (Version found) (Catalogue kept now) here there p q =
      absurd (together (Versions found) (Catalogues kept now) (λ bytes one two. no_version digest bytes found two.0 one) p q)
  one_reason (Version found) (Damaged place) here there p q =
      absurd (together (Versions found) (Damages place) (λ bytes one two. no_version digest bytes found two.1.0 one) p q)
  one_reason (Catalogue kept now) NotAJournal here there p q = absurd (no_pair (Catalogues kept now) first second q p)
  one_reason (Catalogue kept now) (Version found) here there p q =
      absurd (together (Catalogues kept now) (Versions found) (λ bytes one two. no_version digest bytes found one.0 two) p q)
  one_reason (Catalogue kept now) (Catalogue was found) here there p q =
      together (Catalogues kept now) (Catalogues was found)
      (λ bytes one two. ap (λ k. Catalogue k now) (one.1 ∙ sym two.1) ∙ ap (λ n. Catalogue was n) (one.2 ∙ sym two.2)) p q
  one_reason (Catalogue kept now) (Damaged place) here there p q =
      absurd (together (Catalogues kept now) (Damages place) (λ bytes one two. no_catalogue digest bytes kept now two.1.1 one) p q)
  one_reason (Damaged place) NotAJournal here there p q = absurd (no_pair (Damages place) first second q p)
  one_reason (Damaged place) (Version found) here there p q =
      absurd (together (Damages place) (Versions found) (λ bytes one two. no_version digest bytes found one.1.0 two) p q)
  one_reason (Damaged place) (Catalogue kept now) here there p q =
      absurd (together (Damages place) (Catalogues kept now) (λ bytes one two. no_catalogue digest bytes kept now one.1.1 two) p q)
  one_reason (Damaged place) (Damaged other) here there p q =
      together (Damages place) (Damages other) (λ bytes one two. ap Damaged (one_damage bytes place other one.1.2 two.1.2)) p q
  one_reason DiskFault other here there p q = absurd here
  one_reason NoMemory other here there p q = absurd here
  one_reason NotAJournal DiskFault here there p q = absurd there
  one_reason NotAJournal NoMemory here there p q = absurd there
  one_reason (Version found) DiskFault here there p q = absurd there
  one_reason (Version found) NoMemory here there p q = absurd there
  one_reason (Catalogue kept now) DiskFault here there p q = absurd there
  one_reason (Catalogue kept now) NoMemory here there p q = absurd there
  one_reason (Damaged place) DiskFault here there p q = absurd there
  one_reason (Damaged place) NoMemory here there p q = absurd there
