-- Two catalogues that were loaded, one after the other, by the answers of each.
use Rattle.std.proofs.Common.{◌≡◌, inl, inr, ℕ, List, [], ◌∷◌, ◌++◌, Ok, Err, refl, sym, ap, subst, ◌∙◌, append_assoc, append-nil}
use Rattle.boss_model.specs.Catalogue.{Catalogue}
use Rattle.boss_files.specs.declared.files.Files as files
use Rattle.boss_jobs.specs.declared.catalogue.Unusable.{Unusable}
use Rattle.boss_jobs.specs.declared.catalogue.Unusable.TheVariants as unusable
use Rattle.boss_jobs.specs.Journals.{AsksFront}
use Rattle.boss_jobs.specs.Loads.{AsksFor, FaultOnly, Loads}
use Rattle.boss_jobs.proofs.KeptLemmas.{more-asked, one-asked}
use Rattle.boss_adopt_jobs.specs.declared.catalogues.Change.{Change}
use Rattle.boss_adopt_jobs.specs.Loads.{AsksBoth, BothCause, LoadsBoth, Spelling}

-- ---- names that were asked for

-- more names may follow
pub front-of : (names more old new : List (List ℕ)) → AsksFront names old new → AsksFront (names ++ more) old new
front-of names more old new asked = (
  asked.0,
  (asked.1.0 ++ more, ap (λ xs. xs ++ more) asked.1.1 ∙ append_assoc asked.0 asked.1.0 more),
  asked.2,
)

-- the second two follow the first two
pub both-asked : (one other : List ℕ) (names old mid new : List (List ℕ)) → mid ≡ old ++ one ∷ other ∷ [] → AsksFront names mid new → AsksFront (one ∷ other ∷ names) old new
both-asked one other names old mid new is asked =
    more-asked one (other ∷ names) old (old ++ one ∷ []) new refl
    (more-asked other names (old ++ one ∷ []) mid new (is ∙ sym (append_assoc old (one ∷ []) (other ∷ []))) asked)

asked-first : (name : List ℕ) (names old new : List (List ℕ)) (why : Unusable) → AsksFor name old new (Err why) → AsksFront (name ∷ names) old new
asked-first name names old new (unusable.Refused refusal) it = one-asked name names old new it
asked-first name names old new unusable.FileFault it = one-asked name names old new it
asked-first name names old new unusable.NoMemory it = elim it [ inl none ↦ ([], (name ∷ names, refl), none ∙ sym (append-nil old)) | inr one ↦ one-asked name names old new one ]

module _ (one other : List ℕ) (old mid new : List (List ℕ)) where
  pub asks-whole : (change : Change) → mid ≡ old ++ one ∷ [] → new ≡ mid ++ other ∷ [] → AsksBoth one other old new (Ok change)
  asks-whole change first second = second ∙ ap (λ xs. xs ++ other ∷ []) first ∙ append_assoc old (one ∷ []) (other ∷ [])

  pub asks-second : (why : Unusable) → mid ≡ old ++ one ∷ [] → AsksFor other mid new (Err why) → AsksFront (one ∷ other ∷ []) old new
  asks-second why first second = more-asked one (other ∷ []) old mid new first (asked-first other [] mid new why second)

pub asks-first : (one other : List ℕ) (old new : List (List ℕ)) (why : Unusable) → AsksFor one old new (Err why) → AsksFront (one ∷ other ∷ []) old new
asks-first one other old new why first = asked-first one (other ∷ []) old new why first

-- ---- what was loaded

module _ {F D : Type 0} (f : files.Ghosts F D) (count : ℕ) (files : F) (old_name new_name : List ℕ) where
  pub first-refused : (why : Unusable) → (f.tells → Loads count (f.holds files old_name) (Err why)) → LoadsBoth f count files old_name new_name (Err why)
  first-refused (unusable.Refused refusal) it = inl it
  first-refused unusable.FileFault it = tt
  first-refused unusable.NoMemory it = tt

  pub second-refused : (old : Catalogue) (why : Unusable) → Spelling f count files old_name (Ok old) → (f.tells → Loads count (f.holds files new_name) (Err why)) →
      LoadsBoth f count files old_name new_name (Err why)
  second-refused old (unusable.Refused refusal) first it = inr (old, first, it)
  second-refused old unusable.FileFault first it = tt
  second-refused old unusable.NoMemory first it = tt

-- ---- counts

pub cause-first : (before now : ℕ) (why : Unusable) → FaultOnly before now (Err why) → BothCause before now (Err why)
cause-first before now (unusable.Refused refusal) it = it
cause-first before now unusable.FileFault it = it
cause-first before now unusable.NoMemory it = it

pub cause-second : (before mid now : ℕ) (why : Unusable) → mid ≡ before → FaultOnly mid now (Err why) → BothCause before now (Err why)
cause-second before mid now why same it = cause-first before now why (subst (λ n. FaultOnly n now (Err why)) same it)
