-- Jobs over a journal, by how they ended.
use Rattle.std.proofs.Common.{arith, ◌≡◌, ◌≢◌, ◌⊎◌, inl, inr, Bool, true, false, if◌then◌else◌, ℕ, ◌≤◌, List, [], ◌∷◌, ◌++◌, length, refl, sym, ap, subst, ◌∙◌, append_assoc, append-nil, Some, Ok, Err, Result, IfOk}
use Rattle.boss_model.specs.Catalogue.{Catalogue}
use Rattle.boss_model.specs.Limits.{most_lines}
use Rattle.boss_model.specs.Lines.{lines}
use Rattle.boss_lines.specs.declared.reader.Next.{Next}
use Rattle.boss_lines.specs.declared.reader.Next.TheVariants.{Line, Finish, TooLong, ReadFault}
use Rattle.boss_outside.specs.Counts.{Rose}
use Rattle.boss_outside.specs.declared.actuators.Actuators as actuators_of
use Rattle.boss_files.specs.declared.files.Files as files
use Rattle.boss_outside.specs.declared.sink.Sink as sink
use Rattle.boss_outside.specs.declared.source.Source as source
use Rattle.boss_points.specs.declared.CatalogueRefusal.{CatalogueRefusal}
use Rattle.boss_pair_find.specs.declared.refusal.DurableRefusal.{DurableRefusal}
use Rattle.def_history.specs.History.{is_broken}
use Rattle.boss_scripts.specs.declared.broken.Broken.{Broken}
use Rattle.boss_scripts.specs.declared.broken.Broken.TheVariants.{WriteFault, NoMemory}
use Rattle.boss_scripts.specs.Causes.{ReadCause, WriteCause}
use Rattle.boss_scripts.specs.Ends.{EndsOver, has_too_long}
use Rattle.boss_scripts.specs.Outside.{Outside}
use Rattle.boss_scripts.specs.Scripts.{RanScript}
use Rattle.boss_files.specs.Names.{second_name}
use Rattle.boss_jobs.specs.Checks.{CheckedKept, ChecksJournal, ChecksMemory, KeepsFiles, ToldNew}
use Rattle.boss_jobs.specs.Ends.{status_of}
use Rattle.boss_jobs.specs.Jobs.{HadNoCatalogue, RefusedCatalogue, TellsLine, World}
use Rattle.boss_jobs.specs.Journals.{AsksFront, Beside, ChecksOver, HadNoJournal, in_files, IsRefused, outside_of, Pair, RanJournal, RunsOver}
use Rattle.boss_jobs.specs.KeptScripts.{DoesKeptScript, RanKept}
use Rattle.boss_jobs.specs.Programs.{usable}

-- ---- names that were asked for

pub one-asked : (name : List ℕ) (names old new : List (List ℕ)) → new ≡ old ++ name ∷ [] → AsksFront (name ∷ names) old new
one-asked name names old new is = (name ∷ [], (names, refl), is)

pub more-asked : (name : List ℕ) (names old mid new : List (List ℕ)) → mid ≡ old ++ name ∷ [] → AsksFront names mid new → AsksFront (name ∷ names) old new
more-asked name names old mid new is asked = (
  name ∷ asked.0,
  (asked.1.0, ap (λ xs. name ∷ xs) asked.1.1),
  asked.2 ∙ ap (λ xs. xs ++ asked.0) is ∙ append_assoc old (name ∷ []) asked.0,
)

pub none-asked : (names old : List (List ℕ)) → AsksFront names old old
none-asked names old = ([], (names, refl), sym (append-nil old))

pub front-asked : (first second : List ℕ) (old new : List (List ℕ)) → (new ≡ old) ⊎ (new ≡ old ++ first ∷ []) ⊎ (new ≡ old ++ first ∷ second ∷ []) → AsksFront (first ∷ second ∷ []) old new
front-asked first second old new it = elim it [
  | inl none ↦ ([], (first ∷ second ∷ [], refl), none ∙ sym (append-nil old))
  | inr (inl one) ↦ (first ∷ [], (second ∷ [], refl), one)
  | inr (inr both) ↦ (first ∷ second ∷ [], ([], refl), both)
]

-- ---- statuses

wrong : {P : Type 0} → true ≡ false → P
wrong e = absurd cc

-- where nothing failed, no line is too long and the lines are not too many
completes-over : (Ran : List (List ℕ) → Bool → Type 0) (old new : Outside) (end : Result Next Broken) → IfOk end (EndsOver Ran old new) →
    ReadCause old.read_faults new.read_faults end → WriteCause old.write_faults new.write_faults end →
    ¬ Rose old.read_faults new.read_faults → ¬ Rose old.write_faults new.write_faults → has_too_long (lines old.left) ≡ false → length (lines old.left) ≤ most_lines →
    (status_of end ≡ 0) ⊎ (status_of end ≡ 8)
completes-over Ran old new (Ok Finish) ends read write fine fine' short few = inl refl
completes-over Ran old new (Ok ReadFault) ends read write fine fine' short few = absurd (fine read)
completes-over Ran old new (Ok TooLong) ends read write fine fine' short few = wrong (sym ends.3 ∙ short)
completes-over Ran old new (Ok Line) ends read write fine fine' short few = absurd (omega (arith, ends.2, few))
completes-over Ran old new (Err WriteFault) ends read write fine fine' short few = absurd (fine' write)
completes-over Ran old new (Err NoMemory) ends read write fine fine' short few = inr refl

-- a line that was told where no write failed
pub told-fine : {K : Type 0} (k : sink.Ghosts K) (line : List ℕ) (old new : K) (status : ℕ) → ¬ Rose (k.faults old) (k.faults new) → TellsLine k line 0 old new status → (status ≡ 0) ⊎ (status ≡ 8)
told-fine k line old new status fine tells = elim tells [ inl said ↦ inl said.0 | inr (inl failed) ↦ absurd (fine failed.2) | inr (inr lack) ↦ inr lack.0 ]

pub none-fine : {X : Type 0} (was now : Pair) (old new : X) (status : ℕ) → HadNoJournal was now old new status → ¬ Rose was.faults now.faults → (status ≡ 0) ⊎ (status ≡ 8)
none-fine was now old new status none fine = elim none.why [ inl fault ↦ absurd (fine fault.1) | inr lack ↦ inr lack.0 ]

module _ {F D S K A : Type 0} (f : files.Ghosts F D) (s : source.Ghosts S) (k : sink.Ghosts K) (a : actuators_of.Ghosts A) (old new : World F S K A) (status : ℕ) where
  pub no-catalogue-fine : HadNoCatalogue f s k a old new status → ¬ Rose (f.faults old.files) (f.faults new.files) → (status ≡ 0) ⊎ (status ≡ 8)
  no-catalogue-fine none fine = elim none.why [ inl fault ↦ absurd (fine fault.1) | inr lack ↦ inr lack.0 ]

  some-same : {X : Type 0} {x y : X} → Some x ≡ Some y → x ≡ y
  some-same e = cc

  ok-same : {X Y : Type 0} (a : Result X Y) (x y : X) → a ≡ Ok x → a ≡ Ok y → x ≡ y
  ok-same a x y e f = cc

  refused-used : {P : Type 0} (x : Result Catalogue CatalogueRefusal) (r : CatalogueRefusal) (c : Catalogue) → x ≡ Err r → x ≡ Ok c → P
  refused-used x r c refused used = absurd cc

  module _ (name : List ℕ) (count : ℕ) where
    -- a catalogue that can be used is not refused
    pub not-refused : {P : Type 0} (catalogue : Catalogue) (file : List ℕ) → f.tells → f.holds old.files name ≡ Some file → usable count file ≡ Ok catalogue → RefusedCatalogue f s k a name count old new status → P
    not-refused catalogue file tells holds used refused =
        let spelt = refused.spells tells in
        let same : spelt.0 ≡ file = some-same (sym spelt.1 ∙ holds) in
        refused-used (usable count spelt.0) refused.refusal catalogue spelt.2 (ap (usable count) same ∙ used)

    -- the file spells one catalogue
    pub one-catalogue : (catalogue other : Catalogue) (file : List ℕ) → f.holds old.files name ≡ Some file → usable count file ≡ Ok catalogue →
        (spelt : (file : List ℕ) × (f.holds old.files name ≡ Some file) × (usable count file ≡ Ok other)) → other ≡ catalogue
    one-catalogue catalogue other file holds used spelt =
        let same : spelt.0 ≡ file = some-same (sym spelt.1 ∙ holds) in
        ok-same (usable count file) other catalogue (ap (usable count) (sym same) ∙ spelt.2) used

    module _ (journal : List ℕ) where
      -- ---- a script

      ran-fine : (catalogue : Catalogue) (was now : Pair) (first last : Beside S K A) → RunsOver s k a catalogue was now first last status →
          was.tells → ((refusal : DurableRefusal) → IsRefused catalogue was refusal → ⊥) → s.tells → ¬ Rose was.faults now.faults → ¬ Rose (s.faults first.source) (s.faults last.source) → ¬ Rose (k.faults first.sink) (k.faults last.sink) →
          has_too_long (lines (s.left first.source)) ≡ false → length (lines (s.left first.source)) ≤ most_lines → (status ≡ 0) ⊎ (status ≡ 8)
      ran-fine catalogue was now first last it told opens left fine fine' fine'' short few = elim it [
        | inl none ↦ none-fine was now first last status none.0 fine
        | inr (inl refused) ↦ absurd (opens refused.0.refusal (refused.0.of_bytes, refused.0.refuses told))
        | inr (inr ran) ↦ by-broken ran (is_broken ran.made) refl
      ]
        where
          by-broken : (ran : RanJournal s k a catalogue was now first last status) (b : Bool) → is_broken ran.made ≡ b → (status ≡ 0) ⊎ (status ≡ 8)
          by-broken ran true e = absurd (fine (ran.disk_fault e))
          by-broken ran false e =
              let is : status ≡ status_of ran.end = ran.told ∙ ap (λ b. if b then 5 else status_of ran.end) e in
              subst (λ n. (n ≡ 0) ⊎ (n ≡ 8)) (sym is) (completes-over (λ all is_over. RanScript catalogue ran.state all is_over ran.made (outside_of s k a first) (outside_of s k a last)) (outside_of s k a first) (outside_of s k a last) ran.end (ran.ended left) ran.read_fault ran.write_fault fine' fine'' short few)

      pub does-kept : HadNoCatalogue f s k a old new status ⊎ RefusedCatalogue f s k a name count old new status ⊎ RanKept f s k a name journal count old new status →
          (f.tells → AsksFront (name ∷ journal ∷ second_name journal ∷ []) (f.asked old.files) (f.asked new.files)) →
          (f.tells → (file : List ℕ) → file ≢ journal → file ≢ second_name journal → f.holds new.files file ≡ f.holds old.files file) → DoesKeptScript f s k a name journal count old new status
      does-kept did asks others = record {
        did = did;
        asks = asks;
        others = others;
        complete = λ catalogue file tells holds used opens left fine fine' fine'' short few. elim did [
          | inl none ↦ no-catalogue-fine none fine
          | inr (inl refused) ↦ not-refused catalogue file tells holds used refused
          | inr (inr ran) ↦
              let same : ran.catalogue ≡ catalogue = one-catalogue catalogue ran.catalogue file holds used (ran.spells tells) in
              ran-fine ran.catalogue _ _ _ _ ran.runs tells
              (λ refusal refused. opens refusal (subst (λ c. IsRefused c (in_files f journal old.files) refusal) same refused)) left fine fine' fine'' short few
        ];
      }

      -- ---- a check

      check-fine : (catalogue : Catalogue) (was now : Pair) → ChecksOver k catalogue was now old.sink new.sink status → was.tells → ((refusal : DurableRefusal) → IsRefused catalogue was refusal → ⊥) →
          ¬ Rose was.faults now.faults → ¬ Rose (k.faults old.sink) (k.faults new.sink) → (status ≡ 0) ⊎ (status ≡ 8)
      check-fine catalogue was now it told opens fine fine' = elim it.did [
        | inl none ↦ none-fine was now old.sink new.sink status none fine
        | inr (inl refused) ↦ absurd (opens refused.refusal (refused.of_bytes, refused.refuses told))
        | inr (inr found) ↦ told-fine k _ _ _ status fine' found.tells
      ]

      pub checks-kept : HadNoCatalogue f s k a old new status ⊎ RefusedCatalogue f s k a name count old new status ⊎ CheckedKept f s k a name journal count old new status →
          KeepsFiles f old.files new.files → new.source ≡ old.source → new.devices ≡ old.devices →
          (f.tells → AsksFront (name ∷ journal ∷ second_name journal ∷ []) (f.asked old.files) (f.asked new.files)) → ChecksJournal f s k a name journal count old new status
      checks-kept did keeps source devices asks = record {
        did = did;
        keeps = keeps;
        source = source;
        devices = devices;
        asks = asks;
        complete = λ catalogue file tells holds used opens fine fine'. elim did [
          | inl none ↦ no-catalogue-fine none fine
          | inr (inl refused) ↦ not-refused catalogue file tells holds used refused
          | inr (inr found) ↦
              let same : found.catalogue ≡ catalogue = one-catalogue catalogue found.catalogue file holds used (found.spells tells) in
              check-fine found.catalogue _ _ found.checks tells
              (λ refusal refused. opens refusal (subst (λ c. IsRefused c (in_files f journal old.files) refusal) same refused)) fine fine'
        ];
      }

    pub checks-memory : HadNoCatalogue f s k a old new status ⊎ RefusedCatalogue f s k a name count old new status ⊎ ToldNew f s k a name count old new status →
        KeepsFiles f old.files new.files → new.source ≡ old.source → new.devices ≡ old.devices →
        (f.tells → AsksFront (name ∷ []) (f.asked old.files) (f.asked new.files)) → ChecksMemory f s k a name count old new status
    checks-memory did keeps source devices asks = record {
      did = did;
      keeps = keeps;
      source = source;
      devices = devices;
      asks = asks;
      complete = λ catalogue file tells holds used fine fine'. elim did [
        | inl none ↦ no-catalogue-fine none fine
        | inr (inl refused) ↦ not-refused catalogue file tells holds used refused
        | inr (inr told) ↦ told-fine k _ _ _ status fine' told.tells
      ];
    }
