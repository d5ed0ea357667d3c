-- What is said of a journal on two disks is said of its two files.
use Rattle.std.proofs.Common.{◌≡◌, inl, inr, ℕ, ◌+◌, ◌<◌, ◌++◌, List, [], ◌∷◌, Some, unwrap_or, refl, sym, ap, subst, ◌∙◌, append_assoc, append-nil, arith}
use Rattle.boss_model.specs.Catalogue.{Catalogue, actuators}
use Rattle.boss_disk.specs.declared.disk.Disk as disk
use Rattle.boss_disk.specs.Legs.{Two, stand}
use Rattle.boss_disk.specs.Story.{Story}
use Rattle.boss_disk.specs.Window.{IsImage, Window, settled}
use Rattle.boss_files.specs.declared.files.Files as files
use Rattle.boss_files.specs.Files.{windows}
use Rattle.boss_model.specs.declared.state.Actuator.{Actuator}
use Rattle.boss_model.specs.State.{State}
use Rattle.def_history.specs.declared.entry.Entry.{Entry}
use Rattle.boss_outside.specs.Counts.{Joins, Rose}
use Rattle.boss_outside.specs.declared.actuators.Actuators as actuators_of
use Rattle.boss_outside.specs.declared.sink.Sink as sink
use Rattle.boss_outside.specs.declared.source.Source as source
use Rattle.boss_opening.specs.Checks.{ChecksPair}
use Rattle.boss_opening.specs.Opens.{digest_of, OpenedAt, OpenRefuses, WhileLooked}
use Rattle.boss_opening.specs.UnderWay.{MayComeTo}
use Rattle.def_disk_pair.specs.Pairs.{OpensCleanly}
use Rattle.boss_disk_pair.specs.Images.{OpensToOne}
use Rattle.boss_files.specs.Names.{second_name}
use Rattle.boss_pair_find.specs.Two.{MightLeave}
use Rattle.boss_jobs.specs.Crashes.{WhileMoved, WhileOpened, WhileRun}
use Rattle.boss_jobs.proofs.Carrying.{Quietly, both_later, later, legs-later, shut, shut-quietly, steps-later, steps-quietly, then-quiet}
use Rattle.boss_jobs.specs.Journals.{Beside, ChecksOver, file_story, FoundJournal, HadNoJournal, HoldsAfter, in_files, on_disks, Pair, RanJournal, RefusedJournal, RunsOver, StillStands}

-- something said of two lists is said of the same two
pub same-two : (P : List ℕ → List ℕ → Type 0) (a b c d : List ℕ) → (a ≡ c) × (b ≡ d) → P a b → P c d
same-two P a b c d same it = subst (λ x. P x d) same.0 (subst (λ x. P a x) same.1 it)

-- Two disks moved while the others, or a journal's two files, were told the same of behind what was told before. Then they were given
-- back, if they were opened for that alone.
pub record Carries (first_was first_now was now : Two) : Type 0 where
  pub before : List Window
  pub other : List Window
  pub begins : was ≡ both_later before other first_was
  pub ends : Quietly (both_later before other first_now) now

-- they are the same
pub same-carries : (first_was first_now was : Two) → was ≡ first_was → Carries first_was first_now was first_now
same-carries first_was first_now was same = record { before = []; other = []; begins = same; ends = stand first_now (λ _ is. is, λ _ is. is) }

-- The one pair is the other, at both moments, as far as the second tells, and its count moves as that of the first does.
pub record Follows (was now first_was first_now : Pair) : Type 0 where
  pub tells : was.tells → first_was.tells
  pub lasts : was.tells → was.lasts → first_was.lasts
  pub began : was.tells → (first_was.first ≡ was.first) × (first_was.second ≡ was.second)
  pub left : was.tells → (first_now.first ≡ now.first) × (first_now.second ≡ now.second)
  pub rose : Rose first_was.faults first_now.faults → Rose was.faults now.faults
  pub stood : first_now.faults ≡ first_was.faults → now.faults ≡ was.faults
  pub whole : was.tells → now.whole → first_now.whole
  pub carries : was.tells → now.whole → Carries first_was.stories first_now.stories was.stories now.stories

-- ---- what a crash may leave meanwhile

pub looked-carried : (first_was first_now was now : Two) → Carries first_was first_now was now → WhileLooked first_was first_now → WhileLooked was now
looked-carried first_was first_now was now carries looked =
    subst (λ from. WhileLooked from now) (sym carries.begins)
    (then-quiet (MightLeave first_was.first.window first_was.second.window) (both_later carries.before carries.other first_was) (both_later carries.before carries.other first_now) now
    (legs-later carries.before carries.other looked) carries.ends)

module _ (plant : List Actuator) (digest : List ℕ) (first second first' second' : List ℕ) (same : (first' ≡ first) × (second' ≡ second)) where
  opening-later : (before other : List Window) (from to : Two) → WhileOpened plant digest first' second' from to →
      WhileOpened plant digest first second (both_later before other from) (both_later before other to)
  opening-later before other from to opening d count clean =
      let then = opening d count (same-two (OpensCleanly plant digest d count) first second first' second' (sym same.0, sym same.1) clean) in
      (then.0, same-two (MayComeTo plant digest d count then.0) first' second' first second same then.1, legs-later before other then.2)

  opening-carried : (first_was first_now was now : Two) → Carries first_was first_now was now → WhileOpened plant digest first' second' first_was first_now →
      WhileOpened plant digest first second was now
  opening-carried first_was first_now was now carries opening =
      subst (λ from. WhileOpened plant digest first second from now) (sym carries.begins)
      (λ d count clean.
      let then = opening-later carries.before carries.other first_was first_now opening d count clean in
      (then.0, then.1, then-quiet _ (both_later carries.before carries.other first_was) (both_later carries.before carries.other first_now) now then.2 carries.ends))

  pub run-carried : (s : State) (made : List Entry) (first_was first_now was now : Two) → Carries first_was first_now was now →
      WhileRun plant digest first' second' first_was s made first_now → WhileRun plant digest first second was s made now
  run-carried s made first_was first_now was now carries ran =
      let opened : Two = both_later carries.before carries.other ran.opened in
      record {
        opened = opened;
        opening =
            subst (λ from. WhileOpened plant digest first second from opened) (sym carries.begins)
            (opening-later carries.before carries.other first_was ran.opened ran.opening);
        stands = ran.stands;
        steps =
            steps-quietly plant digest s opened (both_later carries.before carries.other first_now) now made
            (steps-later plant digest carries.before carries.other s ran.opened made first_now ran.steps) ran.stands carries.ends;
      }

  pub moved-carried : (P : List ℕ → List ℕ → Type 0) (first_was first_now was now : Two) → Carries first_was first_now was now →
      WhileMoved plant digest first' second' first_was P first_now → WhileMoved plant digest first second was P now
  moved-carried P first_was first_now was now carries moved =
      let opened : Two = both_later carries.before carries.other moved.opened in
      record {
        opened = opened;
        opening =
            subst (λ from. WhileOpened plant digest first second from opened) (sym carries.begins)
            (opening-later carries.before carries.other first_was moved.opened moved.opening);
        moves = then-quiet P opened (both_later carries.before carries.other first_now) now (legs-later carries.before carries.other moved.moves) carries.ends;
      }

module _ (was now was' now' : Pair) (so : Follows was now was' now') where
  pub none-so : {X : Type 0} (old new : X) (status : ℕ) → HadNoJournal was' now' old new status → HadNoJournal was now old new status
  none-so old new status it = record {
    why = elim it.why [ inl fault ↦ inl (fault.0, so.rose fault.1) | inr lack ↦ inr (lack.0, so.stood lack.1) ];
    untouched = it.untouched;
  }

  pub stands-so : (catalogue : Catalogue) → was.tells → StillStands catalogue was' now' → StillStands catalogue was now
  stands-so catalogue told it =
      let plant = actuators catalogue in
      let digest = digest_of catalogue in
      let began = so.began told in
      record {
        stands = λ d count clean.
            let then = it.stands d count (same-two (OpensCleanly plant digest d count) was.first was.second was'.first was'.second (sym began.0, sym began.1) clean) in (
              then.0,
              same-two (MayComeTo plant digest d count then.0) was'.first was'.second was.first was.second began then.1,
              same-two (OpensToOne plant digest d then.0) now'.first now'.second now.first now.second (so.left told) then.2,
            );
        meanwhile = λ whole.
            opening-carried plant digest was.first was.second was'.first was'.second began was'.stories now'.stories was.stories now.stories (so.carries told whole)
            (it.meanwhile (so.whole told whole));
      }

  pub holds-so : (was'.tells → (now'.first ≡ was'.first) × (now'.second ≡ was'.second)) → was.tells → (now.first ≡ was.first) × (now.second ≡ was.second)
  holds-so it told =
      let held : (now'.first ≡ was'.first) × (now'.second ≡ was'.second) = it (so.tells told) in
      let began : (was'.first ≡ was.first) × (was'.second ≡ was.second) = so.began told in
      let left : (now'.first ≡ now.first) × (now'.second ≡ now.second) = so.left told in
      (sym left.0 ∙ held.0 ∙ began.0, sym left.1 ∙ held.1 ∙ began.1)

  pub looked-so : (was'.tells → now'.whole → WhileLooked was'.stories now'.stories) → was.tells → now.whole → WhileLooked was.stories now.stories
  looked-so it told whole = looked-carried was'.stories now'.stories was.stories now.stories (so.carries told whole) (it (so.tells told) (so.whole told whole))

  module _ {K : Type 0} (k : sink.Ghosts K) (catalogue : Catalogue) (old new : K) (status : ℕ) where
    pub refused-so : RefusedJournal k catalogue was' now' old new status → RefusedJournal k catalogue was now old new status
    refused-so it = record {
      refusal = it.refusal;
      of_bytes = it.of_bytes;
      refuses = λ told. same-two (λ a b. OpenRefuses (actuators catalogue) (digest_of catalogue) a b it.refusal) _ _ _ _ (so.began told) (it.refuses (so.tells told));
      tells = it.tells;
      holds = holds-so it.holds;
      faults = so.stood it.faults;
      images = looked-so it.images;
    }

    found-so : FoundJournal k catalogue was' now' old new status → FoundJournal k catalogue was now old new status
    found-so it = record {
      checked = it.checked;
      stands = λ told. same-two (λ a b. ChecksPair (actuators catalogue) (digest_of catalogue) a b it.checked) _ _ _ _ (so.began told) (it.stands (so.tells told));
      tells = it.tells;
      faults = so.stood it.faults;
    }

    pub checks-so : ChecksOver k catalogue was' now' old new status → ChecksOver k catalogue was now old new status
    checks-so it = record {
      did = elim it.did [ inl none ↦ inl (none-so old new status none) | inr (inl refused) ↦ inr (inl (refused-so refused)) | inr (inr found) ↦ inr (inr (found-so found)) ];
      holds = holds-so it.holds;
      images = looked-so it.images;
    }

  module _ {S K A : Type 0} (s : source.Ghosts S) (k : sink.Ghosts K) (a : actuators_of.Ghosts A) (catalogue : Catalogue) (old new : Beside S K A) (status : ℕ) where
    ran-so : RanJournal s k a catalogue was' now' old new status → RanJournal s k a catalogue was now old new status
    ran-so it = record {
      state = it.state;
      number = it.number;
      opened = λ told. same-two (λ a b. OpenedAt (actuators catalogue) (digest_of catalogue) a b it.state it.number) _ _ _ _ (so.began told) (it.opened (so.tells told));
      made = it.made;
      legal = it.legal;
      end = it.end;
      told = it.told;
      ended = it.ended;
      broke = it.broke;
      read_fault = it.read_fault;
      write_fault = it.write_fault;
      disk_fault = λ broken. so.rose (it.disk_fault broken);
      no_disk_fault = λ whole. so.stood (it.no_disk_fault whole);
      holds = λ told. same-two (HoldsAfter catalogue it.state it.number it.made) _ _ _ _ (so.left told) (it.holds (so.tells told));
      images = λ told whole.
          run-carried (actuators catalogue) (digest_of catalogue) was.first was.second was'.first was'.second (so.began told) it.state it.made
          was'.stories now'.stories was.stories now.stories (so.carries told whole) (it.images (so.tells told) (so.whole told whole));
    }

    pub runs-so : RunsOver s k a catalogue was' now' old new status → RunsOver s k a catalogue was now old new status
    runs-so it = elim it [
      | inl none ↦ inl (none-so old new status none.0, λ told lasts. stands-so catalogue told (none.1 (so.tells told) (so.lasts told lasts)))
      | inr (inl refused) ↦ inr (inl (refused-so k catalogue old.sink new.sink status refused.0, refused.1, refused.2))
      | inr (inr ran) ↦ inr (inr (ran-so ran))
    ]

-- ---- files and their stores

-- a store that was opened, behind what was told before
began : (before : List Window) (story : Story) (reads bytes : List ℕ) → story.past ≡ [] → story.window ≡ settled reads → reads ≡ bytes →
    record { past = before; window = settled bytes } ≡ later before story
began before story reads bytes none window same = λ i. record {
  past = (sym (append-nil before) ∙ ap (λ past. before ++ past) (sym none)) i;
  window = (ap settled (sym same) ∙ sym window) i;
}

-- one that was given back
shut-as : (before : List Window) (story : Story) (reads : List ℕ) (past : List Window) (bytes : List ℕ) → past ≡ before ++ windows story → bytes ≡ reads →
    shut (later before story) reads ≡ record { past = past; window = settled bytes }
shut-as before story reads past bytes gained same = λ i. record {
  past = (append_assoc before story.past (story.window ∷ []) ∙ sym gained) i;
  window = settled (sym same i);
}

module _ {F D : Type 0} (f : files.Ghosts F D) (d : disk.Ghosts D) (journal : List ℕ) where
  -- the stores of a journal that were opened and given back
  pub stores-follow : (old mid new : F) (second last : List ℕ) (stores back : D × D) → second ≡ second_name journal → last ≡ second_name journal → (f.tells → d.tells) →
      (f.tells → d.reads stores.0 ≡ unwrap_or (f.holds old journal) []) → (f.tells → d.reads stores.1 ≡ unwrap_or (f.holds old second) []) →
      (f.tells → ((d.story stores.0).window ≡ settled (d.reads stores.0)) × ((d.story stores.1).window ≡ settled (d.reads stores.1))) →
      (f.tells → ((d.story stores.0).past ≡ []) × ((d.story stores.1).past ≡ [])) → ((disk : D) → d.tells → IsImage (d.story disk).window (d.reads disk)) →
      (f.tells → (file : List ℕ) → f.past mid file ≡ f.past old file) →
      (f.tells → f.whole new → f.whole mid × (f.past new journal ≡ f.past mid journal ++ windows (d.story back.0)) × (f.past new last ≡ f.past mid last ++ windows (d.story back.1))) →
      (d.faults stores.0 ≡ 0) × (d.faults stores.1 ≡ 0) → (f.tells → f.holds new journal ≡ Some (d.reads back.0)) → (f.tells → f.holds new last ≡ Some (d.reads back.1)) →
      f.faults mid ≡ f.faults old → Joins (f.faults mid) (d.faults back.0 + d.faults back.1) (f.faults new) →
      Follows (in_files f journal old) (in_files f journal new) (on_disks d stores) (on_disks d back)
  stores-follow old mid new second last stores back named named' told first other lasts begin stay stays gains fresh closed closed' same joins = record {
    tells = told;
    lasts = λ tells _. lasts tells;
    began = λ tells. (first tells, other tells ∙ ap (λ n. unwrap_or (f.holds old n) []) named);
    left = λ tells. (
      sym (ap (λ h. unwrap_or h []) (closed tells)),
      sym (ap (λ n. unwrap_or (f.holds new n) []) (sym named') ∙ ap (λ h. unwrap_or h []) (closed' tells)),
    );
    rose = λ rose.
        let none : d.faults stores.0 + d.faults stores.1 ≡ 0 = omega (arith, fresh.0, fresh.1) in
        let some : 0 < d.faults back.0 + d.faults back.1 = omega (arith, none, rose) in
        subst (λ n. Rose n (f.faults new)) same (joins.failed some);
    stood = λ stood.
        let none : d.faults back.0 + d.faults back.1 ≡ 0 = omega (arith, fresh.0, fresh.1, stood) in
        joins.fine none ∙ same;
    whole = λ tells whole. tt;
    carries = λ tells whole.
        let gained = gains tells whole in
        let one : f.past new journal ≡ f.past old journal ++ windows (d.story back.0) = gained.1 ∙ ap (λ past. past ++ windows (d.story back.0)) (stays tells journal) in
        let two : f.past new (second_name journal) ≡ f.past old (second_name journal) ++ windows (d.story back.1) =
        ap (f.past new) (sym named') ∙ gained.2 ∙ ap (λ n. f.past mid n ++ windows (d.story back.1)) named' ∙ ap (λ past. past ++ windows (d.story back.1)) (stays tells (second_name journal)) in
        record {
          before = f.past old journal;
          other = f.past old (second_name journal);
          begins = λ i. record {
            first = began (f.past old journal) (d.story stores.0) (d.reads stores.0) _ (begin tells).0 (lasts tells).0 (first tells) i;
            second = began (f.past old (second_name journal)) (d.story stores.1) (d.reads stores.1) _ (begin tells).1 (lasts tells).1 (other tells ∙ ap (λ n. unwrap_or (f.holds old n) []) named) i;
          };
          ends =
              subst (Quietly (both_later (f.past old journal) (f.past old (second_name journal)) (record { first = d.story back.0; second = d.story back.1 })))
              (λ i. record {
                first = shut-as (f.past old journal) (d.story back.0) (d.reads back.0) (f.past new journal) (unwrap_or (f.holds new journal) []) one (ap (λ h. unwrap_or h []) (closed tells)) i;
                second = shut-as (f.past old (second_name journal)) (d.story back.1) (d.reads back.1) (f.past new (second_name journal)) (unwrap_or (f.holds new (second_name journal)) []) two
                    (ap (λ n. unwrap_or (f.holds new n) []) (sym named') ∙ ap (λ h. unwrap_or h []) (closed' tells)) i;
              })
              (shut-quietly (both_later (f.past old journal) (f.past old (second_name journal)) (record { first = d.story back.0; second = d.story back.1 })) (d.reads back.0) (d.reads back.1)
              (stay back.0 (told tells)) (stay back.1 (told tells)));
        };
  }

module _ {F D : Type 0} (f : files.Ghosts F D) (journal : List ℕ) where
  -- files that hold the same, and have failed as often, before a job
  pub later-follow : (old mid new : F) → (f.tells → (file : List ℕ) → f.holds mid file ≡ f.holds old file) → (f.tells → (file : List ℕ) → f.past mid file ≡ f.past old file) →
      f.faults mid ≡ f.faults old →
      Follows (in_files f journal old) (in_files f journal new) (in_files f journal mid) (in_files f journal new)
  later-follow old mid new stays past same = record {
    tells = λ tells. tells;
    lasts = λ _ lasts. lasts;
    began = λ tells. (ap (λ h. unwrap_or h []) (stays tells journal), ap (λ h. unwrap_or h []) (stays tells (second_name journal)));
    left = λ tells. (refl, refl);
    rose = λ rose. subst (λ n. Rose n (f.faults new)) same rose;
    stood = λ stood. stood ∙ same;
    whole = λ _ whole. whole;
    carries = λ tells _.
        same-carries (in_files f journal mid).stories (in_files f journal new).stories (in_files f journal old).stories
        (λ i. record { first = file-as tells journal i; second = file-as tells (second_name journal) i });
  }
    where
      file-as : f.tells → (file : List ℕ) → file_story f file old ≡ file_story f file mid
      file-as tells file = λ i. record { past = sym (past tells file) i; window = settled (unwrap_or (sym (stays tells file) i) []) }
