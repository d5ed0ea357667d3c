-- What a journal stands for is still there, where none was opened.
use Rattle.std.proofs.Common.{◌≡◌, ◌≢◌, inl, inr, ℕ, List, [], ◌∷◌, unwrap_or, Result, Err, refl, sym, subst, ◌∙◌, append-nil}
use Rattle.std.proofs.lemmas.List.Elements.{All-push, All-nil}
use Rattle.boss_model.specs.Catalogue.{Catalogue, actuators}
use Rattle.boss_model.specs.State.{Persistent}
use Rattle.boss_disk.specs.declared.disk.Disk as disk
use Rattle.boss_disk.specs.Legs.{Two, stand, first_moves}
use Rattle.boss_disk.specs.Story.{Story}
use Rattle.boss_disk.specs.Window.{IsImage, Window, settled}
use Rattle.boss_disk.proofs.Legs.{legs_last}
use Rattle.boss_disk.proofs.Torn.{synced_image}
use Rattle.boss_files.specs.declared.files.FileFault.{FileFault}
use Rattle.boss_files.specs.declared.files.FileFault.TheVariants.{Failed, NoMemory}
use Rattle.boss_files.specs.declared.files.Files as files
use Rattle.boss_files.specs.Files.{FileCause}
use Rattle.boss_files.specs.Stores.{MayBeTried}
use Rattle.boss_opening.specs.Opens.{digest_of, Meanwhile}
use Rattle.boss_opening.specs.UnderWay.{MayComeTo}
use Rattle.boss_outside.specs.Counts.{Rose}
use Rattle.def_disk_pair.specs.Pairs.{OpensCleanly}
use Rattle.boss_files.specs.Names.{second_name}
use Rattle.boss_disk_pair.specs.Images.{OpensToOne}
use Rattle.boss_pair_find.specs.Two.{two}
use Rattle.boss_jobs.specs.Journals.{file_story, in_files, on_disks, Pair, StillStands}
use Rattle.boss_jobs.proofs.Carrying.{Quietly, Within, quiet-legs}
use Rattle.boss_jobs.proofs.Lifting.{same-two}

-- the pair holds what it held, and meanwhile a crash left nothing else
pub same-stands : (catalogue : Catalogue) (was now : Pair) → (now.first ≡ was.first) × (now.second ≡ was.second) → (now.whole → Quietly was.stories now.stories) → StillStands catalogue was now
same-stands catalogue was now same quiet = record {
  stands = λ d count clean.
      (d, inl refl, same-two (OpensToOne (actuators catalogue) (digest_of catalogue) d d) was.first was.second now.first now.second (sym same.0, sym same.1) (inl (count, clean)));
  meanwhile = λ whole d count clean. (d, inl refl, quiet-legs _ was.stories now.stories (quiet whole) (λ a b one other. inl (one, other)));
}

pub nothing-stands : (catalogue : Catalogue) (pair : Pair) → StillStands catalogue pair pair
nothing-stands catalogue pair = same-stands catalogue pair pair (refl, refl) (λ _. stand pair.stories (λ _ is. is, λ _ is. is))

-- ---- files of which no store, or that of the first alone, was opened

opened-file : (past now : List Window) (bytes bytes' : List ℕ) (still : Story) → bytes' ≡ bytes → MayBeTried bytes past now →
    Quietly (two (record { past = past; window = settled bytes }) still) (two (record { past = now; window = settled bytes' }) still)
opened-file past now bytes bytes' still same opened =
    let from : Two = two (record { past = past; window = settled bytes }) still in
    let to : Two = two (record { past = now; window = settled bytes' }) still in
    let Q : Window → Type 0 = λ window. Within window (settled bytes) × Within still.window still.window in
    let within : Within (settled bytes') (settled bytes) = subst (λ b. Within (settled b) (settled bytes)) (sym same) (λ _ is. is) in
    first_moves from to.first to
    (elim opened [
      | inl none ↦ record { more = []; goes_on = none ∙ sym (append-nil past); each = All-nil Q; last = (within, λ _ is. is) }
      | inr one ↦ record { more = settled bytes ∷ []; goes_on = one; each = All-push Q [] (settled bytes) (All-nil Q) (λ _ is. is, λ _ is. is); last = (within, λ _ is. is) }
    ])
    (stand to (within, λ _ is. is))

-- no file changes, but that an empty one may stand where there was none
pub files-quiet : {F D : Type 0} (f : files.Ghosts F D) (journal : List ℕ) (old new : F) (second : List ℕ) → second ≡ second_name journal → second ≢ journal →
    (f.tells → (file : List ℕ) → unwrap_or (f.holds new file) [] ≡ unwrap_or (f.holds old file) []) →
    (f.tells → f.whole new → f.whole old × MayBeTried (unwrap_or (f.holds old journal) []) (f.past old journal) (f.past new journal)) →
    (f.tells → (file : List ℕ) → file ≢ journal → f.past new file ≡ f.past old file) →
    f.tells → f.whole new → Quietly (in_files f journal old).stories (in_files f journal new).stories
files-quiet f journal old new second named apart keeps tried others told whole =
    subst (λ still. Quietly (in_files f journal old).stories (two (file_story f journal new) still))
    (λ i. record {
      past = (sym (others told (second_name journal) (subst (λ n. n ≢ journal) named apart))) i;
      window = settled (sym (keeps told (second_name journal)) i);
    })
    (opened-file (f.past old journal) (f.past new journal) (unwrap_or (f.holds old journal) []) (unwrap_or (f.holds new journal) []) (file_story f (second_name journal) old)
    (keeps told journal) (tried told whole).1)

pub files-stand : {F D : Type 0} (f : files.Ghosts F D) (catalogue : Catalogue) (journal : List ℕ) (old new : F) (second : List ℕ) → second ≡ second_name journal → second ≢ journal →
    (f.tells → (file : List ℕ) → unwrap_or (f.holds new file) [] ≡ unwrap_or (f.holds old file) []) →
    (f.tells → f.whole new → f.whole old × MayBeTried (unwrap_or (f.holds old journal) []) (f.past old journal) (f.past new journal)) →
    (f.tells → (file : List ℕ) → file ≢ journal → f.past new file ≡ f.past old file) →
    f.tells → StillStands catalogue (in_files f journal old) (in_files f journal new)
files-stand f catalogue journal old new second named apart keeps tried others told =
    same-stands catalogue (in_files f journal old) (in_files f journal new) (keeps told journal, keeps told (second_name journal))
    (files-quiet f journal old new second named apart keeps tried others told)

-- disks of which all was synced, behind an opening that failed
pub disks-stand : {D : Type 0} (d : disk.Ghosts D) (catalogue : Catalogue) (first second : D) (back : D × D) → ((disk : D) → d.tells → IsImage (d.story disk).window (d.reads disk)) →
    (d.tells → (p : Persistent) (count : ℕ) → OpensCleanly (actuators catalogue) (digest_of catalogue) p count (d.reads first) (d.reads second) →
    (after : Persistent) × MayComeTo (actuators catalogue) (digest_of catalogue) p count after (d.reads first) (d.reads second)
    × Meanwhile (actuators catalogue) (digest_of catalogue) p after (d.story first) (d.story second) (d.story back.0) (d.story back.1)) →
    d.tells → ((d.story first).window ≡ settled (d.reads first)) × ((d.story second).window ≡ settled (d.reads second)) →
    StillStands catalogue (on_disks d (first, second)) (on_disks d back)
disks-stand d catalogue first second back stay images told lasts = record {
  stands = λ p count clean.
      let it = images told p count clean in
      let last = legs_last it.2 (d.reads back.0) (d.reads back.1) (stay back.0 told) (stay back.1 told) in (
        it.0,
        it.1,
        elim last [
          | inl might ↦
              same-two (OpensToOne (actuators catalogue) (digest_of catalogue) p it.0) (d.reads first) (d.reads second) (d.reads back.0) (d.reads back.1)
              (sym (synced_image (d.story first).window (d.reads first) (d.reads back.0) lasts.0 might.0), sym (synced_image (d.story second).window (d.reads second) (d.reads back.1) lasts.1 might.1))
              (inl (count, clean))
          | inr one ↦ one
        ],
      );
  meanwhile = λ _. images told;
}

-- ---- a call of the files that came to nothing

pub failed-rose : {T : Type 0} (before now : ℕ) (result : Result T FileFault) → result ≡ Err Failed → FileCause before now result → Rose before now
failed-rose before now result is cause = subst (FileCause before now) is cause

pub lacking-stood : {T : Type 0} (before now : ℕ) (result : Result T FileFault) → result ≡ Err NoMemory → FileCause before now result → now ≡ before
lacking-stood before now result is cause = subst (FileCause before now) is cause
