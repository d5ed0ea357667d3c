-- What making a journal leaves: in each of its steps bytes that are new.
use Rattle.std.proofs.Common.{◌≡◌, ℕ, ◌+◌, ◌≤◌, max, inl, inr, List, [], ◌∷◌, ◌++◌, length, drop, get_or, refl, sym, ap, ◌∙◌, append-nil, length-append, arith}
use Rattle.std.specs.Prelude.{Result}
use Rattle.std.proofs.lemmas.List.{drop_all}
use Rattle.boss_disk.specs.Runs.{Since, WritesThrough}
use Rattle.boss_disk.specs.Story.{Story}
use Rattle.boss_disk.specs.Window.{Window, IsImage, settled, after_write, overwritten}
use Rattle.boss_disk.proofs.Runs.{write_leaves}
use Rattle.boss_disk.proofs.Torn.{write_behind, write_over, overwritten_behind, overwritten_parts}
use Rattle.def_log.specs.Versions.{newest_version}
use Rattle.boss_journal.specs.Fronts.{journal_front, fresh_rest, IsFresh, IsBegun, IsNew}
use Rattle.boss_journal.specs.Opens.{IsBare, Opens}
use Rattle.boss_journal.specs.Places.{IsAtRest}
use Rattle.boss_journal.proofs.Frames.{lone}

-- how long an image of a torn write is
torn_length : (at count : ℕ) (window : Window) (held bytes : List ℕ) → window ≡ settled held → IsImage (after_write at count window) bytes
    → length bytes ≤ max (length held) (at + count)
torn_length at count window held bytes synced torn =
    let within : length bytes ≤ max window.most (at + count) = torn.within in
    let most : window.most ≡ length held = ap (λ (w : Window). w.most) synced in
    omega arith

-- ---- the first byte is written as 0

first_written : (held : List ℕ) → length held ≤ 1 → overwritten 0 (0 ∷ []) held ≡ 0 ∷ []
first_written held short = ap (λ l. 0 ∷ l) (drop_all 1 held short)

pub begun_first : (held now : List ℕ) → length held ≤ 1 → now ≡ overwritten 0 (0 ∷ []) held → IsBegun now
begun_first held now short over =
    let all : now ≡ 0 ∷ [] = over ∙ first_written held short in
    record { rest = []; is = all; short = omega (arith, ap length all) }

pub first_images : {T E : Type 0} (digest held : List ℕ) (old new : Story) (result : Result T E) → length held ≤ 1 → old.window ≡ settled held
    → WritesThrough 0 (0 ∷ []) held old new result → Since (IsNew digest) old new
first_images digest held old new result short synced run =
    write_leaves (IsNew digest) 0 (0 ∷ []) held old new result run
    (λ image torn. let few = torn_length 0 1 old.window held image synced torn in inl (omega arith))
    (inl (omega (arith, ap length (first_written held short))))

-- ---- the rest of the head is written

head_over : (version : ℕ) (digest rest held : List ℕ) → length digest ≡ 32 → held ≡ 0 ∷ rest → length held ≤ 42
    → overwritten 1 (fresh_rest version digest) held ≡ 0 ∷ fresh_rest version digest
head_over version digest rest held size is short =
    let long : length (digest ++ 0 ∷ []) ≡ length digest + 1 = length-append digest (0 ∷ []) in
    let few : length held ≡ length (0 ∷ rest) = ap length is in
    let none : drop (length (fresh_rest version digest)) rest ≡ [] = drop_all (length (fresh_rest version digest)) rest (omega arith) in
    overwritten_behind (0 ∷ []) rest held (fresh_rest version digest) 1 is refl
    ∙ ap (λ l. 0 ∷ (fresh_rest version digest ++ l)) none
    ∙ ap (λ l. 0 ∷ l) (append-nil (fresh_rest version digest))

pub head_images : {T E : Type 0} (digest held : List ℕ) (old new : Story) (result : Result T E) → length digest ≡ 32 → IsBegun held
    → old.window ≡ settled held → WritesThrough 1 (fresh_rest newest_version digest) held old new result → Since (IsNew digest) old new
head_images digest held old new result size begun synced run =
    let long : length (digest ++ 0 ∷ []) ≡ length digest + 1 = length-append digest (0 ∷ []) in
    let short = begun.short in
    write_leaves (IsNew digest) 1 (fresh_rest newest_version digest) held old new result run
    (λ image torn.
    let found = write_behind (0 ∷ []) begun.rest held 1 (length (fresh_rest newest_version digest)) old.window image synced begun.is refl torn in
    let few = torn_length 1 (length (fresh_rest newest_version digest)) old.window held image synced torn in
    inr (inl (record { rest = found.0; is = found.1; short = omega arith })))
    (inr (inr (newest_version, record { known = (omega arith, omega arith); first = 0; is = head_over newest_version digest begun.rest held size begun.is short })))

pub head_fresh : (digest held now : List ℕ) → length digest ≡ 32 → IsBegun held → now ≡ overwritten 1 (fresh_rest newest_version digest) held → IsFresh newest_version digest now
head_fresh digest held now size begun over =
    record { known = (omega arith, omega arith); first = 0; is = over ∙ head_over newest_version digest begun.rest held size begun.is begun.short }

-- a disk that was written through is settled
pub settled_now : (window : Window) (written now : List ℕ) → window ≡ settled written → now ≡ written → window ≡ settled now
settled_now window written now synced is = synced ∙ ap settled (sym is)

-- ---- the first byte is written as the mark's

pub mark_images : {T E : Type 0} (version : ℕ) (digest held : List ℕ) (old new : Story) (result : Result T E) → IsFresh version digest held
    → old.window ≡ settled held → WritesThrough 0 (66 ∷ []) held old new result → Since (IsNew digest) old new
mark_images version digest held old new result fresh synced run =
    write_leaves (IsNew digest) 0 (66 ∷ []) held old new result run
    (λ image torn.
    let found = write_over [] (fresh.first ∷ []) (fresh_rest version digest) held 0 1 old.window image synced fresh.is refl refl torn in
    let one = lone found.0 found.2 in
    inr (inr (version, record { known = fresh.known; first = one.0; is = found.1 ∙ ap (λ l. l ++ fresh_rest version digest) one.1 })))
    (inr (inr (
      version,
      record {
        known = fresh.known;
        first = 66;
        is = overwritten_parts [] (fresh.first ∷ []) (fresh_rest version digest) held (66 ∷ []) 0 fresh.is refl refl;
      },
    )))

pub marked : (version : ℕ) (digest held now : List ℕ) (window : Window) → IsFresh version digest held → now ≡ overwritten 0 (66 ∷ []) held
    → window ≡ settled (overwritten 0 (66 ∷ []) held) → IsBare version digest now window
marked version digest held now window fresh over synced = record {
  is = over ∙ overwritten_parts [] (fresh.first ∷ []) (fresh_rest version digest) held (66 ∷ []) 0 fresh.is refl refl;
  synced = synced ∙ ap settled (sym over);
}

-- ---- what is opened then

pub bare_rests : (version : ℕ) (digest bytes : List ℕ) (window : Window) → length digest ≡ 32 → IsBare version digest bytes window
    → IsAtRest (journal_front version digest) [] 41 bytes window
bare_rests version digest bytes window size bare = record {
  tail = [];
  is = bare.is;
  here = sym (ap length (append-nil (journal_front version digest)) ∙ omega arith);
  each = tt;
  synced = bare.synced;
}

-- the version of a fresh journal stands in byte 8
same_version : (v w : ℕ) (digest bytes : List ℕ) → IsFresh v digest bytes → IsFresh w digest bytes → v ≡ w
same_version v w digest bytes one other =
    let eighth : get_or (one.first ∷ fresh_rest v digest) 8 0 ≡ get_or (other.first ∷ fresh_rest w digest) 8 0 = ap (λ l. get_or l 8 0) (sym one.is ∙ other.is) in
    eighth

-- of bytes that had no version
pub made_newest : (digest old bytes : List ℕ) (window : Window) → length digest ≡ 32 → IsNew digest old → ((v : ℕ) → IsFresh v digest old → ⊥)
    → IsBare newest_version digest bytes window → Opens digest old newest_version 41 bytes window
made_newest digest old bytes window size new none bare =
    inr (record {
      new = new;
      kept = λ v fresh. absurd (none v fresh);
      newest = λ _. refl;
      rests = bare_rests newest_version digest bytes window size bare;
      bare = bare;
    })

-- of bytes that had one
pub made_kept : (version : ℕ) (digest old bytes : List ℕ) (window : Window) → length digest ≡ 32 → IsFresh version digest old
    → IsBare version digest bytes window → Opens digest old version 41 bytes window
made_kept version digest old bytes window size fresh bare =
    inr (record {
      new = inr (inr (version, fresh));
      kept = λ v other. same_version version v digest old fresh other;
      newest = λ none. absurd (none version fresh);
      rests = bare_rests version digest bytes window size bare;
      bare = bare;
    })
