-- Source: own.
-- Lemmas: what a disk in memory reads, and what its last sync left, are among what a crash may leave.

use Rattle.std.proofs.Common.{◌≡◌, ℕ, ◌+◌, ◌-◌, ◌≤◌, ◌<◌, min, max, List, [], ◌∷◌, ◌++◌, length, get_or, map, take, drop, Option, Some, None, ◌⊎◌, inl, inr, ⊎_elim, sym, ◌∙◌, ap, refl, length-append, length-take, length-drop, arith}
use Rattle.std.specs.List.{fold}
use Rattle.std.proofs.lemmas.Bool.{cases_lt}
use Rattle.std.proofs.lemmas.List.{get_or_append_left, get_or-append_right, get_or-take, get_or-drop, get_or_past, length-take-le}
use Rattle.boss_disk.specs.declared.memory.DiskCall.{DiskCall}
use Rattle.boss_disk.specs.declared.memory.DiskCall.TheVariants.{Write, Cut, Sync, WriteWhole}
use Rattle.boss_disk.specs.Record.{DiskState, fresh, after}
use Rattle.boss_disk.specs.Window.{Window, Agrees, IsImage, settled, after_write, after_cut, overwritten}
use Rattle.boss_disk.specs.Marks.{mark, agrees_from, agrees_length, agrees_at, length-written, mark-written_in, mark-written_out}
use Rattle.boss_disk.specs.Window.{written}

-- a settled disk may leave its bytes
agrees_itself : (bytes : List ℕ) → Agrees (map Some bytes) bytes
agrees_itself [] = tt
agrees_itself (byte ∷ bytes) = (refl, agrees_itself bytes)

pub settled_holds : (bytes : List ℕ) → IsImage (settled bytes) bytes
settled_holds bytes = record { stays = agrees_itself bytes; within = omega arith }

-- a mark that names a byte is not past the end
pub named_inside : (marks : List (Option ℕ)) (place kept : ℕ) → mark marks place ≡ Some kept → place < length marks
named_inside marks place kept is =
    ⊎_elim (λ inside. inside) (λ past. let none = get_or_past marks place None past in cc) (cases_lt place (length marks))

kept_outside : (at count : ℕ) (window : Window) (old new : List ℕ) → IsImage window old
    → ((place : ℕ) → place < length window.stays → (place < at) ⊎ (at + count ≤ place) → get_or new place 0 ≡ get_or old place 0)
    → (place kept : ℕ) → mark (written at count window.stays) place ≡ Some kept → (place < at) ⊎ (at + count ≤ place)
    → get_or new place 0 ≡ kept
kept_outside at count window old new image same place kept is side =
    let named : mark window.stays place ≡ Some kept = sym (mark-written_out at count window.stays place side) ∙ is in
    same place (named_inside window.stays place kept named) side ∙ agrees_at window.stays old image.stays place kept named

write_at_place : (at count : ℕ) (window : Window) (old new : List ℕ) → IsImage window old
    → ((place : ℕ) → place < length window.stays → (place < at) ⊎ (at + count ≤ place) → get_or new place 0 ≡ get_or old place 0)
    → (place kept : ℕ) → mark (written at count window.stays) place ≡ Some kept → get_or new place 0 ≡ kept
write_at_place at count window old new image same place kept is =
    ⊎_elim
    (λ low. kept_outside at count window old new image same place kept is (inl low))
    (λ from.
    ⊎_elim
    (λ to. let none = mark-written_in at count window.stays place from to in cc)
    (λ high. kept_outside at count window old new image same place kept is (inr high))
    (cases_lt place (at + count)))
    (cases_lt place at)

-- bytes that were changed in the written range alone are an image after the write
pub write_holds : (at count : ℕ) (window : Window) (old new : List ℕ) → IsImage window old
    → length window.stays ≤ length new → length new ≤ max window.most (at + count)
    → ((place : ℕ) → place < length window.stays → (place < at) ⊎ (at + count ≤ place) → get_or new place 0 ≡ get_or old place 0)
    → IsImage (after_write at count window) new
write_holds at count window old new image long short same = record {
  stays = agrees_from (written at count window.stays) new (omega (arith, length-written at count window.stays)) (write_at_place at count window old new image same);
  within = short;
}

cut_at_place : (size : ℕ) (window : Window) (old new : List ℕ) → IsImage window old
    → ((place : ℕ) → place < size → get_or new place 0 ≡ get_or old place 0)
    → (place kept : ℕ) → mark (take size window.stays) place ≡ Some kept → get_or new place 0 ≡ kept
cut_at_place size window old new image same place kept is =
    let inside : place < length (take size window.stays) = named_inside (take size window.stays) place kept is in
    let low : place < size = omega (arith, length-take size window.stays) in
    same place low ∙ agrees_at window.stays old image.stays place kept (sym (get_or-take size window.stays place None low) ∙ is)

-- a write that comes to nothing leaves an image
pub torn_holds : (at count : ℕ) (window : Window) (bytes : List ℕ) → IsImage window bytes → IsImage (after_write at count window) bytes
torn_holds at count window bytes image =
    let within = image.within in
    write_holds at count window bytes bytes image (agrees_length window.stays bytes image.stays) (omega arith) (λ place inside side. refl)

-- after a cut an image is one of the longer bytes, or a front of it
pub cut_holds : (size : ℕ) (window : Window) (old new : List ℕ) → IsImage window old
    → min size (length window.stays) ≤ length new → length new ≤ length old
    → ((place : ℕ) → place < size → get_or new place 0 ≡ get_or old place 0) → IsImage (after_cut size window) new
cut_holds size window old new image long short same =
    let size_is = length-take size window.stays in
    let within = image.within in
    record {
      stays = agrees_from (take size window.stays) new (omega arith) (cut_at_place size window old new image same);
      within = omega arith;
    }

byte_before : (at : ℕ) (bytes old : List ℕ) (place : ℕ) → place < length old → place < at
    → get_or (overwritten at bytes old) place 0 ≡ get_or old place 0
byte_before at bytes old place inside low =
    let front : place < length (take at old) = omega (arith, length-take at old) in
    let longer : place < length (take at old ++ bytes) = omega (arith, length-append (take at old) bytes) in
    get_or_append_left (take at old ++ bytes) (drop (at + length bytes) old) 0 place longer
    ∙ get_or_append_left (take at old) bytes 0 place front
    ∙ get_or-take at old place 0 low

byte_behind : (at : ℕ) (bytes old : List ℕ) (place : ℕ) → place < length old → at + length bytes ≤ place
    → get_or (overwritten at bytes old) place 0 ≡ get_or old place 0
byte_behind at bytes old place inside high =
    let whole : length (take at old) ≡ at = length-take-le at old (omega arith) in
    let front : length (take at old ++ bytes) ≡ at + length bytes = omega (arith, length-append (take at old) bytes) in
    let there : at + length bytes + (place - (at + length bytes)) ≡ place = omega arith in
    get_or-append_right (take at old ++ bytes) (drop (at + length bytes) old) (at + length bytes) place 0 front high
    ∙ get_or-drop (at + length bytes) old (place - (at + length bytes)) 0
    ∙ ap (λ k. get_or old k 0) there

-- a write changes no byte outside its range
pub overwritten_out : (at : ℕ) (bytes old : List ℕ) (place : ℕ) → place < length old → (place < at) ⊎ (at + length bytes ≤ place)
    → get_or (overwritten at bytes old) place 0 ≡ get_or old place 0
overwritten_out at bytes old place inside side = ⊎_elim (byte_before at bytes old place inside) (byte_behind at bytes old place inside) side

pub length-overwritten : (at : ℕ) (bytes old : List ℕ)
    → length (overwritten at bytes old) ≡ min at (length old) + length bytes + (length old - (at + length bytes))
length-overwritten at bytes old =
    let a = length-append (take at old ++ bytes) (drop (at + length bytes) old) in
    let b = length-append (take at old) bytes in
    let c = length-take at old in
    let d = length-drop (at + length bytes) old in
    omega arith

-- the bytes that a disk reads, and those that its last sync left, are images
pub record Holds (state : DiskState) : Type 0 where
  pub bytes : IsImage state.story.window state.bytes
  pub synced : IsImage state.story.window state.synced

pub holds_fresh : (bytes : List ℕ) → Holds (fresh bytes)
holds_fresh bytes = record { bytes = settled_holds bytes; synced = settled_holds bytes }

holds_after : (state : DiskState) (call : DiskCall) → Holds state → Holds (after state call)
holds_after state (Write at bytes) held =
    let window = state.story.window in
    let long = agrees_length state.story.window.stays state.bytes held.bytes.stays in
    let size = length-overwritten at bytes state.bytes in
    let within = held.bytes.within in
    record {
      bytes =
          write_holds at (length bytes) state.story.window state.bytes (overwritten at bytes state.bytes) held.bytes
          (omega arith) (omega arith)
          (λ place inside side. let low : place < length state.bytes = omega arith in overwritten_out at bytes state.bytes place low side);
      synced =
          write_holds at (length bytes) state.story.window state.synced state.synced held.synced
          (agrees_length state.story.window.stays state.synced held.synced.stays) (omega (arith, held.synced.within)) (λ place inside side. refl);
    }
holds_after state (Cut size) held =
    let long = agrees_length state.story.window.stays state.bytes held.bytes.stays in
    let longer = agrees_length state.story.window.stays state.synced held.synced.stays in
    let taken = length-take size state.bytes in
    record {
      bytes =
          cut_holds size state.story.window state.bytes (take size state.bytes) held.bytes (omega arith) (omega arith)
          (λ place low. get_or-take size state.bytes place 0 low);
      synced = cut_holds size state.story.window state.synced state.synced held.synced (omega arith) (omega arith) (λ place low. refl);
    }
holds_after state Sync held = record { bytes = settled_holds state.bytes; synced = settled_holds state.bytes }
holds_after state (WriteWhole at bytes) held = record {
  bytes = settled_holds (overwritten at bytes state.bytes);
  synced = settled_holds (overwritten at bytes state.bytes);
}

pub holds_along : (state : DiskState) (calls : List DiskCall) → Holds state → Holds (fold after state calls)
holds_along state [] held = held
holds_along state (call ∷ calls) held = holds_along (after state call) calls (holds_after state call held)
