use Rattle.std.proofs.Common.{◌≡◌, ℕ, ◌+◌, ◌<◌, ◌≤◌, min, max, ◌⊎◌, inl, inr, ⊎_elim, List, [], ◌∷◌, length, map, take, get_or, Option, Some, None, sym, ◌∙◌, refl, length-take, arith}
use Rattle.std.specs.List.{fold}
use Rattle.std.proofs.lemmas.Bool.{cases_lt}
use Rattle.std.proofs.lemmas.List.{length-map, get_or-map, get_or-take}
use Rattle.boss_disk.specs.Crash.{Change, wrote, cut_to, least, greatest, Untouched, MayRemain, changed}
use Rattle.boss_disk.specs.Window.{Window, IsImage, settled, after_write, after_cut}
use Rattle.boss_disk.specs.Marks.{mark, length-written, mark-written_in, mark-written_out, agrees_from, agrees_length, agrees_at}
use Rattle.boss_disk.specs.Window.{written}
use Rattle.boss_disk.specs.Images.{named_inside}

least_now : (size : ℕ) (changes : List Change) → least size changes ≤ size
least_now size [] = omega arith
least_now size (change ∷ changes) = omega arith

greatest_now : (size : ℕ) (changes : List Change) → size ≤ greatest size changes
greatest_now size [] = omega arith
greatest_now size (change ∷ changes) = omega arith

-- there is a mark for each byte below the least length
marks_along : (window : Window) (size : ℕ) (changes : List Change) → length window.stays ≤ size
    → length (fold changed window changes).stays ≡ min (length window.stays) (least size changes)
marks_along window size [] short = omega arith
marks_along window size (wrote at count ∷ changes) short =
    let same : length (written at count window.stays) ≡ length window.stays = length-written at count window.stays in
    let rest = marks_along (after_write at count window) (max size (at + count)) changes (omega arith) in
    rest ∙ omega arith
marks_along window size (cut_to less ∷ changes) short =
    let same : length (take less window.stays) ≡ min less (length window.stays) = length-take less window.stays in
    let rest = marks_along (after_cut less window) (min size less) changes (omega arith) in
    let now = least_now (min size less) changes in
    rest ∙ omega arith

-- the greatest length
most_along : (window : Window) (size : ℕ) (changes : List Change) → size ≤ window.most
    → (fold changed window changes).most ≡ max window.most (greatest size changes)
most_along window size [] within = omega arith
most_along window size (wrote at count ∷ changes) within =
    let rest = most_along (after_write at count window) (max size (at + count)) changes (omega arith) in
    let now = greatest_now (max size (at + count)) changes in
    rest ∙ omega arith
most_along window size (cut_to less ∷ changes) within =
    let rest = most_along (after_cut less window) (min size less) changes (omega arith) in
    rest ∙ omega arith

-- a byte that was not touched keeps its mark
untouched_along : (window : Window) (changes : List Change) (place : ℕ) → Untouched place changes
    → place < length (fold changed window changes).stays → mark (fold changed window changes).stays place ≡ mark window.stays place
untouched_along window [] place free inside = refl
untouched_along window (wrote at count ∷ changes) place free inside =
    untouched_along (after_write at count window) changes place free.1 inside ∙ mark-written_out at count window.stays place free.0
untouched_along window (cut_to less ∷ changes) place free inside =
    let shorter = marks_along (after_cut less window) (length (take less window.stays)) changes (omega arith) in
    let low : place < less = omega (arith, length-take less window.stays) in
    untouched_along (after_cut less window) changes place free inside ∙ get_or-take less window.stays place None low

-- a mark that names a byte lies outside of what was written
named_out : (at count : ℕ) (marks : List (Option ℕ)) (place kept : ℕ) → mark (written at count marks) place ≡ Some kept
    → (place < at) ⊎ (at + count ≤ place)
named_out at count marks place kept is =
    ⊎_elim (λ low. inl low)
    (λ from.
    ⊎_elim (λ to. let none = mark-written_in at count marks place from to in cc) (λ high. inr high) (cases_lt place (at + count)))
    (cases_lt place at)

-- a mark that names a byte is one that was not touched
named_along : (window : Window) (changes : List Change) (place kept : ℕ) → mark (fold changed window changes).stays place ≡ Some kept
    → Untouched place changes × (mark window.stays place ≡ Some kept)
named_along window [] place kept is = (tt, is)
named_along window (wrote at count ∷ changes) place kept is =
    let rest = named_along (after_write at count window) changes place kept is in
    let side = named_out at count window.stays place kept rest.1 in
    ((side, rest.0), sym (mark-written_out at count window.stays place side) ∙ rest.1)
named_along window (cut_to less ∷ changes) place kept is =
    let rest = named_along (after_cut less window) changes place kept is in
    let inside : place < length (take less window.stays) = named_inside (take less window.stays) place kept rest.1 in
    let low : place < less = omega (arith, length-take less window.stays) in
    (rest.0, sym (get_or-take less window.stays place None low) ∙ rest.1)

-- the marks of bytes that all stay
mark_itself : (bytes : List ℕ) (place : ℕ) → place < length bytes → mark (map Some bytes) place ≡ Some (get_or bytes place 0)
mark_itself bytes place inside = let some : ℕ → Option ℕ = λ b. Some b in get_or-map some bytes place 0 None inside

least_marks : (synced : List ℕ) (changes : List Change) → length (fold changed (settled synced) changes).stays ≡ least (length synced) changes
least_marks synced changes =
    let all : length (map Some synced) ≡ length synced = length-map synced Some in
    let now = least_now (length synced) changes in
    marks_along (settled synced) (length synced) changes (omega arith) ∙ omega arith

greatest_most : (synced : List ℕ) (changes : List Change) → (fold changed (settled synced) changes).most ≡ greatest (length synced) changes
greatest_most synced changes =
    let now = greatest_now (length synced) changes in
    most_along (settled synced) (length synced) changes (omega arith) ∙ omega arith

-- an image is what the model lets remain
pub remains : (synced : List ℕ) (changes : List Change) (bytes : List ℕ) → IsImage (fold changed (settled synced) changes) bytes
    → MayRemain synced changes bytes
remains synced changes bytes image =
    let marks = least_marks synced changes in
    let most = greatest_most synced changes in
    let long = agrees_length (fold changed (settled synced) changes).stays bytes image.stays in
    let within = image.within in
    record {
      not_shorter = omega arith;
      not_longer = omega arith;
      others_stay = λ place low free.
          let inside : place < length (fold changed (settled synced) changes).stays = omega arith in
          let there : place < length synced = omega (arith, least_now (length synced) changes) in
          agrees_at (fold changed (settled synced) changes).stays bytes image.stays place (get_or synced place 0)
          (untouched_along (settled synced) changes place free inside ∙ mark_itself synced place there);
    }

-- what the model lets remain is an image
pub is_image : (synced : List ℕ) (changes : List Change) (bytes : List ℕ) → MayRemain synced changes bytes
    → IsImage (fold changed (settled synced) changes) bytes
is_image synced changes bytes may =
    let marks = least_marks synced changes in
    let most = greatest_most synced changes in
    let long = may.not_shorter in
    let short = may.not_longer in
    record {
      stays =
          agrees_from (fold changed (settled synced) changes).stays bytes (omega arith)
          (λ place kept is.
          let inside : place < length (fold changed (settled synced) changes).stays =
          named_inside (fold changed (settled synced) changes).stays place kept is in
          let named = named_along (settled synced) changes place kept is in
          let low : place < least (length synced) changes = omega arith in
          let there : place < length synced = omega (arith, least_now (length synced) changes) in
          let some : Some (get_or synced place 0) ≡ Some kept = sym (mark_itself synced place there) ∙ named.1 in
          may.others_stay place low named.0 ∙ cc);
      within = omega arith;
    }
