use Rattle.std.proofs.Common.{◌≡◌, ℕ, ◌+◌, ◌≤◌, List, [], ◌++◌, length, map, take, drop, Some, sym, ◌∙◌, ap, subst, append-nil, arith}
use Rattle.std.proofs.lemmas.List.{length-map, map-append, take_all, drop_all, take_at}
use Rattle.boss_disk.specs.Fronts.{KeepsFront}
use Rattle.boss_disk.specs.Window.{Window, Agrees, IsImage, settled, forgotten, after_write, after_cut}
use Rattle.boss_disk.proofs.Torn.{agrees_front}

-- a settled disk that is cut keeps what is left
pub front_cut : (front rest : List ℕ) (size : ℕ) → size ≡ length front → KeepsFront front (after_cut size (settled (front ++ rest)))
front_cut front rest size here = record {
  only =
      ap (take size) (map-append Some front rest)
      ∙ take_at (map Some front) (map Some rest) size (length-map front Some ∙ sym here);
}

no_marks : (count : ℕ) → forgotten (take count []) ≡ []
no_marks count = let none : take count [] ≡ [] = take_all count [] (omega arith) in ap forgotten none

-- a write behind the front leaves it
pub front_written : (front : List ℕ) (at count : ℕ) (window : Window) → KeepsFront front window → length front ≤ at
    → KeepsFront front (after_write at count window)
front_written front at count window keeps behind =
    let size : length window.stays ≡ length front = ap length keeps.only ∙ length-map front Some in
    let head : take at window.stays ≡ window.stays = take_all at window.stays (omega arith) in
    let none : drop at window.stays ≡ [] = drop_all at window.stays (omega arith) in
    let far : drop (at + count) window.stays ≡ [] = drop_all (at + count) window.stays (omega arith) in
    let blank : forgotten (take count (drop at window.stays)) ≡ [] = ap (λ marks. forgotten (take count marks)) none ∙ no_marks count in
    record {
      only =
          ap (λ marks. marks ++ forgotten (take count (drop at window.stays)) ++ drop (at + count) window.stays) head
          ∙ ap (λ marks. window.stays ++ marks ++ drop (at + count) window.stays) blank
          ∙ ap (λ marks. window.stays ++ [] ++ marks) far
          ∙ append-nil (window.stays ++ []) ∙ append-nil window.stays ∙ keeps.only;
    }

-- each image begins with it
pub front_image : (front : List ℕ) (window : Window) → KeepsFront front window → (bytes : List ℕ) → IsImage window bytes
    → (rest : List ℕ) × (bytes ≡ front ++ rest)
front_image front window keeps bytes image =
    let fits : Agrees (map Some front ++ []) bytes = subst (λ marks. Agrees marks bytes) (keeps.only ∙ sym (append-nil (map Some front))) image.stays in
    let found = agrees_front front [] bytes fits in
    (found.0, found.1)
