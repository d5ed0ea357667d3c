use Rattle.std.proofs.Common.{◌≡◌, ◌≢◌, ℕ, Bool, true, false, cond, List, [], ◌∷◌, ◌++◌, length, get_or, set, Option, Some, None, option_map, position, find, bytes_eq, sym, ◌∙◌, ap, refl, arith, ltb, ⊎_elim, append_assoc, append-nil, if◌then◌else◌, ◌⊎◌, inl, inr, subst, IsTrue}
use Rattle.std.specs.List.{position_or_len, slice_get}
use Rattle.std.proofs.lemmas.Bool.{cases_lt, cases_Bool}
use Rattle.std.proofs.lemmas.Bool.Decides.{Decides-ltb}
use Rattle.std.specs.Option.{option_or}
use Rattle.std.proofs.lemmas.List.{ext_get_or}
use Rattle.std.proofs.lemmas.List.Folds.{find_at, find-set, find_past, find-append}
use Rattle.std.proofs.lemmas.List.Quantifiers.{position-Some}
use Rattle.std.proofs.lemmas.List.Sums.{position_or_len_is}
use Rattle.std.proofs.lemmas.Option.{slice_get_past}
use Rattle.std.proofs.lemmas.Slice.Eq.{bytes_eq-Decides}
use Rattle.boss_disk.specs.Images.{holds_along, holds_fresh}
use Rattle.boss_disk.specs.Marks.{agrees_at, mark}
use Rattle.boss_disk.specs.Picked.{IsPicked, picked}
use Rattle.boss_disk.specs.Record.{DiskRecord, DiskState, fresh, state_of}
use Rattle.boss_disk.specs.Window.{IsImage, Window}
use Rattle.boss_files.specs.Files.{windows}
use Rattle.boss_files.specs.Shelf.{bytes_under, past_under, Shelf}

-- names by their bytes
same_name : (a b : List ℕ) → bytes_eq a b ≡ true → a ≡ b
same_name a b is = (bytes_eq-Decides a b).0 is

itself : (a : List ℕ) → bytes_eq a a ≡ true
itself a = (bytes_eq-Decides a a).1 refl

other_name : (a b : List ℕ) → (a ≡ b → ⊥) → bytes_eq a b ≡ false
other_name a b differ = ⊎_elim (λ is. absurd (differ (same_name a b is))) (λ not. not) (cases_Bool (bytes_eq a b))

-- where a first place is found, it is the one of the lookup
first_place : {X : Type 0} (p : X → Bool) (xs : List X) (i : ℕ) (d : X) → position p xs ≡ Some i → position_or_len p xs ≡ i
first_place p xs i d is =
    let found = position-Some p xs i d is in
    position_or_len_is p xs i d (omega (arith, found.0)) found.2 (λ inside. found.1)

-- other bytes put at the first place under a name are found under it
pub put_here : (files : List (List ℕ × List ℕ)) (name bytes : List ℕ) (place : ℕ) (d : List ℕ × List ℕ)
    → position (λ (file : List ℕ × List ℕ). bytes_eq file.0 name) files ≡ Some place
    → bytes_under (set files place ((get_or files place d).0, bytes)) name ≡ Some bytes
put_here files name bytes place d is =
    let found = position-Some (λ (file : List ℕ × List ℕ). bytes_eq file.0 name) files place d is in
    ap (option_map (λ (file : List ℕ × List ℕ). file.1))
    (find-set (λ (file : List ℕ × List ℕ). bytes_eq file.0 name) files place ((get_or files place d).0, bytes)
    (sym (first_place (λ (file : List ℕ × List ℕ). bytes_eq file.0 name) files place d is)) found.0 found.1)

-- and all other names stay
pub put_elsewhere : (files : List (List ℕ × List ℕ)) (name bytes other : List ℕ) (place : ℕ) (d : List ℕ × List ℕ)
    → position (λ (file : List ℕ × List ℕ). bytes_eq file.0 name) files ≡ Some place → other ≢ name
    → bytes_under (set files place ((get_or files place d).0, bytes)) other ≡ bytes_under files other
put_elsewhere files name bytes other place d is differ =
    let found = position-Some (λ (file : List ℕ × List ℕ). bytes_eq file.0 name) files place d is in
    let named : (get_or files place d).0 ≡ name = same_name (get_or files place d).0 name found.1 in
    let apart : bytes_eq (get_or files place d).0 other ≡ false =
    other_name (get_or files place d).0 other (λ same. differ (sym same ∙ named)) in
    ap (option_map (λ (file : List ℕ × List ℕ). file.1))
    (find_past (λ (file : List ℕ × List ℕ). bytes_eq file.0 other) files place ((get_or files place d).0, bytes) d apart apart)

no_place : {X : Type 0} (p : X → Bool) (xs : List X) → position p xs ≡ None → slice_get xs (position_or_len p xs) ≡ None
no_place {X} p xs is =
    ⊎_elim
    (λ inside.
    let low : ltb (position_or_len p xs) (length xs) ≡ true = (Decides-ltb (position_or_len p xs) (length xs)).1 inside in
    let some : position p xs ≡ Some (position_or_len p xs) = ap (λ t. cond t (Some (position_or_len p xs)) None) low in
    cc)
    (λ past. slice_get_past xs (position_or_len p xs) past)
    (cases_lt (position_or_len p xs) (length xs))

-- where no place is found there is no file
pub none_under : (files : List (List ℕ × List ℕ)) (name : List ℕ)
    → position (λ (file : List ℕ × List ℕ). bytes_eq file.0 name) files ≡ None → bytes_under files name ≡ None
none_under files name is =
    ap (option_map (λ (file : List ℕ × List ℕ). file.1))
    (find_at (λ (file : List ℕ × List ℕ). bytes_eq file.0 name) files
    ∙ no_place (λ (file : List ℕ × List ℕ). bytes_eq file.0 name) files is)

-- of one file or another that is looked up behind it
behind_none : (found : Option (List ℕ × List ℕ)) (test : Bool) (file : List ℕ × List ℕ)
    → option_map (λ (file : List ℕ × List ℕ). file.1) found ≡ None → test ≡ true
    → option_map (λ (file : List ℕ × List ℕ). file.1) (option_or found (cond test (Some file) None)) ≡ Some file.1
behind_none None test file none is = ap (λ t. option_map (λ (file : List ℕ × List ℕ). file.1) (cond t (Some file) None)) is
behind_none (Some other) test file none is = cc

not_behind : (found : Option (List ℕ × List ℕ)) (test : Bool) (file : List ℕ × List ℕ) → test ≡ false
    → option_map (λ (file : List ℕ × List ℕ). file.1) (option_or found (cond test (Some file) None))
    ≡ option_map (λ (file : List ℕ × List ℕ). file.1) found
not_behind None test file not = ap (λ t. option_map (λ (file : List ℕ × List ℕ). file.1) (cond t (Some file) None)) not
not_behind (Some other) test file not = refl

-- an added file is found under its name
pub added_here : (files : List (List ℕ × List ℕ)) (name : List ℕ) → bytes_under files name ≡ None
    → bytes_under (files ++ (name, []) ∷ []) name ≡ Some []
added_here files name none =
    ap (option_map (λ (file : List ℕ × List ℕ). file.1))
    (find-append (λ (file : List ℕ × List ℕ). bytes_eq file.0 name) files ((name, []) ∷ []))
    ∙ behind_none (find (λ (file : List ℕ × List ℕ). bytes_eq file.0 name) files) (bytes_eq name name) (name, []) none (itself name)

-- and all other names stay
pub added_elsewhere : (files : List (List ℕ × List ℕ)) (name other : List ℕ) → other ≢ name
    → bytes_under (files ++ (name, []) ∷ []) other ≡ bytes_under files other
added_elsewhere files name other differ =
    ap (option_map (λ (file : List ℕ × List ℕ). file.1))
    (find-append (λ (file : List ℕ × List ℕ). bytes_eq file.0 other) files ((name, []) ∷ []))
    ∙ not_behind (find (λ (file : List ℕ × List ℕ). bytes_eq file.0 other) files) (bytes_eq name other) (name, [])
    (other_name name other (λ same. differ (sym same)))

-- ---- stores that were given back

-- one more is told of under its name
pub past_here : (stores : List (List ℕ × DiskRecord)) (name : List ℕ) (store : DiskRecord) →
    past_under (stores ++ (name, store) ∷ []) name ≡ past_under stores name ++ windows (state_of store).story
past_here [] name store = ap (λ (t : Bool). (if t then windows (state_of store).story else []) ++ []) (itself name) ∙ append-nil (windows (state_of store).story)
past_here (other ∷ stores) name store =
    let front : List Window = if bytes_eq other.0 name then windows (state_of other.1).story else [] in
    ap (λ ws. front ++ ws) (past_here stores name store) ∙ sym (append_assoc front (past_under stores name) (windows (state_of store).story))

-- and nowhere else
pub past_elsewhere : (stores : List (List ℕ × DiskRecord)) (name other : List ℕ) (store : DiskRecord) → other ≢ name →
    past_under (stores ++ (name, store) ∷ []) other ≡ past_under stores other
past_elsewhere [] name other store differ =
    ap (λ (t : Bool). (if t then windows (state_of store).story else []) ++ []) (other_name name other (λ same. differ (sym same)))
past_elsewhere (one ∷ stores) name other store differ =
    let front : List Window = if bytes_eq one.0 other then windows (state_of one.1).story else [] in
    ap (λ ws. front ++ ws) (past_elsewhere stores name other store differ)

-- ---- the image of a disk as it is

picked_now : (place : ℕ) (there : Option ℕ) (byte : ℕ) → ((kept : ℕ) → there ≡ Some kept → byte ≡ kept) → picked 1 place there byte ≡ byte
picked_now place None byte stays = refl
picked_now place (Some kept) byte stays = sym (stays kept refl)

one-some : (pick : ℕ) → pick ≡ 1 → pick ≢ 0
one-some pick is none = omega (arith, is, none)

-- it has the bytes that a read gives
pub image_as_it_is : (disk : DiskRecord) (image : List ℕ) → IsPicked 1 (state_of disk) image → image ≡ (state_of disk).bytes
image_as_it_is disk image is =
    let state : DiskState = state_of disk in
    let held : IsImage state.story.window state.bytes = (holds_along (fresh disk.start) disk.calls (holds_fresh disk.start)).bytes in
    ext_get_or 0 image state.bytes (is.size (one-some 1 refl))
    (λ place inside.
    is.each (one-some 1 refl) place inside
    ∙ picked_now place (mark state.story.window.stays place) (get_or state.bytes place 0) (agrees_at state.story.window.stays state.bytes held.stays place))

-- a store that is given back is kept, or the record is no more whole
pub kept_gains : (was mid now : Shelf) (name : List ℕ) (store : DiskRecord) → mid.stores ≡ was.stores → mid.whole ≡ was.whole →
    (now ≡ record mid { stores = mid.stores ++ (name, store) ∷ [] }) ⊎ (now ≡ record mid { whole = false }) → IsTrue now.whole →
    IsTrue was.whole × (past_under now.stores name ≡ past_under was.stores name ++ windows (state_of store).story)
kept_gains was mid now name store same level kept whole = elim kept [
  | inl is ↦ (
    subst IsTrue (ap (λ (s : Shelf). s.whole) is ∙ level) whole,
    ap (λ (s : Shelf). past_under s.stores name) is ∙ past_here mid.stores name store ∙ ap (λ stores. past_under stores name ++ windows (state_of store).story) same,
  )
  | inr left ↦ (let never : IsTrue false = subst IsTrue (ap (λ (s : Shelf). s.whole) left) whole in absurd cc)
]

pub kept_elsewhere : (was mid now : Shelf) (name : List ℕ) (store : DiskRecord) → mid.stores ≡ was.stores →
    (now ≡ record mid { stores = mid.stores ++ (name, store) ∷ [] }) ⊎ (now ≡ record mid { whole = false }) → (other : List ℕ) → other ≢ name →
    past_under now.stores other ≡ past_under was.stores other
kept_elsewhere was mid now name store same kept other differ =
    elim kept [
      | inl is ↦ ap (λ (s : Shelf). past_under s.stores other) is ∙ past_elsewhere mid.stores name other store differ
      | inr left ↦ ap (λ (s : Shelf). past_under s.stores other) left
    ]
    ∙ ap (λ stores. past_under stores other) same
