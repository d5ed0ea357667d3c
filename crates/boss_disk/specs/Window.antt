-- Source: own (POSIX gives no order of unsynced writes; any byte of theirs may be lost).
use Rattle.std.specs.Prelude.{◌≡◌, ℕ, ◌+◌, ◌≤◌, max, List, [], ◌∷◌, ◌++◌, length, map, take, drop, Option, Some, None}

-- What a crash may leave of a disk, by what happened since its last sync. `stays` has a mark for each byte below the
-- least length that the disk had since then: the byte that stays there, or None where a write went, so that any byte may
-- be there. `most` is the greatest length that it had.
pub record Window : Type 0 where
  pub stays : List (Option ℕ)
  pub most : ℕ

-- the bytes reach past the marks, and each byte that stays is there
abbrev pub Agrees : List (Option ℕ) → List ℕ → Type 0
Agrees [] bytes = Unit {0}
Agrees (mark ∷ marks) [] = ⊥
Agrees (None ∷ marks) (byte ∷ bytes) = Agrees marks bytes
Agrees (Some kept ∷ marks) (byte ∷ bytes) = (byte ≡ kept) × Agrees marks bytes

-- a crash may leave these bytes
pub record IsImage (window : Window) (bytes : List ℕ) : Type 0 where
  pub stays : Agrees window.stays bytes
  pub within : length bytes ≤ window.most

-- as a sync leaves a disk that reads these bytes: a crash leaves them and nothing else
abbrev pub settled : List ℕ → Window
settled bytes = record { stays = map Some bytes; most = length bytes }

-- marks of as many bytes, of which none stays
abbrev pub forgotten : List (Option ℕ) → List (Option ℕ)
forgotten marks = map (λ _. None) marks

-- the marks after a write of so many bytes from a place on: none of these stays
abbrev pub written : ℕ → ℕ → List (Option ℕ) → List (Option ℕ)
written at count marks = take at marks ++ forgotten (take count (drop at marks)) ++ drop (at + count) marks

-- after a write of so many bytes
abbrev pub after_write : ℕ → ℕ → Window → Window
after_write at count window = record {
  stays = written at count window.stays;
  most = max window.most (at + count);
}

-- after a cut to this length
abbrev pub after_cut : ℕ → Window → Window
after_cut size window = record { stays = take size window.stays; most = window.most }

-- what a disk that reads the old bytes reads after a write
abbrev pub overwritten : ℕ → List ℕ → List ℕ → List ℕ
overwritten at bytes old = take at old ++ bytes ++ drop (at + length bytes) old
