-- Items read one by one are items read at once.
use Rattle.std.proofs.Common.{◌≡◌, ℕ, suc, List, [], ◌∷◌, ◌++◌, Option, Some, None, refl, sym, ap, ◌∙◌, append_assoc, append-nil}
use Rattle.def_bytes.specs.Fields.{Field, ◌>>=◌, next_items, items_at}
use Rattle.boss_records.specs.declared.unread.Unread.{Unread}
use Rattle.boss_records.specs.declared.unread.Unread.TheVariants as unread
use Rattle.boss_records.specs.Given.{Misses}

-- items before those that are read
abbrev pub with_front : {X : Type 0} → List X → Option (List X × List ℕ) → Option (List X × List ℕ)
with_front front found = found >>= λ x. Some (front ++ x.0, x.1)

front_item : {X : Type 0} (front : List X) (x : X) (found : Option (List X × List ℕ)) →
    with_front front (found >>= next_items x) ≡ with_front (front ++ x ∷ []) found
front_item front x None = refl
front_item front x (Some found) = ap (λ xs. Some (xs, found.1)) (sym (append_assoc front (x ∷ []) found.0))

module _ {X : Type 0} (f : Field X) where
  pub item_more : (front : List X) (bytes rest : List ℕ) (x : X) (count left : ℕ) → f.at bytes ≡ Some (x, rest) → count ≡ suc left →
      with_front front (items_at f count bytes) ≡ with_front (front ++ x ∷ []) (items_at f left rest)
  item_more front bytes rest x count left is one =
      ap (λ n. with_front front (items_at f n bytes)) one
      ∙ ap (λ found. with_front front (found >>= λ y. items_at f left y.1 >>= next_items y.0)) is
      ∙ front_item front x (items_at f left rest)

  pub no_item : (front : List X) (bytes : List ℕ) (count left : ℕ) → f.at bytes ≡ None → count ≡ suc left →
      with_front front (items_at f count bytes) ≡ None
  no_item front bytes count left is one =
      ap (λ n. with_front front (items_at f n bytes)) one
      ∙ ap (λ found. with_front front (found >>= λ y. items_at f left y.1 >>= next_items y.0)) is

  pub all_items : (front : List X) (bytes : List ℕ) (count : ℕ) → count ≡ 0 → with_front front (items_at f count bytes) ≡ Some (front, bytes)
  all_items front bytes count none = ap (λ n. with_front front (items_at f n bytes)) none ∙ ap (λ xs. Some (xs, bytes)) (append-nil front)

  -- where an item is not read, neither are all
  pub ends : (e : Unread) (front : List X) (rest : List ℕ) (count left : ℕ) (whole : Option (List X × List ℕ)) →
      Misses e (f.at rest) → count ≡ suc left → with_front front (items_at f count rest) ≡ whole → Misses e whole
  ends unread.NoSpelling front rest count left whole none one is = sym is ∙ no_item front rest count left none one
  ends unread.NoMemory front rest count left whole none one is = tt
