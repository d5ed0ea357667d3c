-- Reads that are noted, one after another.
use Rattle.std.proofs.Common.{◌≡◌, List, [], ◌∷◌, ◌++◌, Option, Some, None, refl, ap, sym, ◌∙◌, subst, append_assoc, append-nil}
use Rattle.std.specs.List.{AllByRecursion}
use Rattle.boss_outside.specs.declared.source.ReadAt.{ReadAt}
use Rattle.boss_outside.specs.Notes.{Notes, NotesEach, AllRead, IsUnread}

each-append : (P : ReadAt → Type 0) (xs ys : List ReadAt) → AllByRecursion P xs → AllByRecursion P ys → AllByRecursion P (xs ++ ys)
each-append P [] ys first then = then
each-append P (x ∷ xs) ys first then = (first.0, each-append P xs ys first.1 then)

each-map : (P Q : ReadAt → Type 0) → ((at : ReadAt) → P at → Q at) → (xs : List ReadAt) → AllByRecursion P xs → AllByRecursion Q xs
each-map P Q then [] all = tt
each-map P Q then (x ∷ xs) all = (then x all.0, each-map P Q then xs all.1)

-- no read was made
pub notes-nothing : (P : ReadAt → Type 0) (reads : Option (List ReadAt)) → NotesEach P reads reads
notes-nothing P None = tt
notes-nothing P (Some reads) = (reads, [], refl, sym (append-nil reads), tt)

pub notes-same : (P : ReadAt → Type 0) (old new : Option (List ReadAt)) → new ≡ old → NotesEach P old new
notes-same P old new same = subst (NotesEach P old) (sym same) (notes-nothing P old)

-- one read was made
pub notes-one : (P : ReadAt → Type 0) (old new : Option (List ReadAt)) (at : ReadAt) → P at → Notes old new at → NotesEach P old new
notes-one P old None at holds noted = tt
notes-one P old (Some now) at holds noted = (noted.0, at ∷ [], noted.1, noted.2, (holds, tt))

-- reads were made behind others
pub notes-then : (P : ReadAt → Type 0) (a b c : Option (List ReadAt)) → NotesEach P a b → NotesEach P b c → NotesEach P a c
notes-then P a b None one other = tt
notes-then P a b (Some now) one other =
    let first : NotesEach P a (Some other.0) = subst (NotesEach P a) other.2 one in (
      first.0,
      first.1 ++ other.1,
      first.2,
      other.3 ∙ ap (λ xs. xs ++ other.1) first.3 ∙ append_assoc first.0 first.1 other.1,
      each-append P first.1 other.1 first.4 other.4,
    )

-- what follows from what holds of each
pub notes-map : (P Q : ReadAt → Type 0) → ((at : ReadAt) → P at → Q at) → (old new : Option (List ReadAt)) → NotesEach P old new → NotesEach Q old new
notes-map P Q then old None noted = tt
notes-map P Q then old (Some now) noted = (noted.0, noted.1, noted.2, noted.3, each-map P Q then noted.1 noted.4)

-- all reads are those that were noted since there was none
pub notes-all : (P : ReadAt → Type 0) (old new : Option (List ReadAt)) → IsUnread old → NotesEach P old new → AllRead P new
notes-all P old None unread noted = tt
notes-all P old (Some now) unread noted =
    let none : noted.0 ≡ [] = subst IsUnread noted.2 unread in
    subst (AllByRecursion P) (sym (noted.3 ∙ ap (λ xs. xs ++ noted.1) none)) noted.4
