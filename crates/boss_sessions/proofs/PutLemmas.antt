-- Bytes that are put one behind another, and written together.
use Rattle.std.proofs.Common.{◌≡◌, ℕ, List, [], ◌++◌, Result, Ok, Err, refl, ap, sym, ◌∙◌, subst, append_assoc, append-nil}
use Rattle.boss_outside.specs.Streams.{TakesFront, Writes}
use Rattle.boss_sessions.specs.Replies.{Puts, PutsBy}

-- the equations of three parts
shift : (w v h s t rest : List ℕ) → w ++ v ≡ h ++ s → v ++ t ≡ rest → w ++ rest ≡ h ++ (s ++ t)
shift w v h s t rest first then = ap (λ list. w ++ list) (sym then) ∙ sym (append_assoc w v t) ∙ ap (λ list. list ++ t) first ∙ append_assoc h s t

pub puts-nothing : (taken held : List ℕ) → Puts taken held taken held []
puts-nothing taken held = record { written = []; took = sym (append-nil taken); holds = sym (append-nil held) }

-- into the buffer alone
pub puts-held : (taken held held' bytes : List ℕ) → held' ≡ held ++ bytes → Puts taken held taken held' bytes
puts-held taken held held' bytes is = record { written = []; took = sym (append-nil taken); holds = is }

-- all that was held is written
pub puts-written : (taken held taken' : List ℕ) → taken' ≡ taken ++ held → Puts taken held taken' [] []
puts-written taken held taken' is = record { written = held; took = is; holds = refl }

pub short-nothing : (a b held : List ℕ) → TakesFront a b held → TakesFront a b (held ++ [])
short-nothing a b held front = (front.0, front.1, append-nil held ∙ front.2, front.3)

pub puts-then : (a h b h' c h'' s t : List ℕ) → Puts a h b h' s → Puts b h' c h'' t → Puts a h c h'' (s ++ t)
puts-then a h b h' c h'' s t one other = record {
  written = one.written ++ other.written;
  took = other.took ∙ ap (λ list. list ++ other.written) one.took ∙ append_assoc a one.written other.written;
  holds = append_assoc one.written other.written h'' ∙ shift one.written h' h s t (other.written ++ h'') one.holds (sym other.holds);
}

-- a write failed behind what was put
pub puts-front : (a h b h' c s t : List ℕ) → Puts a h b h' s → TakesFront b c (h' ++ t) → TakesFront a c (h ++ (s ++ t))
puts-front a h b h' c s t one front = (
  one.written ++ front.0,
  front.1,
  sym (shift one.written h' h s t (front.0 ++ front.1) one.holds front.2) ∙ sym (append_assoc one.written front.0 front.1),
  front.3 ∙ ap (λ list. list ++ front.0) one.took ∙ append_assoc a one.written front.0,
)

-- more would have been put behind it
pub front-more : (a b h s t : List ℕ) → TakesFront a b (h ++ s) → TakesFront a b (h ++ (s ++ t))
front-more a b h s t front = (front.0, front.1 ++ t, sym (append_assoc h s t) ∙ ap (λ list. list ++ t) front.2 ∙ append_assoc front.0 front.1 t, front.3)

-- one text more, in the buffer
pub puts-behind : (a h b h' h'' s : List ℕ) → Puts a h b h' [] → h'' ≡ h' ++ s → Puts a h b h'' s
puts-behind a h b h' h'' s one is = record {
  written = one.written;
  took = one.took;
  holds = ap (λ list. one.written ++ list) is ∙ sym (append_assoc one.written h' s) ∙ ap (λ list. list ++ s) (one.holds ∙ append-nil h);
}

-- what is held is written
pub puts-told : {T E : Type 0} (a h b h' : List ℕ) (told : Result T E) → h' ≡ [] → Writes a b h told → PutsBy a h b h' [] told
puts-told a h b h' (Ok done) is writes = subst (λ held. Puts a h b held []) (sym is) (puts-written a h b writes)
puts-told a h b h' (Err failed) is front = short-nothing a b h front

-- what is held, and a text behind it, are written
pub puts-all : {T E : Type 0} (a h b h' c s t all : List ℕ) (told : Result T E) → h ≡ [] → all ≡ h' ++ t → Puts a h b h' s → Writes b c all told → Writes a c (s ++ t) told
puts-all a h b h' c s t all (Ok done) empty is one writes =
    writes ∙ ap (λ list. list ++ all) one.took ∙ append_assoc a one.written all
    ∙ ap (λ list. a ++ list) (shift one.written h' h s t all one.holds (sym is) ∙ ap (λ list. list ++ (s ++ t)) empty)
puts-all a h b h' c s t all (Err failed) empty is one front =
    subst (λ held. TakesFront a c (held ++ (s ++ t))) empty (puts-front a h b h' c s t one (subst (TakesFront b c) is front))

pub front-all : (a c h s t : List ℕ) → h ≡ [] → TakesFront a c (h ++ s) → TakesFront a c (s ++ t)
front-all a c h s t empty front = subst (λ held. TakesFront a c (held ++ (s ++ t))) empty (front-more a c h s t front)
