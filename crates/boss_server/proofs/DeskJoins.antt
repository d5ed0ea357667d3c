-- What a desk's join keeps.
use Rattle.std.proofs.Common.{◌≡◌, Bool, true, false, cond, List, [], ◌∷◌, ◌++◌, refl, ap, sym, ◌∙◌, ◌||◌}
use Rattle.std.specs.List.{filter}
use mathlib.Core.List.{IsPrefix}
use Rattle.def_history.specs.declared.entry.Entry.{Entry}
use Rattle.def_history.specs.History.{is_broken, is_mark}
use Rattle.def_lanes.specs.Parts.{Joined}
use Rattle.def_lanes.proofs.Choices.{joined-tests}
use Rattle.boss_shared.specs.Passes.{only}

only-filter : (test : Entry → Bool) (entries : List Entry) → only test entries ≡ filter test entries
only-filter test [] = refl
only-filter test (entry ∷ entries) = ap (λ rest. cond (test entry) (entry ∷ rest) rest) (only-filter test entries)

pub desk-joined : (old other new : List Entry) → ((test : Entry → Bool) → only test other ≡ [] → only test new ≡ only test old) →
    ((test : Entry → Bool) → only test old ≡ [] → only test new ≡ only test other) → Joined old other new
desk-joined old other new kept taken_in = joined-tests old other new
    (λ test none. sym (only-filter test new) ∙ kept test (only-filter test other ∙ none) ∙ only-filter test old)
    (λ test none. sym (only-filter test new) ∙ taken_in test (only-filter test old ∙ none) ∙ only-filter test other)

only-all : (entries : List Entry) → only (λ entry. true) entries ≡ entries
only-all [] = refl
only-all (entry ∷ entries) = ap (λ rest. entry ∷ rest) (only-all entries)

-- nothing comes of nothing
pub desk-nothing : (old other new : List Entry) → ((test : Entry → Bool) → only test other ≡ [] → only test new ≡ only test old) → old ≡ [] → other ≡ [] → new ≡ []
desk-nothing old other new kept none also =
    sym (only-all new) ∙ kept (λ entry. true) (only-all other ∙ also) ∙ only-all old ∙ none

broken-front : (xs ys : List Entry) → is_broken xs ≡ true → is_broken (xs ++ ys) ≡ true
broken-front [] ys is = absurd (let no : false ≡ true = is in cc)
broken-front (x ∷ xs) ys is = step (is_mark x) (broken-front xs ys) is
  where
    step : (mark : Bool) → (is_broken xs ≡ true → is_broken (xs ++ ys) ≡ true) → (mark || is_broken xs) ≡ true → (mark || is_broken (xs ++ ys)) ≡ true
    step true rest both = refl
    step false rest both = rest both

-- a mark that was seen stays seen
pub broken-longer : (xs zs : List Entry) → IsPrefix xs zs → is_broken xs ≡ true → is_broken zs ≡ true
broken-longer xs zs prefix is = ap is_broken (sym prefix.1) ∙ broken-front xs prefix.0 is
