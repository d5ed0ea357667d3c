-- What is chosen of a history by a test.
use Rattle.std.proofs.Common.{◌≡◌, false, true, not, ◌&&◌, cond, Bool, List, [], ◌∷◌, ◌++◌, refl, ap, sym, ◌∙◌}
use Rattle.std.specs.List.{filter}
use Rattle.std.proofs.lemmas.List.{append-nil, append_cancel_left}
use Rattle.std.proofs.lemmas.List.Elements.{filter-append}
use Rattle.def_history.specs.declared.entry.Entry.{Entry}
use Rattle.def_history.specs.declared.entry.Entry.TheVariants.{Did, Broke}
use Rattle.def_history.specs.History.{deeds, is_mark}
use Rattle.def_lanes.specs.Lanes.{only}
use Rattle.def_lanes.specs.Parts.{Joined}

pub deeds-append : (xs ys : List Entry) → deeds (xs ++ ys) ≡ deeds xs ++ deeds ys
deeds-append [] ys = refl
deeds-append (Did session command moment answer ∷ xs) ys = ap (λ rest. Did session command moment answer ∷ rest) (deeds-append xs ys)
deeds-append (Broke session commands others ∷ xs) ys = deeds-append xs ys

pub deeds-deeds : (xs : List Entry) → deeds (deeds xs) ≡ deeds xs
deeds-deeds [] = refl
deeds-deeds (Did session command moment answer ∷ xs) = ap (λ rest. Did session command moment answer ∷ rest) (deeds-deeds xs)
deeds-deeds (Broke session commands others ∷ xs) = deeds-deeds xs

pub only-append : (test : Entry → Bool) (xs ys : List Entry) → only test (xs ++ ys) ≡ only test xs ++ only test ys
only-append test xs ys = ap (filter test) (deeds-append xs ys) ∙ filter-append test (deeds xs) (deeds ys)

-- what was added to the deeds has no mark
pub all-deeds : (old more new : List Entry) → deeds new ≡ deeds old ++ more → deeds more ≡ more
all-deeds old more new grew = append_cancel_left (deeds old) (deeds more) more
    (ap (λ front. front ++ deeds more) (sym (deeds-deeds old)) ∙ sym (deeds-append (deeds old) more) ∙ ap deeds (sym grew) ∙ deeds-deeds new ∙ grew)

pub only-grown : (test : Entry → Bool) (old more new : List Entry) → deeds new ≡ deeds old ++ more → only test new ≡ only test old ++ only test more
only-grown test old more new grew =
    ap (filter test) grew ∙ filter-append test (deeds old) more ∙ ap (λ rest. only test old ++ filter test rest) (sym (all-deeds old more new grew))

-- ---- joins

pub joined-append : (old more : List Entry) → Joined old more (old ++ more)
joined-append old more = record {
  kept = λ test none. only-append test old more ∙ ap (λ rest. only test old ++ rest) none ∙ append-nil (only test old);
  taken_in = λ test none. only-append test old more ∙ ap (λ front. front ++ only test more) none;
}

pub joined-deeds : (old more new : List Entry) → deeds new ≡ deeds old ++ more → Joined old more new
joined-deeds old more new grew = record {
  kept = λ test none. only-grown test old more new grew ∙ ap (λ rest. only test old ++ rest) none ∙ append-nil (only test old);
  taken_in = λ test none. only-grown test old more new grew ∙ ap (λ front. front ++ only test more) none;
}

-- a test of deeds as a test of entries
of_deeds : (Entry → Bool) → Entry → Bool
of_deeds test entry = not (is_mark entry) && test entry

only-of_deeds : (test : Entry → Bool) (xs : List Entry) → filter (of_deeds test) xs ≡ only test xs
unfolding of_deeds
only-of_deeds test [] = refl
only-of_deeds test (Did session command moment answer ∷ xs) =
    ap (λ rest. cond (test (Did session command moment answer)) (Did session command moment answer ∷ rest) rest) (only-of_deeds test xs)
only-of_deeds test (Broke session commands others ∷ xs) = only-of_deeds test xs

-- a join that is told by tests of entries
pub joined-tests : (old other new : List Entry) → ((test : Entry → Bool) → filter test other ≡ [] → filter test new ≡ filter test old) →
    ((test : Entry → Bool) → filter test old ≡ [] → filter test new ≡ filter test other) → Joined old other new
joined-tests old other new kept taken_in = record {
  kept = λ test none. sym (only-of_deeds test new) ∙ kept (of_deeds test) (only-of_deeds test other ∙ none) ∙ only-of_deeds test old;
  taken_in = λ test none. sym (only-of_deeds test new) ∙ taken_in (of_deeds test) (only-of_deeds test old ∙ none) ∙ only-of_deeds test other;
}

-- a test that fewer entries pass
pub fewer : {X : Type 0} (p q : X → Bool) → ((x : X) → p x ≡ false → q x ≡ false) → (xs : List X) → filter p xs ≡ [] → filter q xs ≡ []
fewer p q less [] none = refl
fewer p q less (x ∷ xs) none = fewer-step (p x) (q x) (less x) x (filter p xs) (filter q xs) (fewer p q less xs) none
  where
    fewer-step : {X : Type 0} (b c : Bool) → (b ≡ false → c ≡ false) → (x : X) (ps qs : List X) → (ps ≡ [] → qs ≡ []) → cond b (x ∷ ps) ps ≡ [] → cond c (x ∷ qs) qs ≡ []
    fewer-step true c less x ps qs rest none = absurd cc
    fewer-step false true less x ps qs rest none = absurd (let no : true ≡ false = less refl in cc)
    fewer-step false false less x ps qs rest none = rest none
