-- A pass that has taken in another: of each kind of entry that one of the two alone made, it has what that one made, in order.
use Rattle.std.proofs.Common.{◌≡◌, ℕ, ◌≤◌, nat_lt, Bool, true, false, if◌then◌else◌, List, [], ◌∷◌, ◌++◌, refl, sym, ap, ◌∙◌, arith, ltb-false}
use Rattle.std.specs.List.{AllByRecursion}
use Rattle.boss_lock.specs.Places.{AllAbove, ArePlacesOf, Rises, put_in, woven, entry_at, entries_at, IsLonger}
use Rattle.boss_lock.proofs.Entries.{entries_at_more}
use Rattle.def_history.specs.declared.entry.Entry.{Entry}
use Rattle.boss_shared.specs.Passes.{only}

first_nil : (xs ys : List Entry) → xs ++ ys ≡ [] → xs ≡ []
first_nil [] ys is = refl
first_nil (x ∷ xs) ys is = absurd cc

second_nil : (xs ys : List Entry) → xs ++ ys ≡ [] → ys ≡ []
second_nil [] ys is = is
second_nil (x ∷ xs) ys is = absurd cc

module _ (p : Entry → Bool) where
  only_append : (xs ys : List Entry) → only p (xs ++ ys) ≡ only p xs ++ only p ys
  only_append [] ys = refl
  only_append (x ∷ xs) ys = elim (p x) as (λ b. (if b then x ∷ only p (xs ++ ys) else only p (xs ++ ys)) ≡ (if b then x ∷ only p xs else only p xs) ++ only p ys) [
    | true ↦ ap (λ es. x ∷ es) (only_append xs ys)
    | false ↦ only_append xs ys
  ]

  module _ (log : List Entry) where
    -- of a place at which nothing of the kind stands it does not matter where it is put in
    silent : (k : ℕ) (ks : List ℕ) → only p (entry_at log k) ≡ [] → only p (entries_at log (put_in k ks)) ≡ only p (entries_at log ks)
    silent k [] none_there = only_append (entry_at log k) [] ∙ ap (λ es. es ++ []) none_there
    silent k (q ∷ qs) none_there = elim (nat_lt k q) as (λ b. only p (entries_at log (if b then k ∷ q ∷ qs else q ∷ put_in k qs)) ≡ only p (entry_at log q ++ entries_at log qs)) [
      | true ↦ only_append (entry_at log k) (entry_at log q ++ entries_at log qs) ∙ ap (λ es. es ++ only p (entry_at log q ++ entries_at log qs)) none_there
      | false ↦ only_append (entry_at log q) (entries_at log (put_in k qs)) ∙ ap (λ es. only p (entry_at log q) ++ es) (silent k qs none_there) ∙ sym (only_append (entry_at log q) (entries_at log qs))
    ]

    -- where nothing of the kind stands up to k, what stands at k comes first
    loud : (k : ℕ) (ks : List ℕ) → AllByRecursion (λ q. q ≤ k → only p (entry_at log q) ≡ []) ks →
        only p (entries_at log (put_in k ks)) ≡ only p (entry_at log k) ++ only p (entries_at log ks)
    loud k [] quiet = only_append (entry_at log k) []
    loud k (q ∷ qs) quiet = at (nat_lt k q) refl (loud k qs quiet.1)
      where
        at : (b : Bool) → nat_lt k q ≡ b → only p (entries_at log (put_in k qs)) ≡ only p (entry_at log k) ++ only p (entries_at log qs) →
            only p (entries_at log (if b then k ∷ q ∷ qs else q ∷ put_in k qs)) ≡ only p (entry_at log k) ++ only p (entry_at log q ++ entries_at log qs)
        at true is rest = only_append (entry_at log k) (entry_at log q ++ entries_at log qs)
        at false is rest =
            let before : q ≤ k = ltb-false _ _ is in
            let nil : only p (entry_at log q) ≡ [] = quiet.0 before in
            only_append (entry_at log q) (entries_at log (put_in k qs))
            ∙ (λ i. nil i ++ rest i)
            ∙ ap (λ es. only p (entry_at log k) ++ es) (sym (only_append (entry_at log q) (entries_at log qs) ∙ ap (λ es. es ++ only p (entries_at log qs)) nil))

    all_put_in : (P : ℕ → Type 0) (k : ℕ) (ks : List ℕ) → P k → AllByRecursion P ks → AllByRecursion P (put_in k ks)
    all_put_in P k [] one all = (one, tt)
    all_put_in P k (q ∷ qs) one all = elim (nat_lt k q) as (λ b. AllByRecursion P (if b then k ∷ q ∷ qs else q ∷ put_in k qs)) [
      | true ↦ (one, all)
      | false ↦ (all.0, all_put_in P k qs one all.1)
    ]

    all_woven : (P : ℕ → Type 0) (ks js : List ℕ) → AllByRecursion P ks → AllByRecursion P js → AllByRecursion P (woven ks js)
    all_woven P [] js first second = second
    all_woven P (k ∷ ks) js first second = all_put_in P k (woven ks js) first.0 (all_woven P ks js first.1 second)

    above_quiet : (k : ℕ) (ks : List ℕ) → AllAbove k ks → AllByRecursion (λ q. q ≤ k → only p (entry_at log q) ≡ []) ks
    above_quiet k [] above = tt
    above_quiet k (q ∷ qs) above = (λ le. let less = above.0 in absurd (omega arith), above_quiet k qs above.1)

    nil_quiet : (k : ℕ) (js : List ℕ) → only p (entries_at log js) ≡ [] → AllByRecursion (λ q. q ≤ k → only p (entry_at log q) ≡ []) js
    nil_quiet k [] nil = tt
    nil_quiet k (j ∷ js) nil =
        let both : only p (entry_at log j) ++ only p (entries_at log js) ≡ [] = sym (only_append (entry_at log j) (entries_at log js)) ∙ nil in
        (λ _. first_nil _ _ both, nil_quiet k js (second_nil _ _ both))

    woven_kept : (ks js : List ℕ) → Rises ks → only p (entries_at log js) ≡ [] → only p (entries_at log (woven ks js)) ≡ only p (entries_at log ks)
    woven_kept [] js rises nil = nil
    woven_kept (k ∷ ks) js rises nil =
        loud k (woven ks js) (all_woven (λ q. q ≤ k → only p (entry_at log q) ≡ []) ks js (above_quiet k ks rises.0) (nil_quiet k js nil))
        ∙ ap (λ es. only p (entry_at log k) ++ es) (woven_kept ks js rises.1 nil) ∙ sym (only_append (entry_at log k) (entries_at log ks))

    woven_taken : (ks js : List ℕ) → only p (entries_at log ks) ≡ [] → only p (entries_at log (woven ks js)) ≡ only p (entries_at log js)
    woven_taken [] js nil = refl
    woven_taken (k ∷ ks) js nil =
        let both : only p (entry_at log k) ++ only p (entries_at log ks) ≡ [] = sym (only_append (entry_at log k) (entries_at log ks)) ∙ nil in
        silent k (woven ks js) (first_nil _ _ both) ∙ woven_taken ks js (second_nil _ _ both)

  module _ (seen other now : List Entry) (mine its : List ℕ) where
    pub join_keeps : IsLonger seen other now → ArePlacesOf mine seen → ArePlacesOf its other →
        only p (entries_at other its) ≡ [] → only p (entries_at now (woven mine its)) ≡ only p (entries_at seen mine)
    join_keeps longer first second nil =
        woven_kept now mine its first.0 (ap (only p) (entries_at_more other now its longer.2 second.1) ∙ nil) ∙ ap (only p) (entries_at_more seen now mine longer.1 first.1)

    pub join_takes_in : IsLonger seen other now → ArePlacesOf mine seen → ArePlacesOf its other →
        only p (entries_at seen mine) ≡ [] → only p (entries_at now (woven mine its)) ≡ only p (entries_at other its)
    join_takes_in longer first second nil =
        woven_taken now mine its (ap (only p) (entries_at_more seen now mine longer.1 first.1) ∙ nil) ∙ ap (only p) (entries_at_more other now its longer.2 second.1)
