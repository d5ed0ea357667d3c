-- Each kind of step keeps the rule.
use Rattle.std.proofs.Common.{◌≡◌, ◌≢◌, ℕ, List, [], ◌∷◌, get_or, set, eqb, Option, Some, None, refl, sym, ap, ◌∙◌, subst, ⊎_elim}
use mathlib.Core.Option as slot
use lib.ListN.{get_elem?}
use prog.Atomic.{either}
use Rattle.atomic_table.specs.Table.{State, Act, step, keeps, takes, gives, put_back, rest, Valid, carried_after, stepped, Allows, Enters}
use Rattle.atomic_table.proofs.Lists.{at_set, at_snoc, exchanged}
use Rattle.boss_counters.specs.Rule.{Phase, free, held, asked, served, told, fresh_view, number_of, slot_of, IsPartIn, IsProper, IsKept}
use Rattle.boss_counters.specs.Steps.{Knower, with_part, holding, arrived, claimed, filed, recalled, fetched, accepted, parted}
use Rattle.boss_counters.specs.declared.view.Letter.{Letter}
use Rattle.boss_counters.specs.declared.view.Letter.TheVariants.{Request, Reply}
use Rattle.boss_counters.specs.declared.view.Part.{Part}
use Rattle.boss_counters.specs.declared.view.Part.TheVariants.{Nothing, Place, Asked, Owes}
use Rattle.boss_counters.specs.declared.view.View.{View}
use Rattle.boss_counters.proofs.Phases.{is_free, is_held, is_asked, is_own, is_told, is_served, claimed_else, held_else, recalled_else, fetched_else, accepted_else, told_else}

-- the word, and the word once a step has written it
found_word : (words : List ℕ) (n : ℕ) → words ≡ n ∷ [] → get_or words 0 0 ≡ n
found_word words n is = ap (λ (ws : List ℕ). get_or ws 0 0) is

new_word : (words : List ℕ) (n m : ℕ) → words ≡ n ∷ [] → set words 0 m ≡ m ∷ []
new_word words n m is = ap (λ (ws : List ℕ). set ws 0 m) is

same_word : (words : List ℕ) (n : ℕ) → words ≡ n ∷ [] → set words 0 (get_or words 0 0) ≡ n ∷ []
same_word words n is = ap (λ (ws : List ℕ). set ws 0 (get_or ws 0 0)) is

module _ {K Q R : Type 0} (may : K → Q → Type 0) (answers : Q → R → Type 0) (key : K) where
  abbrev Table : Type 0
  Table = State (Option (Letter Q R)) (View K Q)

  abbrev Rule : Table → Type 0
  Rule = IsKept may answers key

  abbrev Homes : Type 0
  Homes = List (slot.Option (Option (Letter Q R)))

  abbrev Fits : Phase Q R → ℕ → View K Q → Type 0
  Fits phase id v = (v.key ≡ key) × IsPartIn phase id v.part

  -- One seat steps, and what the others know stays so
  moves : (s : Table) (r : Rule s) (id : ℕ) (v w : View K Q) (phase : Phase Q R) (words : List ℕ) (homes : Homes) → get_elem? s.views id ≡ slot.some v → w.key ≡ v.key
      → words ≡ number_of phase ∷ [] → homes ≡ slot_of phase ∷ [] → IsProper may answers key phase → IsPartIn phase id w.part
      → ((j : ℕ) (part : Part Q) → j ≢ id → IsPartIn r.phase j part → IsPartIn phase j part)
      → Rule record { words = words; homes = homes; views = set s.views id w }
  moves s r id v w phase words homes at same is_word lies proper mine others = record {
    phase = phase;
    word = is_word;
    lies = lies;
    proper = proper;
    each_seat = λ j u there. ⊎_elim
        (λ (p : (j ≡ id) × (w ≡ u)). subst (Fits phase j) p.1 (same ∙ (r.each_seat id v at).0, subst (λ (n : ℕ). IsPartIn phase n w.part) (sym p.0) mine))
        (λ (p : (j ≢ id) × (get_elem? s.views j ≡ slot.some u)). let was = r.each_seat j u p.1 in (was.0, others j u.part p.0 was.1))
        (at_set s.views id j w u there);
  }

  -- what a step that writes x into the word has to show
  abbrev Goes : Table → ℕ → Knower K Q R → (ℕ → Knower K Q R → Type 0) → ℕ → Type 0
  Goes s id me then x = (w : View K Q) × (a : Act (Option (Letter Q R))) × Valid s.homes me.1 a × Rule (stepped s 0 x id me.1 w a) × then (get_or s.words 0 0) (w, carried_after me.1 a)

  stays : (s : Table) (r : Rule s) (id : ℕ) (me : Knower K Q R) (then : ℕ → Knower K Q R → Type 0) → get_elem? s.views id ≡ slot.some me.0 → then (get_or s.words 0 0) me
      → Goes s id me then (get_or s.words 0 0)
  stays s r id me then at tells =
      (me.0, keeps, tt, moves s r id me.0 me.0 r.phase _ _ at refl (same_word s.words _ r.word) r.lies r.proper (r.each_seat id me.0 at).1 (λ j part _ has. has), tells)

  -- the slot in this phase
  lies_in : (s : Table) (r : Rule s) (phase : Phase Q R) → r.phase ≡ phase → s.homes ≡ slot_of phase ∷ []
  lies_in s r phase is = r.lies ∙ ap (λ (p : Phase Q R). slot_of p ∷ []) is

  -- what was taken out, and what was put back
  is_there : (homes : Homes) (y : Option (Letter Q R)) → homes ≡ slot.some y ∷ [] → get_elem? homes 0 ≡ slot.some (slot.some y)
  is_there homes y is = ap (λ (hs : Homes). get_elem? hs 0) is

  taken_out : (homes : Homes) (y : slot.Option (Option (Letter Q R))) → homes ≡ y ∷ [] → set homes 0 slot.none ≡ slot.none ∷ []
  taken_out homes y is = ap (λ (hs : Homes). set hs 0 slot.none) is

  put_in : (homes : Homes) (y : slot.Option (Option (Letter Q R))) (carried : List (ℕ × Option (Letter Q R))) (x : Option (Letter Q R)) → homes ≡ y ∷ [] → carried ≡ (0, x) ∷ []
      → put_back homes carried ≡ slot.some x ∷ []
  put_in homes y carried x is held_is = λ i. put_back (is i) (held_is i)

  pub arrives : (slots : ℕ) → Enters Rule slots 0 (λ n w. arrived {R = R} (step slots 0 0 0 slot.none) (fresh_view key, []) n (w, []))
  arrives slots s r _ _ = (
    fresh_view key,
    record {
      phase = r.phase;
      word = r.word;
      lies = r.lies;
      proper = r.proper;
      each_seat = λ j u there. ⊎_elim (r.each_seat j u) (λ (is : fresh_view key ≡ u). subst (Fits r.phase j) is (refl, tt)) (at_snoc s.views (fresh_view key) u j there);
    },
    refl,
  )

  -- A seat takes a free place
  pub claims : (slots id : ℕ) (me : Knower K Q R) → me.1 ≡ [] → Allows Rule slots id me 0 (λ n. either (eqb n 0) 1 n) (claimed (step slots 0 0 1 slot.none) me)
  claims slots id me empty s r _ at _ = exchanged (get_or s.words 0 0) 0 1 (Goes s id me (claimed (step slots 0 0 1 slot.none) me))
      (λ hit.
      let is : r.phase ≡ free = is_free r.phase (sym (found_word s.words _ r.word) ∙ hit) in
      let here = lies_in s r free is in
      let w = with_part me.0 Place in (
        w,
        takes 0 None,
        is_there s.homes None here,
        moves s r id me.0 w (held id) _ _ at refl (new_word s.words _ 1 r.word) (taken_out s.homes _ here) tt refl
            (λ j part _ has. claimed_else R id j part (subst (λ (p : Phase Q R). IsPartIn p j part) is has)),
        ((λ _. ap (λ (c : List (ℕ × Option (Letter Q R))). (w, (0, None) ∷ c)) empty), λ miss. absurd (miss hit)),
      ))
      (λ miss. stays s r id me (claimed (step slots 0 0 1 slot.none) me) at ((λ hit. absurd (miss hit)), λ _. refl))

  -- A seat leaves a request in the place that it has to itself
  pub files : (slots id : ℕ) (me : Knower K Q R) (q : Q) → me.0.part ≡ Place → me.1 ≡ (0, Some (Request q)) ∷ [] → may key q
      → Allows Rule slots id me 0 (λ _. 2) (λ _. filed (step slots 0 2 0 slot.none) me 2)
  files slots id me q place carried fits s r _ at _ =
      let is : r.phase ≡ held id = is_held r.phase id (subst (IsPartIn r.phase id) place (r.each_seat id me.0 at).1) in
      let w = with_part me.0 (Asked q) in (
        w,
        gives,
        tt,
        moves s r id me.0 w (asked id q) _ _ at refl (new_word s.words _ 2 r.word) (put_in s.homes _ me.1 _ r.lies carried) fits (refl, refl)
            (λ j part apart has. held_else R id j part (asked id q) apart (subst (λ (p : Phase Q R). IsPartIn p j part) is has)),
        (q, carried, ap (λ (c : List (ℕ × Option (Letter Q R))). (w, rest c)) carried),
      )

  -- A seat takes its request back, where nobody has taken it
  pub recalls : (slots id : ℕ) (me : Knower K Q R) (q : Q) → me.0.part ≡ Asked q → me.1 ≡ [] → Allows Rule slots id me 0 (λ n. either (eqb n 2) 1 n) (recalled (step slots 0 2 1 slot.none) me)
  recalls slots id me q mine empty s r _ at _ = exchanged (get_or s.words 0 0) 2 1 (Goes s id me (recalled (step slots 0 2 1 slot.none) me))
      (λ hit.
      let is : r.phase ≡ asked id q = is_own r.phase id q (sym (found_word s.words _ r.word) ∙ hit) (subst (IsPartIn r.phase id) mine (r.each_seat id me.0 at).1) in
      let here = lies_in s r (asked id q) is in
      let w = with_part me.0 Place in (
        w,
        takes 0 (Some (Request q)),
        is_there s.homes _ here,
        moves s r id me.0 w (held id) _ _ at refl (new_word s.words _ 1 r.word) (taken_out s.homes _ here) tt refl
            (λ j part apart has. recalled_else R id j q part apart (subst (λ (p : Phase Q R). IsPartIn p j part) is has)),
        ((λ _. (q, mine, ap (λ (c : List (ℕ × Option (Letter Q R))). (w, (0, Some (Request q)) ∷ c)) empty)), λ miss. absurd (miss hit)),
      ))
      (λ miss. stays s r id me (recalled (step slots 0 2 1 slot.none) me) at ((λ hit. absurd (miss hit)), λ _. refl))

  -- A seat takes the reply to its request, where it lies there
  pub fetches : (slots id : ℕ) (me : Knower K Q R) (q : Q) → me.0.part ≡ Asked q → me.1 ≡ [] → Allows Rule slots id me 0 (λ n. either (eqb n 4) 1 n) (fetched answers (step slots 0 4 1 slot.none) me)
  fetches slots id me q mine empty s r _ at _ = exchanged (get_or s.words 0 0) 4 1 (Goes s id me (fetched answers (step slots 0 4 1 slot.none) me))
      (λ hit.
      let replied = is_told r.phase id q (sym (found_word s.words _ r.word) ∙ hit) (subst (IsPartIn r.phase id) mine (r.each_seat id me.0 at).1) in
      let x = replied.0 in
      let is : r.phase ≡ told id q x = replied.1 in
      let here = lies_in s r (told id q x) is in
      let w = with_part me.0 Place in (
        w,
        takes 0 (Some (Reply x)),
        is_there s.homes _ here,
        moves s r id me.0 w (held id) _ _ at refl (new_word s.words _ 1 r.word) (taken_out s.homes _ here) tt refl
            (λ j part apart has. fetched_else R id j q x part apart (subst (λ (p : Phase Q R). IsPartIn p j part) is has)),
        (
          (λ _. (q, x, mine, subst (IsProper may answers key) is r.proper, ap (λ (c : List (ℕ × Option (Letter Q R))). (w, (0, Some (Reply x)) ∷ c)) empty)),
          λ miss. absurd (miss hit),
        ),
      ))
      (λ miss. stays s r id me (fetched answers (step slots 0 4 1 slot.none) me) at ((λ hit. absurd (miss hit)), λ _. refl))

  -- A seat takes the request that lies there, to serve it
  pub accepts : (slots id : ℕ) (me : Knower K Q R) → me.1 ≡ [] → Allows Rule slots id me 0 (λ n. either (eqb n 2) 3 n) (accepted may (step slots 0 2 3 slot.none) me)
  accepts slots id me empty s r _ at _ = exchanged (get_or s.words 0 0) 2 3 (Goes s id me (accepted may (step slots 0 2 3 slot.none) me))
      (λ hit.
      let lying = is_asked r.phase (sym (found_word s.words _ r.word) ∙ hit) in
      let i = lying.0 in
      let q = lying.1 in
      let is : r.phase ≡ asked i q = lying.2 in
      let here = lies_in s r (asked i q) is in
      let same = (r.each_seat id me.0 at).0 in
      let w = with_part me.0 (Owes q) in (
        w,
        takes 0 (Some (Request q)),
        is_there s.homes _ here,
        moves s r id me.0 w (served i q id) _ _ at refl (new_word s.words _ 3 r.word) (taken_out s.homes _ here) tt (refl, refl)
            (λ j part _ has. accepted_else R id i j q part (subst (λ (p : Phase Q R). IsPartIn p j part) is has)),
        (
          (λ _. (q, subst (λ (k : K). may k q) (sym same) (subst (IsProper may answers key) is r.proper), ap (λ (c : List (ℕ × Option (Letter Q R))). (w, (0, Some (Request q)) ∷ c)) empty)),
          λ miss. absurd (miss hit),
        ),
      ))
      (λ miss. stays s r id me (accepted may (step slots 0 2 3 slot.none) me) at ((λ hit. absurd (miss hit)), λ _. refl))

  -- A seat clears the place that it has to itself
  pub clears : (slots id : ℕ) (me : Knower K Q R) → me.0.part ≡ Place → me.1 ≡ (0, None) ∷ [] → Allows Rule slots id me 0 (λ _. 0) (λ _. parted (step slots 0 0 0 slot.none) me 0)
  clears slots id me place carried s r _ at _ =
      let is : r.phase ≡ held id = is_held r.phase id (subst (IsPartIn r.phase id) place (r.each_seat id me.0 at).1) in
      let w = with_part me.0 Nothing in (
        w,
        gives,
        tt,
        moves s r id me.0 w free _ _ at refl (new_word s.words _ 0 r.word) (put_in s.homes _ me.1 _ r.lies carried) tt tt
            (λ j part apart has. held_else R id j part free apart (subst (λ (p : Phase Q R). IsPartIn p j part) is has)),
        tt,
      )

  -- A seat leaves the reply that it owes
  pub tells : (slots id : ℕ) (me : Knower K Q R) (q : Q) (x : R) → me.0.part ≡ Owes q → me.1 ≡ (0, Some (Reply x)) ∷ [] → answers q x
      → Allows Rule slots id me 0 (λ _. 4) (λ _. parted (step slots 0 4 0 slot.none) me 4)
  tells slots id me q x mine carried good s r _ at _ =
      let serving = is_served r.phase id q (subst (IsPartIn r.phase id) mine (r.each_seat id me.0 at).1) in
      let i = serving.0 in
      let is : r.phase ≡ served i q id = serving.1 in
      let w = with_part me.0 Nothing in (
        w,
        gives,
        tt,
        moves s r id me.0 w (told i q x) _ _ at refl (new_word s.words _ 4 r.word) (put_in s.homes _ me.1 _ r.lies carried) good tt
            (λ j part apart has. told_else R id i j q x part apart (subst (λ (p : Phase Q R). IsPartIn p j part) is has)),
        tt,
      )

module _ {K Q R : Type 0} where
  -- what a seat holds once it has exchanged what lies in its only slot
  pub put_slot : (me now : Knower K Q R) (x y : ℕ × Option (Letter Q R)) → now ≡ (me.0, x ∷ rest me.1) → me.1 ≡ y ∷ [] → now.1 ≡ x ∷ []
  put_slot me now x y is had = ap (λ (m : Knower K Q R). m.1) is ∙ ap (λ (c : List (ℕ × Option (Letter Q R))). x ∷ rest c) had

  pub put_part : (me now : Knower K Q R) (x : ℕ × Option (Letter Q R)) (part : Part Q) → now ≡ (me.0, x ∷ rest me.1) → me.0.part ≡ part → now.0.part ≡ part
  put_part me now x part is has = ap (λ (m : Knower K Q R). m.0.part) is ∙ has

  -- the slot of a seat that holds one
  pub slots_of : (v : View K Q) (letter : Option (Letter Q R)) (after : Knower K Q R) → after ≡ holding v letter → after.1 ≡ (0, letter) ∷ []
  slots_of v letter after is = ap (λ (m : Knower K Q R). m.1) is

  pub first_held : (v : View K Q) (letter : Option (Letter Q R)) (after : Knower K Q R) → after ≡ holding v letter → after.1 ≡ (0, letter) ∷ rest after.1
  first_held v letter after is = subst (λ (m : Knower K Q R). m.1 ≡ (0, letter) ∷ rest m.1) (sym is) refl
