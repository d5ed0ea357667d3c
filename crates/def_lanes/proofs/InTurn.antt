-- The works of one worker follow one another, also after a join.
use Rattle.std.proofs.Common.{◌≡◌, ℕ, ◌<◌, ◌≤◌, true, false, Bool, ◌||◌, cond, List, [], ◌∷◌, ◌++◌, refl, ap, sym, ◌∙◌, arith}
use Rattle.std.specs.List.{AllByRecursion, filter}
use Rattle.std.proofs.lemmas.List.{append-nil}
use Rattle.boss_model.specs.declared.state.Actuator.{Actuator}
use Rattle.def_history.specs.declared.entry.Entry.{Entry}
use Rattle.def_history.specs.History.{deeds}
use Rattle.def_lanes.specs.Lanes.{Lane, in_either, in_lane, only, done_in}
use Rattle.def_lanes.specs.Parts.{Joined, StandsBefore, ComesFirst, AreInTurn}
use Rattle.def_lanes.specs.Works.{Work, lane_of_work, owner, AreOf, IsAbsent, AreStrange}
use Rattle.def_lanes.proofs.Choices.{only-grown}
use Rattle.def_lanes.proofs.Lists.{each-append, each-map, each-both}

-- ---- one of two tests

-- what passes neither passes not the one or the other
none-of-two : {X : Type 0} (p q : X → Bool) (xs : List X) → filter p xs ≡ [] → filter q xs ≡ [] → filter (λ x. p x || q x) xs ≡ []
none-of-two p q [] first then = refl
none-of-two p q (x ∷ xs) first then = step (p x) (q x) x (filter p xs) (filter q xs) (filter (λ y. p y || q y) xs) (none-of-two p q xs) first then
  where
    step : {X : Type 0} (b c : Bool) (x : X) (ps qs both : List X) → (ps ≡ [] → qs ≡ [] → both ≡ []) → cond b (x ∷ ps) ps ≡ [] → cond c (x ∷ qs) qs ≡ [] → cond (b || c) (x ∷ both) both ≡ []
    step true c x ps qs both rest first then = absurd cc
    step false true x ps qs both rest first then = absurd cc
    step false false x ps qs both rest first then = rest first then

-- where nothing passes the second, one of the two is the first; and the other way
first-of-two : {X : Type 0} (p q : X → Bool) (xs : List X) → filter q xs ≡ [] → filter (λ x. p x || q x) xs ≡ filter p xs
first-of-two p q [] none = refl
first-of-two p q (x ∷ xs) none = step (p x) (q x) x (filter p xs) (filter q xs) (filter (λ y. p y || q y) xs) (first-of-two p q xs) none
  where
    step : {X : Type 0} (b c : Bool) (x : X) (ps qs both : List X) → (qs ≡ [] → both ≡ ps) → cond c (x ∷ qs) qs ≡ [] → cond (b || c) (x ∷ both) both ≡ cond b (x ∷ ps) ps
    step b true x ps qs both rest none = absurd cc
    step true false x ps qs both rest none = ap (λ list. x ∷ list) (rest none)
    step false false x ps qs both rest none = rest none

second-of-two : {X : Type 0} (p q : X → Bool) (xs : List X) → filter p xs ≡ [] → filter (λ x. p x || q x) xs ≡ filter q xs
second-of-two p q [] none = refl
second-of-two p q (x ∷ xs) none = step (p x) (q x) x (filter p xs) (filter q xs) (filter (λ y. p y || q y) xs) (second-of-two p q xs) none
  where
    step : {X : Type 0} (b c : Bool) (x : X) (ps qs both : List X) → (ps ≡ [] → both ≡ qs) → cond b (x ∷ ps) ps ≡ [] → cond (b || c) (x ∷ both) both ≡ cond c (x ∷ qs) qs
    step true c x ps qs both rest none = absurd cc
    step false true x ps qs both rest none = ap (λ list. x ∷ list) (rest none)
    step false false x ps qs both rest none = rest none

-- ---- joins

module _ (plant : List Actuator) (old other new : List Entry) (join : Joined old other new) where
  stands-kept : (lane then : Lane) → done_in plant lane other ≡ [] → done_in plant then other ≡ [] → StandsBefore plant old lane then → StandsBefore plant new lane then
  stands-kept lane then none also stands =
      join.kept (in_either plant lane then) (none-of-two (in_lane plant lane) (in_lane plant then) (deeds other) none also) ∙ stands
      ∙ ap (λ front. front ++ done_in plant then old) (sym (join.kept (in_lane plant lane) none))
      ∙ ap (λ rest. done_in plant lane new ++ rest) (sym (join.kept (in_lane plant then) also))

  stands-taken : (lane then : Lane) → done_in plant lane old ≡ [] → done_in plant then old ≡ [] → StandsBefore plant other lane then → StandsBefore plant new lane then
  stands-taken lane then none also stands =
      join.taken_in (in_either plant lane then) (none-of-two (in_lane plant lane) (in_lane plant then) (deeds old) none also) ∙ stands
      ∙ ap (λ front. front ++ done_in plant then other) (sym (join.taken_in (in_lane plant lane) none))
      ∙ ap (λ rest. done_in plant lane new ++ rest) (sym (join.taken_in (in_lane plant then) also))

-- what is added in a lane stands behind all that was done in another
stands-behind : (plant : List Actuator) (old more new : List Entry) → deeds new ≡ deeds old ++ more → (lane then : Lane) → done_in plant then old ≡ [] → done_in plant lane more ≡ [] →
    StandsBefore plant new lane then
stands-behind plant old more new grew lane then none also =
    only-grown (in_either plant lane then) old more new grew
    ∙ ap (λ front. front ++ only (in_either plant lane then) more) (first-of-two (in_lane plant lane) (in_lane plant then) (deeds old) none)
    ∙ ap (λ rest. done_in plant lane old ++ rest) (second-of-two (in_lane plant lane) (in_lane plant then) (deeds more) also)
    ∙ ap (λ front. front ++ done_in plant then more) (sym (only-grown (in_lane plant lane) old more new grew ∙ ap (λ rest. done_in plant lane old ++ rest) also ∙ append-nil (done_in plant lane old)))
    ∙ ap (λ rest. done_in plant lane new ++ rest) (sym (only-grown (in_lane plant then) old more new grew ∙ ap (λ front. front ++ done_in plant then more) none))

-- ---- works

module _ (plant : List Actuator) (workers : ℕ) where
  -- works one after another, where each of the first comes before each of the others
  turn-append : (entries : List Entry) (xs ys : List Work) → AreInTurn plant workers entries xs → AreInTurn plant workers entries ys →
      AllByRecursion (λ x. AllByRecursion (ComesFirst plant workers entries x) ys) xs → AreInTurn plant workers entries (xs ++ ys)
  turn-append entries [] ys first then cross = then
  turn-append entries (x ∷ xs) ys first then cross =
      (each-append (ComesFirst plant workers entries x) xs ys first.0 cross.0, turn-append entries xs ys first.1 then cross.1)

  -- works of which the other side of a join has nothing
  abbrev Lacks : List Entry → Work → Type 0
  Lacks entries work = done_in plant (lane_of_work work) entries ≡ []

  turn-kept : (old other new : List Entry) → Joined old other new → (xs : List Work) → AllByRecursion (Lacks other) xs → AreInTurn plant workers old xs → AreInTurn plant workers new xs
  turn-kept old other new join [] lacks turn = tt
  turn-kept old other new join (x ∷ xs) lacks turn = (
    each-both (Lacks other) (ComesFirst plant workers old x) (ComesFirst plant workers new x)
        (λ y none first same. stands-kept plant old other new join (lane_of_work x) (lane_of_work y) lacks.0 none (first same)) xs lacks.1 turn.0,
    turn-kept old other new join xs lacks.1 turn.1,
  )

  turn-taken : (old other new : List Entry) → Joined old other new → (xs : List Work) → AllByRecursion (Lacks old) xs → AreInTurn plant workers other xs → AreInTurn plant workers new xs
  turn-taken old other new join [] lacks turn = tt
  turn-taken old other new join (x ∷ xs) lacks turn = (
    each-both (Lacks old) (ComesFirst plant workers other x) (ComesFirst plant workers new x)
        (λ y none first same. stands-taken plant old other new join (lane_of_work x) (lane_of_work y) lacks.0 none (first same)) xs lacks.1 turn.0,
    turn-taken old other new join xs lacks.1 turn.1,
  )

  -- works that are done in no lane of the others have nothing there
  lacking : (entries : List Entry) (xs others : List Work) → ((lane : Lane) → IsAbsent lane others → done_in plant lane entries ≡ []) → AreStrange xs others → AllByRecursion (Lacks entries) xs
  lacking entries xs others none strange = each-map (λ x. IsAbsent (lane_of_work x) others) (Lacks entries) (λ x absent. none (lane_of_work x) absent) xs strange

  -- one work more, in a lane of its own
  pub turn-more : (old more new : List Entry) → deeds new ≡ deeds old ++ more → Joined old more new → (works : List Work) (work : Work) →
      ((lane : Lane) → IsAbsent lane works → done_in plant lane old ≡ []) → ((lane : Lane) → ¬ (lane_of_work work ≡ lane) → done_in plant lane more ≡ []) →
      IsAbsent (lane_of_work work) works → AreInTurn plant workers old works → AreInTurn plant workers new (works ++ work ∷ [])
  turn-more old more new grew join works work none_old none_more absent turn =
      let lacks : AllByRecursion (Lacks more) works = each-map (λ x. ¬ (lane_of_work x ≡ lane_of_work work)) (Lacks more) (lacks-one more work none_more) works absent in
      turn-append new works (work ∷ []) (turn-kept old more new join works lacks turn) (tt, tt)
      (each-map (Lacks more) (λ x. AllByRecursion (ComesFirst plant workers new x) (work ∷ []))
      (behind-one old more new grew work (none_old (lane_of_work work) absent)) works lacks)
    where
      lacks-one : (more : List Entry) (work : Work) → ((lane : Lane) → ¬ (lane_of_work work ≡ lane) → done_in plant lane more ≡ []) → (x : Work) → ¬ (lane_of_work x ≡ lane_of_work work) → Lacks more x
      lacks-one more work none_more x differ = none_more (lane_of_work x) (λ same. differ (sym same))

      behind-one : (old more new : List Entry) → deeds new ≡ deeds old ++ more → (work : Work) → done_in plant (lane_of_work work) old ≡ [] → (x : Work) → Lacks more x →
          AllByRecursion (ComesFirst plant workers new x) (work ∷ [])
      behind-one old more new grew work none x lacks = (λ same. stands-behind plant old more new grew (lane_of_work x) (lane_of_work work) none lacks, tt)

  -- the works of some workers, and then those of others
  pub turn-both : (first middle end : ℕ) (old other new : List Entry) → Joined old other new → (xs ys : List Work) → AreOf workers first middle xs → AreOf workers middle end ys →
      ((lane : Lane) → IsAbsent lane xs → done_in plant lane old ≡ []) → ((lane : Lane) → IsAbsent lane ys → done_in plant lane other ≡ []) → AreStrange xs ys → AreStrange ys xs →
      AreInTurn plant workers old xs → AreInTurn plant workers other ys → AreInTurn plant workers new (xs ++ ys)
  turn-both first middle end old other new join xs ys of_xs of_ys none_old none_other strange turned turn_xs turn_ys =
      turn-append new xs ys (turn-kept old other new join xs (lacking other xs ys none_other strange) turn_xs)
      (turn-taken old other new join ys (lacking old ys xs none_old turned) turn_ys)
      (each-map (λ x. (first ≤ owner workers x) × (owner workers x < middle)) (λ x. AllByRecursion (ComesFirst plant workers new x) ys)
      (λ x below. each-map (λ y. (middle ≤ owner workers y) × (owner workers y < end)) (ComesFirst plant workers new x)
      (λ y above same. absurd (omega (arith, same, below.1, above.0))) ys of_ys) xs of_xs)
