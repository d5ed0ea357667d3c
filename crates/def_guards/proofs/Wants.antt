-- What holds of each want that a guarded worker was given holds of each that it tries.
use Rattle.std.proofs.Common.{◌≡◌, inl, inr, ℕ, suc, ◌+◌, Bool, true, false, cond, eqb, List, [], ◌∷◌, ◌++◌, length, Option, Some, None, set, refl, sym, ap, ◌∙◌, subst, arith}
use Rattle.std.proofs.lemmas.Bool.{cases_Bool, cases_lt, eqb-true, eqb-false}
use Rattle.std.proofs.lemmas.List.{get_or-set_same, get_or-set_other, set_past}
use Rattle.std.specs.List.{AllByRecursion}
use Rattle.def_guards.specs.declared.guard.Guard.{Guard}
use Rattle.def_guards.specs.declared.guard.Held.{Held}
use Rattle.def_guards.specs.Guards.{guard_for, holding, written}
use Rattle.def_guards.specs.declared.guard.Due.{Due}
use Rattle.def_guards.specs.Acts.{Watch, Decision, Act, wrote, kept, IsAct, Tried, after_act, after_acts, after_reading, decided, due_from, due_of, guard_at, held_at, held_by, is_skipped, want_of}
use Rattle.def_guards.specs.Turns.{Turn, AreTurns, IsTurn, after_turn, after_turns, Cut, nothing, at_next, in_turn, at_doubt, FitsCut}

module _ (P : Due → Type 0) where
  abbrev pub OfWant : Option Due → Type 0
  OfWant None = Unit {0}
  OfWant (Some want) = P want

  abbrev pub OfDecision : Decision → Type 0
  OfDecision d = P (record { point = d.point; version = d.version; value = d.value })

  abbrev pub OfAct : Act → Type 0
  OfAct act = P (want_of act)

  -- of the want of each turn
  abbrev pub AreGiven : List Turn → Type 0
  AreGiven turns = AllByRecursion (λ turn. OfWant turn.want) turns

  abbrev pub OfTurn : Turn → Type 0
  OfTurn turn = AllByRecursion OfAct turn.acts

  abbrev pub GivenCut : Cut → Type 0
  GivenCut nothing = Unit {0}
  GivenCut (at_next reading) = Unit {0}
  GivenCut (in_turn turn d cut) = OfWant turn.want
  GivenCut (at_doubt turn point differs) = OfWant turn.want

  abbrev pub OfCut : Cut → Type 0
  OfCut nothing = Unit {0}
  OfCut (at_next reading) = Unit {0}
  OfCut (in_turn turn d cut) = OfTurn turn × OfDecision d
  OfCut (at_doubt turn point differs) = OfTurn turn

  -- of each want that is held
  abbrev pub Holds : List Guard → Type 0
  Holds guards = (place : ℕ) (held : Held) → (guard_at guards place).held ≡ Some held → P (record { point = place; version = held.version; value = held.value })

  -- ---- what is due

  each_behind : (xs ys : List Due) → AllByRecursion P xs → AllByRecursion P ys → AllByRecursion P (xs ++ ys)
  each_behind [] ys first next = next
  each_behind (x ∷ xs) ys first next = (first.0, each_behind xs ys first.1 next)

  held_all : (place : ℕ) (found : Option Held) → ((held : Held) → found ≡ Some held → P (record { point = place; version = held.version; value = held.value })) →
      AllByRecursion P (held_at place found)
  held_all place None holds = tt
  held_all place (Some held) holds = (holds held refl, tt)

  unless_all : (skip : Bool) (due : List Due) → AllByRecursion P due → AllByRecursion P (cond skip [] due)
  unless_all true due all = tt
  unless_all false due all = all

  due_all : (guards : List Guard) (from : ℕ) (skipped : Option ℕ) →
      ((place : ℕ) (held : Held) → (guard_at guards place).held ≡ Some held → P (record { point = from + place; version = held.version; value = held.value })) →
      AllByRecursion P (due_from from skipped guards)
  due_all [] from skipped holds = tt
  due_all (guard ∷ guards) from skipped holds =
      let here : from + 0 ≡ from = omega arith in
      each_behind (cond (is_skipped skipped from) [] (held_at from guard.held)) (due_from (from + 1) skipped guards)
      (unless_all (is_skipped skipped from) (held_at from guard.held)
      (held_all from guard.held (λ held is. subst (λ p. P (record { point = p; version = held.version; value = held.value })) here (holds 0 held is))))
      (due_all guards (from + 1) skipped (λ place held is.
      let on : from + suc place ≡ (from + 1) + place = omega arith in
      subst (λ p. P (record { point = p; version = held.version; value = held.value })) on (holds (suc place) held is)))

  from_start : (guards : List Guard) → Holds guards →
      (place : ℕ) (held : Held) → (guard_at guards place).held ≡ Some held → P (record { point = 0 + place; version = held.version; value = held.value })
  from_start guards holds place held is =
      let here : place ≡ 0 + place = omega arith in
      subst (λ p. P (record { point = p; version = held.version; value = held.value })) here (holds place held is)

  due_of_all : (want : Option Due) (guards : List Guard) → OfWant want → Holds guards → AllByRecursion P (due_of want guards)
  due_of_all None guards given holds = due_all guards 0 None (from_start guards holds)
  due_of_all (Some want) guards given holds = (given, due_all guards 0 (Some want.point) (from_start guards holds))

  -- ---- a guard is set

  set_holds : (guards : List Guard) (at : ℕ) (guard : Guard) → Holds guards →
      ((held : Held) → guard.held ≡ Some held → P (record { point = at; version = held.version; value = held.value })) → Holds (set guards at guard)
  set_holds guards at guard holds new place held is = elim (cases_Bool (eqb place at)) [
    | inl same ↦ elim (cases_lt at (length guards)) [
      | inl known ↦
          let here : place ≡ at = eqb-true place at same in
          let now : guard_at (set guards at guard) at ≡ guard = get_or-set_same guards at guard (guard_for 0 0) known in
          subst (λ p. P (record { point = p; version = held.version; value = held.value })) (sym here)
          (new held (ap (λ g. g.held) (sym now) ∙ ap (λ p. (guard_at (set guards at guard) p).held) (sym here) ∙ is))
      | inr past ↦ holds place held (ap (λ gs. (guard_at gs place).held) (sym (set_past guards at guard past)) ∙ is)
    ]
    | inr other ↦ holds place held (ap (λ g. g.held) (sym (get_or-set_other guards at place guard (guard_for 0 0) (eqb-false place at other))) ∙ is)
  ]

  -- ---- one want after another

  of_decided : (want : Due) (d : Decision) (now : ℕ) → d ≡ decided want now → P want → OfDecision d
  of_decided want d now is holds = subst OfDecision (sym is) holds

  act_of : (watch : Watch) (want : Due) (act : Act) → IsAct watch want act → P want → OfAct act
  act_of watch want (wrote d reason ok told answer) is holds = of_decided want d watch.now is.0 holds
  act_of watch want (kept d answer) is holds = of_decided want d watch.now is.0 holds

  act_holds : (watch : Watch) (act : Act) → OfAct act → Holds watch.guards → Holds (after_act act watch).guards
  act_holds watch (wrote d reason ok told answer) of_act holds =
      set_holds watch.guards d.point (written d.value watch.now (guard_at watch.guards d.point)) holds (λ held is. absurd cc)
  act_holds watch (kept d answer) of_act holds =
      set_holds watch.guards d.point (holding (held_by d) (guard_at watch.guards d.point)) holds
      (λ held is. let same : held_by d ≡ held = cc in subst (λ h. P (record { point = d.point; version = h.version; value = h.value })) same of_act)

  pub tried_all : (acts : List Act) (watch : Watch) (due left : List Due) → Tried watch due acts left → AllByRecursion P due → Holds watch.guards →
      AllByRecursion OfAct acts × Holds (after_acts acts watch).guards × AllByRecursion P left
  tried_all [] watch due left tried all holds = (tt, holds, subst (AllByRecursion P) tried all)
  tried_all (act ∷ acts) watch [] left tried all holds = absurd tried
  tried_all (act ∷ acts) watch (want ∷ due) left tried all holds =
      let one : OfAct act = act_of watch want act tried.0 all.0 in
      let more = tried_all acts (after_act act watch) due left tried.1 all.1 (act_holds watch act one holds) in
      ((one, more.0), more.1, more.2)

  pub turn_all : (turn : Turn) (watch : Watch) (left : List Due) → IsTurn watch turn left → OfWant turn.want → Holds watch.guards →
      OfTurn turn × Holds (after_turn turn watch).guards × AllByRecursion P left
  turn_all turn watch left is given holds =
      tried_all turn.acts (after_reading turn.reading watch) (due_of turn.want watch.guards) left is (due_of_all turn.want watch.guards given holds) holds

  -- ---- one turn after another

  pub turns_all : (turns : List Turn) (watch : Watch) → AreTurns watch turns → AreGiven turns → Holds watch.guards →
      AllByRecursion OfTurn turns × Holds (after_turns turns watch).guards
  turns_all [] watch are given holds = (tt, holds)
  turns_all (turn ∷ turns) watch are given holds =
      let one = turn_all turn watch [] are.0 given.0 holds in
      let more = turns_all turns (after_turn turn watch) are.1 given.1 one.1 in
      ((one.0, more.0), more.1)

  pub cut_all : (last : Cut) (watch : Watch) → FitsCut watch last → GivenCut last → Holds watch.guards → OfCut last
  cut_all nothing watch fits given holds = tt
  cut_all (at_next reading) watch fits given holds = tt
  cut_all (in_turn turn d cut) watch fits given holds =
      let one = turn_all turn watch (fits.want ∷ fits.left) fits.tried given holds in
      (one.0, of_decided fits.want d (after_turn turn watch).now fits.decides one.2.0)
  cut_all (at_doubt turn point differs) watch fits given holds = (turn_all turn watch [] fits given holds).0
