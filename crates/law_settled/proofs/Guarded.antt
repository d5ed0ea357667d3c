-- The turns of a worker that keeps minimum times agree with its calls: each want that it tries is the last that it was given of its point.
use Rattle.std.proofs.Common.{◌≡◌, ◌⊎◌, inl, inr, ℕ, zero, suc, ◌+◌, ◌<◌, ◌==◌, max, ℤ, Bool, true, false, cond, List, [], ◌∷◌, ◌++◌, length, map, Option, Some, None, set, refl, ap, sym, ◌∙◌, subst, arith}
use Rattle.std.specs.List.{AllByRecursion}
use Rattle.std.proofs.lemmas.Bool.{cond_both}
use Rattle.std.proofs.lemmas.Bool.Decides.{nat_tests}
use Rattle.std.proofs.lemmas.List.{length-map, length-set, get_or-set_same, get_or-set_other}
use Rattle.boss_model.specs.declared.answer.Answer.{Answer}
use Rattle.boss_model.specs.declared.command.Command.TheVariants.{Doubt, Next, Read, Report}
use Rattle.boss_model.specs.Catalogue.{Catalogue, Point}
use Rattle.boss_model.specs.DeviceCall.{DeviceCall}
use Rattle.def_history.specs.declared.entry.Entry.{Entry}
use Rattle.def_history.specs.declared.entry.Entry.TheVariants.{Did}
use Rattle.def_guards.specs.declared.guard.Due.{Due}
use Rattle.def_guards.specs.declared.guard.Guard.{Guard}
use Rattle.def_guards.specs.declared.guard.Held.{Held}
use Rattle.def_guards.specs.Guards.{guard_for, guard_of, guards_of, holding, written}
use Rattle.def_guards.specs.Acts.{Watch, Decision, Reason, passed, shown, Act, wrote, kept, IsAct, Tried, after_act, after_acts, after_reading, decided, due_from, due_of, guard_at, held_at, held_by, is_skipped}
use Rattle.def_guards.specs.Turns.{Turn, Doubt as Doubted, IsTurn, AreTurns, after_turn, after_turns, at_clock, at_report, TryCut, at_read, at_write, Cut, nothing, at_next, in_turn, at_doubt, FitsCut}
use Rattle.def_lanes.proofs.Lists.{each-append}
use Rattle.boss_expiry.specs.declared.end.WorkEnd.{WorkEnd}
use Rattle.boss_expiry.specs.Ends.{mark}
use Rattle.boss_drive.specs.Driving.{Made, both}
use Rattle.def_lanes.specs.Works.{Course}
use Rattle.boss_guard.specs.GuardDrives.{IsGuardOf}
use Rattle.boss_guard.specs.Guarding.{start}
use Rattle.boss_guard.specs.Making.{answer_for, reads, made_by_act, made_by_acts, doubts, made_before, made_in, made_in_turns, left_by, left_by_try}
use Rattle.law_settled.specs.Settled.{last_from}
use Rattle.law_settled.proofs.Told.{Told, asked_for, if_asked, is_noted, reports, told_by, told_in, told-append, told-deeds}
use Rattle.law_settled.proofs.Agreeing.{Agrees, IsOpen, agrees-want, open-want, agrees-report, agrees-call, last-append, mark-told}

module _ (driver point : ℕ) (Before : ℤ → Type 0) where
  -- a want of another point
  abbrev IsOther : Due → Type 0
  IsOther want = (want.point == point) ≡ false

  -- of the wants that are due at most one is of the point, and that one was the last to be given
  abbrev AreOpen : Told → List Due → Type 0
  AreOpen told [] = Unit {0}
  AreOpen told (want ∷ due) = (want.point ≡ point → IsOpen point Before told want.value × AllByRecursion IsOther due) × AreOpen told due

  abbrev IsDue : List Due → Type 0
  IsDue [] = ⊥
  IsDue (want ∷ due) = (want.point ≡ point) ⊎ IsDue due

  -- what is held of the point was the last to be given, unless one of these is of the point
  abbrev HoldsOpen : Told → List Guard → List Due → Type 0
  HoldsOpen told guards due = (held : Held) → (guard_at guards point).held ≡ Some held → IsOpen point Before told held.value ⊎ IsDue due

  -- ---- what is due

  other-open : (told : Told) (due : List Due) → AllByRecursion IsOther due → AreOpen told due
  other-open told [] others = tt
  other-open told (want ∷ due) others = ((λ same. absurd (let apart = others.0 in grind (arith, nat_tests))), other-open told due others.1)

  held-other : (from : ℕ) (found : Option Held) → (from == point) ≡ false → AllByRecursion IsOther (held_at from found)
  held-other from None apart = tt
  held-other from (Some held) apart = (apart, tt)

  due-other : (guards : List Guard) (from : ℕ) (skipped : Option ℕ) → (point < from) ⊎ (is_skipped skipped point ≡ true) → AllByRecursion IsOther (due_from from skipped guards)
  due-other [] from skipped out = tt
  due-other (guard ∷ guards) from skipped out =
      each-append IsOther (cond (is_skipped skipped from) [] (held_at from guard.held)) (due_from (from + 1) skipped guards)
      (cond_both (is_skipped skipped from) [] (held_at from guard.held) (λ due. AllByRecursion IsOther due) (λ _. tt) (λ goes. held-other from guard.held (apart out goes)))
      (due-other guards (from + 1) skipped (on out))
    where
      apart : (point < from) ⊎ (is_skipped skipped point ≡ true) → is_skipped skipped from ≡ false → (from == point) ≡ false
      apart (inl below) goes = grind (arith, nat_tests)
      apart (inr skip) goes = cond_both (from == point) true false (λ b. (from == point) ≡ b → (from == point) ≡ false)
          (λ here _. let same : from ≡ point = grind (arith, nat_tests) in let both : true ≡ false = sym skip ∙ ap (is_skipped skipped) (sym same) ∙ goes in absurd cc)
          (λ other _. other) (grind (arith, nat_tests))

      on : (point < from) ⊎ (is_skipped skipped point ≡ true) → (point < from + 1) ⊎ (is_skipped skipped point ≡ true)
      on (inl below) = inl (omega arith)
      on (inr skip) = inr skip

  held-open : (told : Told) (from : ℕ) (found : Option Held) (behind : List Due) → ((held : Held) → from ≡ point → found ≡ Some held → IsOpen point Before told held.value) →
      AllByRecursion IsOther behind ⊎ (¬ (from ≡ point)) → AreOpen told behind → AreOpen told (held_at from found ++ behind)
  held-open told from None behind holds others opens = opens
  held-open told from (Some held) behind holds (inl others) opens = ((λ same. (holds held same refl, others)), opens)
  held-open told from (Some held) behind holds (inr apart) opens = ((λ same. absurd (apart same)), opens)

  due-open : (told : Told) (guards : List Guard) (from : ℕ) (skipped : Option ℕ) →
      ((place : ℕ) (held : Held) → from + place ≡ point → (guard_at guards place).held ≡ Some held → IsOpen point Before told held.value) → AreOpen told (due_from from skipped guards)
  due-open told [] from skipped holds = tt
  due-open told (guard ∷ guards) from skipped holds =
      let rest : AreOpen told (due_from (from + 1) skipped guards) =
      due-open told guards (from + 1) skipped (λ place held is found. holds (suc place) held (let on : from + suc place ≡ (from + 1) + place = omega arith in on ∙ is) found) in
      cond_both (is_skipped skipped from) [] (held_at from guard.held) (λ first. AreOpen told (first ++ due_from (from + 1) skipped guards)) (λ _. rest)
      (λ _. held-open told from guard.held (due_from (from + 1) skipped guards)
      (λ held same found. holds 0 held (let here : from + 0 ≡ from = omega arith in here ∙ same) found) (others (from == point) refl) rest)
    where
      others : (here : Bool) → (from == point) ≡ here → AllByRecursion IsOther (due_from (from + 1) skipped guards) ⊎ (¬ (from ≡ point))
      others true is = let same : from ≡ point = grind (arith, nat_tests) in inl (due-other guards (from + 1) skipped (inl (omega (arith, same))))
      others false is = inr (λ same. absurd (grind (arith, nat_tests)))

  -- the want that a turn is given takes the place of a held one of its point
  given-open : (want : Option Due) (guards : List Guard) (told : Told) → HoldsOpen told guards [] →
      AreOpen (if_asked (asked_for point (answer_for want)) told) (due_of want guards)
      × HoldsOpen (if_asked (asked_for point (answer_for want)) told) guards (due_of want guards)
  given-open None guards told holds = (due-open told guards 0 None (λ place held is found. holding-on place held is found), λ held found. inl (opens held found))
    where
      opens : (held : Held) → (guard_at guards point).held ≡ Some held → IsOpen point Before told held.value
      opens held found = elim (holds held found) [
        | inl is ↦ is
        | inr none ↦ absurd none
      ]

      holding-on : (place : ℕ) (held : Held) → 0 + place ≡ point → (guard_at guards place).held ≡ Some held → IsOpen point Before told held.value
      holding-on place held is found =
          let same : place ≡ point = omega (arith, is) in opens held (ap (λ k. (guard_at guards k).held) (sym same) ∙ found)
  given-open (Some want) guards told holds = by (want.point == point) refl
    where
      opens : (held : Held) → (guard_at guards point).held ≡ Some held → IsOpen point Before told held.value
      opens held found = elim (holds held found) [
        | inl is ↦ is
        | inr none ↦ absurd none
      ]

      skips : want.point ≡ point → is_skipped (Some want.point) point ≡ true
      skips same = grind (arith, nat_tests)

      by : (here : Bool) → (want.point == point) ≡ here →
          AreOpen (if_asked (asked_for point (answer_for (Some want))) told) (want ∷ due_from 0 (Some want.point) guards)
          × HoldsOpen (if_asked (asked_for point (answer_for (Some want))) told) guards (want ∷ due_from 0 (Some want.point) guards)
      by true is =
          let same : want.point ≡ point = grind (arith, nat_tests) in
          let others : AllByRecursion IsOther (due_from 0 (Some want.point) guards) = due-other guards 0 (Some want.point) (inr (skips same)) in
          (((λ _. (open-want point Before want.point want.value told same, others)), other-open _ (due_from 0 (Some want.point) guards) others), λ held found. inr (inl same))
      by false is =
          let still : told ≡ if_asked (asked_for point (answer_for (Some want))) told = ap (λ b. if_asked (cond b (Some want.value) None) told) (sym is) in
          subst (λ t. AreOpen t (want ∷ due_from 0 (Some want.point) guards) × HoldsOpen t guards (want ∷ due_from 0 (Some want.point) guards)) still (
            (
              (λ same. absurd (grind (arith, nat_tests))),
              due-open told guards 0 (Some want.point) (λ place held at found.
                  let same : place ≡ point = omega (arith, at) in opens held (ap (λ k. (guard_at guards k).held) (sym same) ∙ found)),
            ),
            λ held found. inl (opens held found),
          )

  -- ---- what becomes of one want

  test-apart : (other : ℕ) → ¬ (other ≡ point) → (other == point) ≡ false
  test-apart other apart = by (other == point) refl
    where
      by : (here : Bool) → (other == point) ≡ here → (other == point) ≡ false
      by true is = absurd (apart (grind (arith, nat_tests)))
      by false is = is

  reads-told : (d : Decision) (reason : Reason) (entries : List Entry) (told : Told) → told_in point (reads d reason ++ entries) told ≡ told_in point entries told
  reads-told d passed entries told = refl
  reads-told d (shown answer) entries told = refl

  report-other : (other version : ℕ) (ok : Bool) (given : Answer) (told : Told) → (other == point) ≡ false → told ≡ told_by point (Report other version ok) given told
  report-other other version ok given told apart = cond_both (is_noted given) (cond (other == point) (reports ok told) told) told (λ next. told ≡ next)
      (λ _. ap (λ b. cond b (reports ok told) told) (sym apart)) (λ _. refl)

  -- a guard is set, of the point or of another one
  set-holds : (told : Told) (guards : List Guard) (want : Due) (guard : Guard) (due : List Due) → point < length guards →
      (want.point ≡ point → (held : Held) → guard.held ≡ Some held → IsOpen point Before told held.value) →
      (¬ (want.point ≡ point) → HoldsOpen told guards (want ∷ due)) → HoldsOpen told (set guards want.point guard) due
  set-holds told guards want guard due known new old = by (want.point == point) refl
    where
      by : (here : Bool) → (want.point == point) ≡ here → HoldsOpen told (set guards want.point guard) due
      by true is = λ held found.
          let same : want.point ≡ point = grind (arith, nat_tests) in
          let now : guard_at (set guards want.point guard) want.point ≡ guard = get_or-set_same guards want.point guard (guard_for 0 0) (subst (λ p. p < length guards) (sym same) known) in
          inl (new same held (ap (λ g. g.held) (sym now) ∙ ap (λ p. (guard_at (set guards want.point guard) p).held) same ∙ found))
      by false is = λ held found.
          let apart : ¬ (want.point ≡ point) = λ same. absurd (grind (arith, nat_tests)) in
          elim (old apart held (ap (λ g. g.held) (sym (get_or-set_other guards want.point point guard (guard_for 0 0) (λ same. apart (sym same)))) ∙ found)) [
            | inl opens ↦ inl opens
            | inr (inl same) ↦ absurd (apart same)
            | inr (inr more) ↦ inr more
          ]

  -- what is told of the point, and its last call, behind what was made
  abbrev told_behind : Made → Told → Told
  told_behind made told = told_in point made.entries told

  abbrev last_behind : Made → Option DeviceCall → Option DeviceCall
  last_behind made last = last_from point last made.calls

  -- how a worker stands that has these wants left
  record Stands (told : Told) (last : Option DeviceCall) (guards : List Guard) (due : List Due) : Type 0 where
    agrees : Agrees point Before told last
    opens : AreOpen told due
    holds : HoldsOpen told guards due
    known : point < length guards

  kept-stands : (watch : Watch) (want : Due) (due : List Due) (told : Told) (last : Option DeviceCall) → Stands told last watch.guards (want ∷ due) →
      Stands told last (set watch.guards want.point (holding (held_by (decided want watch.now)) (guard_at watch.guards want.point))) due
  kept-stands watch want due told last stands =
      let guard : Guard = holding (held_by (decided want watch.now)) (guard_at watch.guards want.point) in
      record {
        agrees = stands.agrees;
        opens = stands.opens.1;
        holds = set-holds told watch.guards want guard due stands.known
            (λ same held found. let is : held_by (decided want watch.now) ≡ held = cc in
            subst (λ h. IsOpen point Before told h.value) is (stands.opens.0 same).0)
            (λ _. stands.holds);
        known = subst (λ n. point < n) (sym (length-set watch.guards want.point guard)) stands.known;
      }

  wrote-stands : (watch : Watch) (want : Due) (ok : Bool) (answer : Answer) (due : List Due) (told : Told) (last : Option DeviceCall) → Stands told last watch.guards (want ∷ due) →
      Stands (told_by point (Report want.point want.version ok) answer told) (last_from point last (record { point = want.point; value = want.value; ok = ok } ∷ []))
      (set watch.guards want.point (written want.value watch.now (guard_at watch.guards want.point))) due
  wrote-stands watch want ok answer due told last stands =
      let guard : Guard = written want.value watch.now (guard_at watch.guards want.point) in
      let next : Told = told_by point (Report want.point want.version ok) answer told in
      record {
        agrees = agrees-report point Before told last want.point want.version want.value ok answer stands.agrees (λ same. (stands.opens.0 same).0);
        opens = opens (want.point == point) refl;
        holds = set-holds next watch.guards want guard due stands.known (λ same held found. absurd cc)
            (λ apart. subst (λ t. HoldsOpen t watch.guards (want ∷ due)) (report-other want.point want.version ok answer told (test-apart want.point apart)) stands.holds);
        known = subst (λ n. point < n) (sym (length-set watch.guards want.point guard)) stands.known;
      }
    where
      opens : (here : Bool) → (want.point == point) ≡ here → AreOpen (told_by point (Report want.point want.version ok) answer told) due
      opens true is = let same : want.point ≡ point = grind (arith, nat_tests) in other-open _ due (stands.opens.0 same).1
      opens false is = subst (λ t. AreOpen t due) (report-other want.point want.version ok answer told is) stands.opens.1

  act-stands : (watch : Watch) (want : Due) (act : Act) (due : List Due) (told : Told) (last : Option DeviceCall) → IsAct watch want act →
      Stands told last watch.guards (want ∷ due) → Stands (told_behind (made_by_act act) told) (last_behind (made_by_act act) last) (after_act act watch).guards due
  act-stands watch want (kept d answer) due told last is stands =
      subst (λ e. Stands told last (after_act (kept e answer) watch).guards due) (sym is.0) (kept-stands watch want due told last stands)
  act-stands watch want (wrote d reason ok later answer) due told last is stands =
      subst (λ e. Stands (told_behind (made_by_act (wrote e reason ok later answer)) told) (last_behind (made_by_act (wrote e reason ok later answer)) last)
      (after_act (wrote e reason ok later answer) watch).guards due) (sym is.0)
      (subst (λ t. Stands t (last_from point last (record { point = want.point; value = want.value; ok = ok } ∷ []))
      (set watch.guards want.point (written want.value watch.now (guard_at watch.guards want.point))) due)
      (sym (reads-told (decided want watch.now) reason (Did 0 (Report want.point want.version ok) (max watch.now later) answer ∷ []) told))
      (wrote-stands watch want ok answer due told last stands))

  -- ---- the wants of a turn, and turns

  stands-both : (first then : Made) (told : Told) (last : Option DeviceCall) (guards : List Guard) (due : List Due) →
      Stands (told_behind then (told_behind first told)) (last_behind then (last_behind first last)) guards due →
      Stands (told_behind (both first then) told) (last_behind (both first then) last) guards due
  stands-both first then told last guards due stands =
      subst (λ t. Stands t (last_behind (both first then) last) guards due) (sym (told-append point first.entries then.entries told))
      (subst (λ l. Stands (told_behind then (told_behind first told)) l guards due) (sym (last-append point last first.calls then.calls)) stands)

  tried-stands : (acts : List Act) (watch : Watch) (due left : List Due) (told : Told) (last : Option DeviceCall) → Tried watch due acts left →
      Stands told last watch.guards due → Stands (told_behind (made_by_acts acts) told) (last_behind (made_by_acts acts) last) (after_acts acts watch).guards left
  tried-stands [] watch due left told last tried stands = subst (Stands told last watch.guards) tried stands
  tried-stands (act ∷ acts) watch [] left told last tried stands = absurd tried
  tried-stands (act ∷ acts) watch (want ∷ due) left told last tried stands =
      stands-both (made_by_act act) (made_by_acts acts) told last (after_acts acts (after_act act watch)).guards left
      (tried-stands acts (after_act act watch) due left _ _ tried.1 (act-stands watch want act due told last tried.0 stands))

  -- a turn up to a doubt
  before-stands : (watch : Watch) (turn : Turn) (left : List Due) (told : Told) (last : Option DeviceCall) → IsTurn watch turn left → Stands told last watch.guards [] →
      Stands (told_behind (made_before driver watch turn) told) (last_behind (made_before driver watch turn) last) (after_turn turn watch).guards left
  before-stands watch turn left told last is stands =
      let next : Told = if_asked (asked_for point (answer_for turn.want)) told in
      let given = given-open turn.want watch.guards told stands.holds in
      tried-stands turn.acts (after_reading turn.reading watch) (due_of turn.want watch.guards) left next last is
      (record {
        agrees = agrees-want point Before (asked_for point (answer_for turn.want)) told last stands.agrees;
        opens = given.0;
        holds = given.1;
        known = stands.known;
      })

  -- a doubt tells nothing
  doubt-told : (moment : ℕ) (doubt : Option Doubted) (told : Told) → told_in point (doubts moment doubt) told ≡ told
  doubt-told moment None told = refl
  doubt-told moment (Some doubt) told = refl

  turn-stands : (watch : Watch) (turn : Turn) (told : Told) (last : Option DeviceCall) → IsTurn watch turn [] → Stands told last watch.guards [] →
      Stands (told_behind (made_in driver watch turn) told) (last_behind (made_in driver watch turn) last) (after_turn turn watch).guards []
  turn-stands watch turn told last is stands =
      let made : Made = made_before driver watch turn in
      let more : List Entry = doubts (after_turn turn watch).now turn.doubt in
      subst (λ t. Stands t (last_behind made last) (after_turn turn watch).guards [])
      (sym (told-append point made.entries more told ∙ doubt-told (after_turn turn watch).now turn.doubt (told_behind made told)))
      (before-stands watch turn [] told last is stands)

  turns-stand : (turns : List Turn) (watch : Watch) (told : Told) (last : Option DeviceCall) → AreTurns watch turns → Stands told last watch.guards [] →
      Stands (told_behind (made_in_turns driver watch turns) told) (last_behind (made_in_turns driver watch turns) last) (after_turns turns watch).guards []
  turns-stand [] watch told last are stands = stands
  turns-stand (turn ∷ turns) watch told last are stands =
      stands-both (made_in driver watch turn) (made_in_turns driver (after_turn turn watch) turns) told last (after_turns turns (after_turn turn watch)).guards []
      (turns-stand turns (after_turn turn watch) _ _ are.1 (turn-stands watch turn told last are.0 stands))

  -- ---- what an end cut

  abbrev AgreesBehind : Made → Told → Option DeviceCall → Type 0
  AgreesBehind made told last = Agrees point Before (told_behind made told) (last_behind made last)

  try-agrees : (end : WorkEnd) (d : Decision) (cut : TryCut) (told : Told) (last : Option DeviceCall) → (d.point ≡ point → told.took ≡ None) → Agrees point Before told last →
      AgreesBehind (left_by_try end d cut) told last
  try-agrees end d at_read told last none agrees = subst (λ t. Agrees point Before t last) (sym (mark-told point d.now (Read d.point) end told)) agrees
  try-agrees end d (at_write reason (at_clock ok)) told last none agrees =
      subst (λ t. Agrees point Before t (last_from point last (record { point = d.point; value = d.value; ok = ok } ∷ []))) (sym (reads-told d reason [] told))
      (agrees-call point Before told last (record { point = d.point; value = d.value; ok = ok }) agrees none)
  try-agrees end d (at_write reason (at_report ok later)) told last none agrees =
      subst (λ t. Agrees point Before t (last_from point last (record { point = d.point; value = d.value; ok = ok } ∷ [])))
      (sym (reads-told d reason (mark (Report d.point d.version ok) (max d.now later) end) told ∙ mark-told point (max d.now later) (Report d.point d.version ok) end told))
      (agrees-call point Before told last (record { point = d.point; value = d.value; ok = ok }) agrees none)

  cut-agrees : (end : WorkEnd) (watch : Watch) (cut : Cut) (told : Told) (last : Option DeviceCall) → FitsCut watch cut → Stands told last watch.guards [] →
      AgreesBehind (left_by driver end watch cut) told last
  cut-agrees end watch nothing told last fits stands = stands.agrees
  cut-agrees end watch (at_next reading) told last fits stands =
      subst (λ t. Agrees point Before t last) (sym (mark-told point (max watch.now reading) (Next driver) end told)) stands.agrees
  cut-agrees end watch (in_turn turn d cut) told last fits stands =
      let turned = before-stands watch turn (fits.want ∷ fits.left) told last fits.tried stands in
      let made : Made = made_before driver watch turn in
      subst (λ t. Agrees point Before t (last_behind (both made (left_by_try end d cut)) last)) (sym (told-append point made.entries (left_by_try end d cut).entries told))
      (subst (λ l. Agrees point Before (told_behind (left_by_try end d cut) (told_behind made told)) l) (sym (last-append point last made.calls (left_by_try end d cut).calls))
      (try-agrees end d cut (told_behind made told) (last_behind made last)
      (λ same. (turned.opens.0 (ap (λ e. e.point) (sym fits.decides) ∙ same)).0.1) turned.agrees))
  cut-agrees end watch (at_doubt turn other differs) told last fits stands =
      let made : Made = made_before driver watch turn in
      let moment : ℕ = (after_turn turn watch).now in
      subst (λ t. Agrees point Before t (last_behind made last))
      (sym (told-append point made.entries (mark (Doubt other differs) moment end) told ∙ mark-told point moment (Doubt other differs) end (told_behind made told)))
      (before-stands watch turn [] told last fits stands).agrees

  -- ---- the whole work

  none-held : (points : List Point) (place : ℕ) → (guard_at (map guard_of points) place).held ≡ None
  none-held [] place = refl
  none-held (p ∷ points) zero = refl
  none-held (p ∷ points) (suc place) = none-held points place

  pub guard-agrees : (catalogue : Catalogue) (calls : List DeviceCall) (pausing : Type 0) (pauses : ℕ) (course : Course) (entries : List Entry) (told : Told) →
      IsGuardOf catalogue driver calls pausing pauses course entries → point < length catalogue.points → Agrees point Before told None →
      Agrees point Before (told_in point entries told) (last_from point None calls)
  guard-agrees catalogue calls pausing pauses course entries told is known agrees =
      let watch : Watch = start (guards_of catalogue) in
      let whole : Made = made_in_turns driver watch is.turns in
      let rest : Made = left_by driver is.end (after_turns is.turns watch) is.last in
      let begins : Stands told None watch.guards [] = record {
        agrees = agrees;
        opens = tt;
        holds = λ held found. absurd (let none : (guard_at (guards_of catalogue) point).held ≡ None = none-held catalogue.points point in cc);
        known = subst (λ n. point < n) (sym (length-map catalogue.points guard_of)) known;
      } in
      let turned = turns-stand is.turns watch told None is.are begins in
      let same : told_in point entries told ≡ told_behind (both whole rest) told = ap (λ es. told_in point es told) is.entries_are ∙ told-deeds point (both whole rest).entries told in
      subst (λ t. Agrees point Before t (last_from point None calls)) (sym (same ∙ told-append point whole.entries rest.entries told))
      (subst (λ cs. Agrees point Before (told_behind rest (told_behind whole told)) (last_from point None cs)) (sym is.calls_are)
      (subst (λ l. Agrees point Before (told_behind rest (told_behind whole told)) l) (sym (last-append point None whole.calls rest.calls))
      (cut-agrees is.end (after_turns is.turns watch) is.last (told_behind whole told) (last_behind whole None) is.fits turned)))
