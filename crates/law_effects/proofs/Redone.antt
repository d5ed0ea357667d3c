-- An act that is done again: whether it changes what outlasts a stop, and that it leaves it sound.
use Rattle.std.proofs.Common.{◌≡◌, ℕ, ◌+◌, ◌<◌, ◌≤◌, ◌==◌, nat_lt, List, [], ◌∷◌, length, Bool, true, false, not, ◌&&◌, ◌||◌, cond, Option, Some, None, is_some, is_none, unsigned_abs, refl, ap, sym, ◌∙◌, subst, arith}
use Rattle.std.specs.List.{filter, list_any, list_all, AllByRecursion}
use Rattle.std.proofs.lemmas.Bool.Decides.{nat_tests}
use Rattle.boss_model.specs.declared.answer.Refusal.{Refusal}
use Rattle.boss_model.specs.declared.command.Policy.{Policy}
use Rattle.boss_model.specs.declared.command.Policy.TheVariants.{Abort, Keep}
use Rattle.boss_model.specs.declared.command.Setting.{Setting}
use Rattle.boss_model.specs.declared.event.Act.{Act}
use Rattle.boss_model.specs.declared.event.Act.TheVariants as act
use Rattle.boss_model.specs.declared.event.Event.{Event}
use Rattle.boss_model.specs.declared.kept.Acceptance.{Acceptance}
use Rattle.boss_model.specs.declared.kept.Acceptance.TheVariants as acceptance
use Rattle.boss_model.specs.declared.notice.Cause.TheVariants as cause
use Rattle.boss_model.specs.declared.state.Actuator.{Actuator}
use Rattle.boss_model.specs.declared.state.Lease.{Lease}
use Rattle.boss_model.specs.Acts.{is_known_process, is_known_point, if_did, by_number, enrol_if, act_on, effective, replay}
use Rattle.boss_model.specs.Ends.{is_of, is_owned_by, end_leases, cancel, cancel_refused, lost, faulted_under, faulted}
use Rattle.boss_model.specs.Limits.{last_moment, last_number}
use Rattle.boss_model.specs.Outcomes.{Outcome, refused, did, unless}
use Rattle.boss_model.specs.Processes.{process_named, is_full, enrolled}
use Rattle.boss_model.specs.Renew.{transaction_of, is_meant, renewed, renew, renew_refused}
use Rattle.boss_model.specs.Replies.{answer_of, reply_of, remembered, once, is_repeat}
use Rattle.boss_model.specs.Same.{same_persistent}
use Rattle.boss_model.specs.Sound.{IsSoundPersistent}
use Rattle.boss_model.specs.State.{Persistent}
use Rattle.boss_model.specs.Submit.{first_until, granted, submitted, submit, submit_refused}
use Rattle.boss_model.specs.Target.{in_force}
use Rattle.boss_model.specs.Time.{moment_of, tick_to}
use Rattle.law_machine.proofs.SameDecides.{persistent-equal, persistent-self}
use Rattle.law_soundness.proofs.ActSound.{cancel-next, lost-next, faulted-next, enrol-sound}
use Rattle.law_soundness.proofs.EndSound.{IsAt, at-tick}
use Rattle.law_soundness.proofs.OnceCases.{IsAbove, repeat-of, once-by}
use Rattle.law_soundness.proofs.ReplySound.{IsGood, once-good, submit-good, renew-good, cancel-good}
use Rattle.law_spelling.specs.Ranges.{IsAct}
use Rattle.law_time.proofs.TickSound.{tick-sound}
use Rattle.law_effects.specs.Changes.{lengthens, renewal_changes, failure_changes, makes}
use Rattle.law_effects.proofs.Changed.{remembered-differs, cancel-some}
use Rattle.law_effects.proofs.Flags.{quiet-tick, early-tick, both-told}
use Rattle.law_effects.proofs.Parts.{enrolled-differs, submitted-differs, submitted-many, ends-differ, renewed-is, renewed-told, faulted-told}

-- ---- whether it makes a change

-- what an act makes at moment n, if it is not refused, is another persistent part exactly where the flag is set, and then it is of n
abbrev pub IsMade : ℕ → Persistent → Bool → Option Persistent → Type 0
IsMade n d flag None = Unit {0}
IsMade n d flag (Some after) = (same_persistent d after ≡ not flag) × (flag ≡ true → after.now ≡ n)

same-made : (n : ℕ) (d : Persistent) → IsMade n d false (Some d)
same-made n d = (persistent-self d, λ is. cc)

only-if : (n : ℕ) (d : Persistent) (flag test : Bool) (made : Option Persistent) → (test ≡ true → IsMade n d flag made) → IsMade n d flag (cond test made None)
only-if n d flag true made is = is refl
only-if n d flag false made is = tt

module _ (owner seq n : ℕ) (d : Persistent) (accepted : Acceptance) (changed : Persistent) (flag : Bool) (why : Option Refusal) (now : changed.now ≡ n)
    (many : why ≡ None → length changed.processes ≡ length d.processes)
    (plain : why ≡ None → seq ≡ 0 → same_persistent d changed ≡ not flag) (numbered : 0 < seq → flag ≡ true) where
  bare-made : (x : Option Refusal) → why ≡ x → seq ≡ 0 → IsMade n d flag (if_did (unless x (answer_of accepted) changed))
  bare-made None is none = (plain is none, λ _. now)
  bare-made (Some x) is none = tt

  remembered-made : (x : Option Refusal) → why ≡ x → owner < length d.processes → 0 < seq → IsAbove seq (reply_of d.processes owner) →
      IsMade n d flag (if_did (remembered owner seq (unless x (answer_of accepted) changed)))
  remembered-made None is known some above = (remembered-differs owner seq accepted d changed above known (many is) ∙ ap not (sym (numbered some)), λ _. now)
  remembered-made (Some x) is known some above = tt

  once-made : is_repeat owner seq d ≡ false → owner < length d.processes → IsMade n d flag (if_did (once owner seq d (unless why (answer_of accepted) changed)))
  once-made new known = once-by owner seq d (unless why (answer_of accepted) changed) (λ o. IsMade n d flag (if_did o))
      (bare-made why refl) (remembered-made why refl known)
      (λ reply some found is.
      let by = repeat-of owner seq d (Some reply) found in
      let again : is_repeat owner seq d ≡ true = grind (arith, nat_tests) in absurd (cc (sym again ∙ new)))
      (λ reply _ _ _. tt)

  pub number-made : IsMade n d flag (by_number owner seq d (unless why (answer_of accepted) changed))
  number-made = by (is_repeat owner seq d) refl
    where
      by : (again : Bool) → is_repeat owner seq d ≡ again →
          IsMade n d flag (cond again None (cond (is_known_process d owner) (if_did (once owner seq d (unless why (answer_of accepted) changed))) None))
      by true is = tt
      by false is = only-if n d flag (is_known_process d owner) (if_did (once owner seq d (unless why (answer_of accepted) changed)))
          (λ known. let there : owner < length d.processes = grind (arith, nat_tests) in once-made is there)

module _ (plant : List Actuator) (n : ℕ) (d : Persistent) (sound : IsSoundPersistent plant d) (at : IsAt n d) (small : n ≤ last_moment) where
  enrol-made : (found : Option ℕ) (name : List ℕ) → IsMade n d (is_none found) (enrol_if found name n d)
  enrol-made None name = by (is_full d.processes)
    where
      by : (full : Bool) → IsMade n d true (cond full None (Some (enrolled name n d)))
      by true = tt
      by false = (enrolled-differs name n d, λ _. refl)
  enrol-made (Some process) name = same-made n d

  lost-made : (owner : ℕ) (some : Bool) → list_any (is_owned_by owner) d.leases ≡ some →
      IsMade n d some (Some (cond some (end_leases (is_owned_by owner) cause.Died n [] d) d))
  lost-made owner true some = (ends-differ (is_owned_by owner) cause.Died n [] d at some, λ _. refl)
  lost-made owner false none = same-made n d

  fault-now : (found : Option Lease) → failure_changes n found d ≡ true → (faulted found n d).now ≡ n
  fault-now None is = cc
  fault-now (Some lease) is = by lease.policy
    where
      by : (policy : Policy) → (faulted_under policy lease n d).now ≡ n
      by Abort = refl
      by Keep = refl

  pub act-made : (done : Act) → IsMade n d (makes n done d) (act_on plant n done d)
  act-made (act.Enrol name) = enrol-made (process_named d.processes name) name
  act-made (act.Submit owner policy writes seq) =
      let why = submit_refused plant writes d in
      only-if n d true (list_all (λ write. is_known_point plant write.point) writes) (by_number owner seq d (submit plant owner policy writes n d))
      (λ _. number-made owner seq n d (acceptance.Accepted d.next (first_until (granted owner policy d.next n writes))) (submitted owner policy writes n d) true why refl
      (λ _. submitted-many owner policy writes n d) (λ _ _. submitted-differs owner policy writes n d) (λ _. refl))
  act-made (act.Renew owner txn asked points seq) =
      let why = renew_refused owner txn asked points n d in
      let made = renewed txn asked points n d in
      let flag = renewal_changes n txn asked points seq d in
      let bare = not (d.now == n) || lengthens txn points (n + unsigned_abs asked) d.leases in
      only-if n d flag (list_all (is_known_point plant) points) (by_number owner seq d (renew owner txn asked points n d))
      (λ _. number-made owner seq n d (acceptance.Renewed txn (first_until (filter (is_meant txn points) made.leases))) made flag why refl
      (λ _. ap (λ x. length x.processes) (renewed-is plant n d sound txn asked points))
      (λ _ none. let zero : nat_lt 0 seq ≡ false = grind (arith, nat_tests) in renewed-told plant n d sound txn asked points ∙ ap (λ b. not (b || bare)) (sym zero))
      (λ some. let numbered : nat_lt 0 seq ≡ true = grind (arith, nat_tests) in ap (λ b. b || bare) numbered))
  act-made (act.Cancel owner txn seq) =
      number-made owner seq n d (acceptance.Cancelled txn n) (end_leases (is_of txn) cause.Cancelled n [] d) true (cancel_refused owner txn d) refl
      (λ _. (cancel-next plant n d sound at small txn).processes)
      (λ none _. ends-differ (is_of txn) cause.Cancelled n [] d at (cancel-some owner (list_any (is_of txn) d.leases) (transaction_of d.txns txn) none)) (λ _. refl)
  act-made (act.Gone owner) = only-if n d (list_any (is_owned_by owner) d.leases) (is_known_process d owner) (Some (lost owner n d))
      (λ _. lost-made owner (list_any (is_owned_by owner) d.leases) refl)
  act-made act.Tick = same-made n d
  act-made (act.Fault point) =
      let found = in_force d.leases point in
      only-if n d (failure_changes n found d) (is_known_point plant point && is_some found) (Some (faulted found n d))
      (λ _. (faulted-told plant n d sound at point found refl, fault-now found))

-- ---- it leaves what is sound

abbrev pub IsStill : List Actuator → Option Persistent → Type 0
IsStill plant None = Unit {0}
IsStill plant (Some after) = IsSoundPersistent plant after

still-if : (plant : List Actuator) (test : Bool) (made : Option Persistent) → (test ≡ true → IsStill plant made) → IsStill plant (cond test made None)
still-if plant true made is = is refl
still-if plant false made is = tt

still-did : (plant : List Actuator) (d : Persistent) (outcome : Outcome) → IsGood plant d outcome → IsStill plant (if_did outcome)
still-did plant d (refused why) good = tt
still-did plant d (did given after) good = good.0.sound

still-number : (plant : List Actuator) (owner seq : ℕ) (d : Persistent) (outcome : Outcome) → IsSoundPersistent plant d → seq < last_number →
    (owner < length d.processes → IsGood plant d outcome) → IsStill plant (by_number owner seq d outcome)
still-number plant owner seq d outcome sound few good = by (is_repeat owner seq d)
  where
    by : (again : Bool) → IsStill plant (cond again None (cond (is_known_process d owner) (if_did (once owner seq d outcome)) None))
    by true = tt
    by false = still-if plant (is_known_process d owner) (if_did (once owner seq d outcome))
        (λ known. let there : owner < length d.processes = grind (arith, nat_tests) in still-did plant d (once owner seq d outcome) (once-good plant d owner seq outcome sound few (good there)))

writes-known : (plant : List Actuator) (writes : List Setting) → list_all (λ w. is_known_point plant w.point) writes ≡ true → AllByRecursion (λ w. w.point < length plant) writes
writes-known plant [] all = tt
writes-known plant (w ∷ ws) all = (grind (arith, nat_tests), writes-known plant ws (grind (arith)))

module _ (plant : List Actuator) (n : ℕ) (d : Persistent) (sound : IsSoundPersistent plant d) (at : IsAt n d) (small : n ≤ last_moment) where
  enrol-still : (found : Option ℕ) (name : List ℕ) → process_named d.processes name ≡ found → IsAct (act.Enrol name) → IsStill plant (enrol_if found name n d)
  enrol-still None name is named = by (is_full d.processes) refl
    where
      by : (full : Bool) → is_full d.processes ≡ full → IsStill plant (cond full None (Some (enrolled name n d)))
      by true room = tt
      by false room = enrol-sound plant n d sound at small name named is room
  enrol-still (Some process) name is named = sound

  pub act-still : (done : Act) → IsAct done → IsStill plant (act_on plant n done d)
  act-still (act.Enrol name) fits = enrol-still (process_named d.processes name) name refl fits
  act-still (act.Submit owner policy writes seq) fits = still-if plant (list_all (λ write. is_known_point plant write.point) writes) (by_number owner seq d (submit plant owner policy writes n d))
      (λ all. still-number plant owner seq d (submit plant owner policy writes n d) sound fits.4
      (λ known. submit-good plant n d sound at small owner policy writes fits.1 fits.2 (writes-known plant writes all) known))
  act-still (act.Renew owner txn asked points seq) fits = still-if plant (list_all (is_known_point plant) points) (by_number owner seq d (renew owner txn asked points n d))
      (λ _. still-number plant owner seq d (renew owner txn asked points n d) sound fits.5 (λ _. renew-good plant n d sound at small owner txn asked points))
  act-still (act.Cancel owner txn seq) fits = still-number plant owner seq d (cancel owner txn n d) sound fits.2 (λ _. cancel-good plant n d sound at small owner txn)
  act-still (act.Gone owner) fits = still-if plant (is_known_process d owner) (Some (lost owner n d)) (λ _. (lost-next plant n d sound at small owner).sound)
  act-still act.Tick fits = sound
  act-still (act.Fault point) fits = still-if plant (is_known_point plant point && is_some (in_force d.leases point)) (Some (faulted (in_force d.leases point) n d))
      (λ _. (faulted-next plant n d sound at small point).sound)

-- ---- an event, done again

module _ (plant : List Actuator) (event : Event) (d : Persistent) (sound : IsSoundPersistent plant d) (small : event.moment ≤ last_moment) where
  moment-small : moment_of d event.moment ≤ last_moment
  moment-small = let now : d.now ≤ last_moment = sound.now in omega arith

  moment-later : d.now ≤ moment_of d event.moment
  moment-later = omega arith

  ticked-sound : IsSoundPersistent plant (tick_to (moment_of d event.moment) d)
  ticked-sound = tick-sound plant d (moment_of d event.moment) sound moment-later moment-small

  -- it leads to another persistent part exactly where the act makes a change, or time did
  pub event-told : (after : Persistent) → act_on plant (moment_of d event.moment) event.act (tick_to (moment_of d event.moment) d) ≡ Some after →
      same_persistent d after ≡ not (makes (moment_of d event.moment) event.act (tick_to (moment_of d event.moment) d) || not ((tick_to (moment_of d event.moment) d).now == d.now))
  event-told after is =
      let n = moment_of d event.moment in
      let ticked = tick_to n d in
      let made : IsMade n ticked (makes n event.act ticked) (Some after) =
      subst (IsMade n ticked (makes n event.act ticked)) is (act-made plant n ticked ticked-sound (at-tick d n moment-later) moment-small event.act) in
      both-told d ticked after n (makes n event.act ticked) made.0 made.1 (early-tick plant d n sound) (quiet-tick plant d n sound moment-later moment-small)

  pub replay-done : (after : Persistent) → act_on plant (moment_of d event.moment) event.act (tick_to (moment_of d event.moment) d) ≡ Some after →
      replay plant event d
      ≡ cond (makes (moment_of d event.moment) event.act (tick_to (moment_of d event.moment) d) || not ((tick_to (moment_of d event.moment) d).now == d.now)) (Some after) None
  replay-done after is = ap (effective d) is ∙ ap (λ b. cond b None (Some after)) (event-told after is)
      ∙ turned (makes (moment_of d event.moment) event.act (tick_to (moment_of d event.moment) d) || not ((tick_to (moment_of d event.moment) d).now == d.now))
    where
      turned : (b : Bool) → cond (not b) None (Some after) ≡ cond b (Some after) None
      turned true = refl
      turned false = refl

  pub replay-same : (after : Persistent) → act_on plant (moment_of d event.moment) event.act (tick_to (moment_of d event.moment) d) ≡ Some after →
      (makes (moment_of d event.moment) event.act (tick_to (moment_of d event.moment) d) || not ((tick_to (moment_of d event.moment) d).now == d.now)) ≡ false → after ≡ d
  replay-same after is still = sym (persistent-equal d after (event-told after is ∙ ap not still))

  effective-still : (made : Option Persistent) (after : Persistent) → IsStill plant made → effective d made ≡ Some after → IsSoundPersistent plant after
  effective-still None after still is = cc
  effective-still (Some made) after still is = by (same_persistent d made) is
    where
      by : (same : Bool) → cond same None (Some made) ≡ Some after → IsSoundPersistent plant after
      by true e = cc
      by false e = let equal : made ≡ after = cc in subst (IsSoundPersistent plant) equal still

  pub replay-sound : (after : Persistent) → IsAct event.act → replay plant event d ≡ Some after → IsSoundPersistent plant after
  replay-sound after fits is =
      let n = moment_of d event.moment in
      effective-still (act_on plant n event.act (tick_to n d)) after
      (act-still plant n (tick_to n d) ticked-sound (at-tick d n moment-later) moment-small event.act fits) is
