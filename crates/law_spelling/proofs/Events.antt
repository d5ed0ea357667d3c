-- The event of a step is within its ranges: a command that changes more than time does was not refused.
use Rattle.std.proofs.Common.{◌≡◌, ℕ, ◌<◌, ◌≤◌, max, ℤ, List, [], ◌∷◌, length, map, true, false, not, cond, Option, Some, None, refl, subst, arith}
use Rattle.std.specs.Prelude.{unwrap_or}
use Rattle.std.specs.Option.{option_map}
use Rattle.std.specs.List.{AllByRecursion, list_any, position}
use Rattle.std.proofs.lemmas.Bool.{cond_both}
use Rattle.boss_model.specs.declared.answer.Answer.{Answer}
use Rattle.boss_model.specs.declared.answer.Answer.TheVariants as answer
use Rattle.boss_model.specs.declared.answer.Refusal.{Refusal}
use Rattle.boss_model.specs.declared.answer.Refusal.TheVariants as refusal
use Rattle.boss_model.specs.declared.command.Command.{Command}
use Rattle.boss_model.specs.declared.command.Command.TheVariants as command
use Rattle.boss_model.specs.declared.command.Policy.{Policy}
use Rattle.boss_model.specs.declared.command.Setting.{Setting}
use Rattle.boss_model.specs.declared.event.Act.TheVariants as act
use Rattle.boss_model.specs.declared.event.Effect.TheVariants as effect
use Rattle.boss_model.specs.declared.event.Event.{Event}
use Rattle.boss_model.specs.declared.notice.Cause.TheVariants as cause
use Rattle.boss_model.specs.declared.state.Actuator.{Actuator}
use Rattle.boss_model.specs.Devices.{Reply}
use Rattle.boss_model.specs.Effects.{concerned, effect_of, step_effect, act_of, event_of}
use Rattle.boss_model.specs.Ends.{is_of, last_part_end, end_leases, cancel, cancel_refused}
use Rattle.boss_model.specs.Limits.{most_processes, last_moment, last_number}
use Rattle.boss_model.specs.Lists.{first_some}
use Rattle.boss_model.specs.Machine.{after, if_attached, pass_time, step}
use Rattle.boss_model.specs.Machine as machine
use Rattle.boss_model.specs.Outcomes.{unless}
use Rattle.boss_model.specs.Processes.{process_of}
use Rattle.boss_model.specs.Records.{Transaction}
use Rattle.boss_model.specs.Renew.{transaction_of, if_own, wrote, named_parts, ended_at, renewed, renew, renew_refused}
use Rattle.boss_model.specs.Replies.{remembered, once}
use Rattle.boss_model.specs.Same.{same_persistent}
use Rattle.boss_model.specs.Sound.{IsAllowed, IsSoundPersistent, IsSound}
use Rattle.boss_model.specs.State.{Persistent, State}
use Rattle.boss_model.specs.Submit.{is_length, submitted, submit, submit_refused}
use Rattle.boss_model.specs.Time.{tick_to}
use Rattle.law_time.proofs.Orders.{each-map}
use Rattle.law_time.proofs.TickSound.{numbers-fit, word-of}
use Rattle.law_soundness.proofs.NotRefused.{none-of-first, submit-not-refused}
use Rattle.law_soundness.proofs.OnceCases.{once-by}
use Rattle.law_soundness.proofs.ReplySound.{own-number}
use Rattle.law_soundness.proofs.StepSound.{found-attached, passed-sound, step-sound}
use Rattle.law_machine.proofs.Replay.{concerned-bare}
use Rattle.law_machine.proofs.SameDecides.{persistent-self}
use Rattle.boss_model.specs.Plants.{IsPlant}
use Rattle.law_spelling.specs.Ranges.{IsOwner, IsPoint, IsAct, IsSpelled}
use Rattle.law_spelling.proofs.Values.{point-of, all-written, length-between}

-- ---- what changes something was not refused

abbrev Differs : State → Reply → Type 0
Differs s reply = same_persistent s.persistent reply.state.persistent ≡ false

never : {X : Type 0} (d : Persistent) → same_persistent d d ≡ false → X
never d differs = let same : same_persistent d d ≡ true = persistent-self d in absurd cc

module _ {X : Type 0} (s : State) (why : Option Refusal) (given : Answer) (changed : Persistent) (go : why ≡ None → X) where
  by-outcome : (found : Option Refusal) → why ≡ found → Differs s (after s (unless found given changed)) → X
  by-outcome None is differs = go is
  by-outcome (Some other) is differs = never s.persistent differs

  by-remembered : (owner seq : ℕ) (found : Option Refusal) → why ≡ found → Differs s (after s (remembered owner seq (unless found given changed))) → X
  by-remembered owner seq None is differs = go is
  by-remembered owner seq (Some other) is differs = never s.persistent differs

  -- a numbered request that changes something was accepted for itself
  by-once : (owner seq : ℕ) → Differs s (after s (once owner seq s.persistent (unless why given changed))) → X
  by-once owner seq = once-by owner seq s.persistent (unless why given changed) (λ o. Differs s (after s o) → X)
      (λ _. by-outcome why refl) (λ _ _. by-remembered owner seq why refl) (λ reply _ _ _. never s.persistent) (λ reply _ _ _. never s.persistent)

by-held : {X : Type 0} (s : State) (held : Option ℕ) (go : ℕ → Reply) → ((p : ℕ) → held ≡ Some p → Differs s (go p) → X) → Differs s (if_attached held go s) → X
by-held s None go each differs = never s.persistent differs
by-held s (Some p) go each differs = each p refl differs

-- ---- the acts

module _ (plant : List Actuator) (whole : IsPlant plant) (n session : ℕ) (s : State) (sound : IsSoundPersistent plant s.persistent)
    (attached : AllByRecursion (λ a. a.process < length s.persistent.processes) s.attached) where
  found-owner : (held : Option ℕ) → process_of s.attached session ≡ held → IsOwner (unwrap_or held 0)
  found-owner None is = omega arith
  found-owner (Some p) is =
      let known : p < length s.persistent.processes = found-attached (λ k. k < length s.persistent.processes) s.attached session p attached is in
      let few : length s.persistent.processes ≤ most_processes = sound.few_processes in
      omega arith

  owner : IsOwner (unwrap_or (process_of s.attached session) 0)
  owner = found-owner (process_of s.attached session) refl

  points-of : (points : List ℕ) → AllByRecursion (λ point. point < length plant) points → AllByRecursion IsPoint points
  points-of points known = each-map (λ point. point < length plant) IsPoint (point-of plant whole) points known

  submit-act : (writes : List Setting) (policy : Policy) (seq : ℕ) → IsAllowed plant (command.Submit writes policy seq) → submit_refused plant writes s.persistent ≡ None →
      IsAct (act.Submit (unwrap_or (process_of s.attached session) 0) policy writes seq)
  submit-act writes policy seq allowed none =
      (owner, allowed.0, allowed.1, all-written plant whole writes (submit-not-refused plant writes s.persistent none).allowed allowed.2, allowed.3)

  renew-act : (p txn : ℕ) (asked : ℤ) (points : List ℕ) (seq : ℕ) → IsAllowed plant (command.Renew txn asked points seq) → renew_refused p txn asked points n s.persistent ≡ None →
      IsAct (act.Renew (unwrap_or (process_of s.attached session) 0) txn asked points seq)
  renew-act p txn asked points seq allowed none =
      let d = s.persistent in
      let refuses : Transaction → Option Refusal = λ transaction. first_some (
      option_map refusal.NotInTxn (position (λ point. not (wrote transaction.parts point)) points) ∷
      option_map (ended_at n) (first_some (map (λ part. part.end) (named_parts points transaction.parts))) ∷ []) in
      let first = none-of-first (cond (is_length asked) None (Some (refusal.BadLease 0))) (if_own p refuses (transaction_of d.txns txn) ∷ []) none in
      let fits : is_length asked ≡ true = cond_both (is_length asked) None (Some (refusal.BadLease 0)) (λ found. found ≡ None → is_length asked ≡ true) (λ fits _. fits) (λ _ e. cc) first.0 in
      let number : txn < d.next = own-number d.next d.txns p txn refuses (transaction_of d.txns txn) (numbers-fit plant d sound) refl
      (none-of-first (if_own p refuses (transaction_of d.txns txn)) [] first.1).0 in
      (owner, word-of d.next txn sound.next number, length-between plant whole asked fits, allowed.0, points-of points allowed.1, allowed.2)

  cancel-act : (p txn seq : ℕ) → seq < last_number → cancel_refused p txn s.persistent ≡ None → IsAct (act.Cancel (unwrap_or (process_of s.attached session) 0) txn seq)
  cancel-act p txn seq few none =
      let d = s.persistent in
      let refuses : Transaction → Option Refusal = λ transaction. cond (list_any (is_of txn) d.leases) None (Some (refusal.Over (last_part_end transaction))) in
      (owner, word-of d.next txn sound.next (own-number d.next d.txns p txn refuses (transaction_of d.txns txn) (numbers-fit plant d sound) refl none), few)

  -- whatever a command changes, its act is within its ranges
  pub act-spelled : (c : Command) → IsAllowed plant c → Differs s (machine.act plant session n c s) → IsAct (act_of c (concerned c session s))
  act-spelled (command.Attach name) allowed differs = allowed
  act-spelled (command.Submit writes policy seq) allowed differs =
      by-held s (process_of s.attached session) (λ p. after s (once p seq s.persistent (submit plant p policy writes n s.persistent)))
      (λ p held. by-once s (submit_refused plant writes s.persistent) (answer.Accepted _ _) (submitted p policy writes n s.persistent) (submit-act writes policy seq allowed) p seq) differs
  act-spelled (command.Renew txn asked points seq) allowed differs =
      by-held s (process_of s.attached session) (λ p. after s (once p seq s.persistent (renew p txn asked points n s.persistent)))
      (λ p held. by-once s (renew_refused p txn asked points n s.persistent) (answer.Renewed _ _) (renewed txn asked points n s.persistent) (renew-act p txn asked points seq allowed) p seq) differs
  act-spelled (command.Cancel txn seq) allowed differs =
      by-held s (process_of s.attached session) (λ p. after s (once p seq s.persistent (cancel p txn n s.persistent)))
      (λ p held. by-once s (cancel_refused p txn s.persistent) (answer.Cancelled txn n) (end_leases (is_of txn) cause.Cancelled n [] s.persistent) (cancel-act p txn seq allowed) p seq) differs
  act-spelled command.Gone allowed differs = owner
  act-spelled command.Tick allowed differs = tt
  act-spelled (command.Next driver) allowed differs = tt
  act-spelled (command.Report point version ok) allowed differs = point-of plant whole point allowed
  act-spelled (command.Doubt point differs) allowed differing = tt
  act-spelled (command.Read point) allowed differs = tt
  act-spelled (command.Array point) allowed differs = tt
  act-spelled (command.Status txn) allowed differs = tt
  act-spelled (command.Notices name from most) allowed differs = tt
  act-spelled (command.Points from most) allowed differs = tt
  act-spelled command.Version allowed differs = tt

-- ---- the event

event-spelled : (d ticked changed : Persistent) (c : Command) (who : ℕ) (event : Event) → changed.now ≤ last_moment → (same_persistent ticked changed ≡ false → IsAct (act_of c who)) →
    event_of c (effect_of d ticked changed who) ≡ Some event → IsSpelled event
event-spelled d ticked changed c who event small acts is =
    cond_both (same_persistent d changed) effect.Unchanged (cond (same_persistent ticked changed) (effect.Tick changed.now) (effect.Whole changed.now who))
    (λ e. event_of c e ≡ Some event → IsSpelled event)
    (λ _ x. cc)
    (λ _ rest. cond_both (same_persistent ticked changed) (effect.Tick changed.now) (effect.Whole changed.now who) (λ e. event_of c e ≡ Some event → IsSpelled event)
    (λ _ x. let made : record { moment = changed.now; act = act.Tick } ≡ event = cc in subst IsSpelled made (record { moment = small; act = tt }))
    (λ differs x. let made : record { moment = changed.now; act = act_of c who } ≡ event = cc in subst IsSpelled made (record { moment = small; act = acts differs })) rest) is

pub step-spelled : (plant : List Actuator) (s : State) (session : ℕ) (c : Command) (m : ℕ) (event : Event) → IsPlant plant → IsSound plant s → IsAllowed plant c → m ≤ last_moment →
    event_of c (step_effect plant session c m s) ≡ Some event → IsSpelled event
unfolding step step_effect
step-spelled plant s session c m event whole sound allowed small is =
    let n = max s.persistent.now m in
    let now : s.persistent.now ≤ last_moment = sound.persistent.now in
    let ticked = tick_to n s.persistent in
    let passed = pass_time plant n s in
    let still : IsSound plant passed = passed-sound plant n s (omega arith) (omega arith) sound in
    let changed = (machine.act plant session n c passed).state.persistent in
    let same : concerned c session passed ≡ concerned c session (record s { persistent = ticked }) = concerned-bare c session (record s { persistent = ticked }) passed.proxies passed.wants in
    event-spelled s.persistent ticked changed c (concerned c session (record s { persistent = ticked })) event (step-sound plant session c m s allowed small sound).persistent.now
    (λ differs. subst (λ who. IsAct (act_of c who)) same (act-spelled plant whole n session passed still.persistent still.attached c allowed differs)) is
