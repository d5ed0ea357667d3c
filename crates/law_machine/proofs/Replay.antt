-- The event of a step, done again, does what the step did.
use Rattle.std.proofs.Common.{◌≡◌, ℕ, ◌<◌, ◌≤◌, ◌==◌, max, nat_lt, nat_le, List, [], ◌∷◌, length, Bool, true, false, ◌&&◌, cond, Option, Some, None, is_some, refl, ap, sym, ◌∙◌, subst, arith}
use Rattle.std.specs.Prelude.{unwrap_or}
use Rattle.std.specs.Option.{option_map}
use Rattle.std.specs.List.{filter, find, fold, AllByRecursion, list_any, list_all, cons_option}
use Rattle.std.proofs.lemmas.Bool.{cond_both}
use Rattle.std.proofs.lemmas.Bool.Decides.{nat_tests}
use Rattle.boss_model.specs.declared.answer.Answer.{Answer}
use Rattle.boss_model.specs.declared.answer.Answer.TheVariants as answer
use Rattle.boss_model.specs.declared.answer.Refusal.{Refusal}
use Rattle.boss_model.specs.declared.answer.Refusal.TheVariants as refusal
use Rattle.boss_model.specs.declared.command.Command.{Command}
use Rattle.boss_model.specs.declared.command.Command.TheVariants as command
use Rattle.boss_model.specs.declared.command.Setting.{Setting}
use Rattle.boss_model.specs.declared.command.Policy.{Policy}
use Rattle.boss_model.specs.declared.command.Policy.TheVariants.{Abort, Keep}
use Rattle.boss_model.specs.declared.event.Act.{Act}
use Rattle.boss_model.specs.declared.event.Act.TheVariants as act
use Rattle.boss_model.specs.declared.event.Effect.{Effect}
use Rattle.boss_model.specs.declared.event.Effect.TheVariants as effect
use Rattle.boss_model.specs.declared.event.Event.{Event}
use Rattle.boss_model.specs.declared.notice.Cause.TheVariants as cause
use Rattle.boss_model.specs.declared.state.Actuator.{Actuator}
use Rattle.boss_model.specs.declared.state.Lease.{Lease}
use Rattle.boss_model.specs.declared.state.Proxy.{Proxy}
use Rattle.boss_model.specs.Acts.{is_known_process, is_known_point, if_did, by_process, by_number, enrol_if, act_on, effective, replay, replay_next}
use Rattle.boss_model.specs.Catalogue.{driver_of}
use Rattle.boss_model.specs.Devices.{Reply, proxy_of, hand_out, is_current, heard, report}
use Rattle.boss_model.specs.Effects.{concerned, effect_of, step_effect, act_of, event_of}
use Rattle.boss_model.specs.Ends.{is_of, is_owned_by, end_leases, cancel, cancel_refused, gone, lost, faulted_under, faulted}
use Rattle.boss_model.specs.Limits.{last_moment}
use Rattle.boss_model.specs.Lists.{first_some}
use Rattle.boss_model.specs.Machine.{answered, after, if_attached, joined, parted, notices_asked, pass_time, step}
use Rattle.boss_model.specs.Machine as machine
use Rattle.boss_model.specs.Outcomes.{Outcome, refused, did, unless}
use Rattle.boss_model.specs.Processes.{process_of, process_named, number_of, name_of, next_notice, session_of, is_full, process_refused, enrolled, enrol_unless}
use Rattle.boss_model.specs.Queries.{notices}
use Rattle.boss_model.specs.Renew.{renew, renew_refused, renewed}
use Rattle.boss_model.specs.Replies.{reply_of, remembered, once, is_repeat}
use Rattle.boss_model.specs.Reversions.{courses}
use Rattle.boss_model.specs.Happenings.{Happening, rank, coming}
use Rattle.boss_model.specs.Run.{Call, stepped, run, events, replay_all}
use Rattle.boss_model.specs.Same.{same_persistent}
use Rattle.boss_model.specs.Sound.{IsAllowed, IsSoundPersistent, IsSound}
use Rattle.boss_model.specs.State.{Persistent, State}
use Rattle.boss_model.specs.Submit.{submit, submit_refused, submitted}
use Rattle.boss_model.specs.Target.{in_force}
use Rattle.boss_model.specs.Time.{due, moment_of, tick_to}
use Rattle.law_soundness.proofs.ActSound.{tick-length}
use Rattle.law_time.proofs.Coming.{all_of, now_after, now_after-within, quiet, later-first}
use Rattle.law_time.proofs.Filters.{filter-filter, filter-none}
use Rattle.law_time.proofs.Orders.{each-map, each-filter, each-in_order}
use Rattle.law_time.proofs.NothingDue.{sound-timed, nothing-due}
use Rattle.law_machine.proofs.SameDecides.{persistent-equal, persistent-self}
use Rattle.law_soundness.proofs.OnceCases.{no-repeat, once-by}
use Rattle.law_soundness.proofs.StepSound.{found-attached, step-sound}
use Rattle.law_time.proofs.TickLaw.{due-after, tick_to-tick_to}
use Rattle.law_time.proofs.TickSound.{tick-sound}

-- a tick to the last due moment is the tick to any moment up to which nothing more is due
pub tick-again : (plant : List Actuator) (d : Persistent) (n : ℕ) → IsSoundPersistent plant d → d.now ≤ n → n ≤ last_moment → tick_to (tick_to n d).now d ≡ tick_to n d
tick-again plant d n sound within small =
    let cs = courses d.pending d.leases in
    let now = now_after n d.now cs d.txns in
    let first : d.now ≤ now = later-first d.now (due n d) in
    let last : now ≤ n = now_after-within n d.now cs d.txns within in
    let e = tick_to now d in
    let early : e.now ≤ now = now_after-within now d.now cs d.txns first in
    let both : tick_to n e ≡ tick_to n d = tick_to-tick_to d now n n (sound-timed plant d sound) first (omega arith) (omega arith) in
    let Q = λ (h : Happening). (nat_lt now h.at && nat_le h.at n) ≡ false in
    let none : due n e ≡ [] =
    due-after d now n (sound-timed plant d sound) first
    ∙ filter-filter (λ h. nat_le h.at n) (λ h. nat_lt now h.at) (λ h. nat_lt now h.at && nat_le h.at n) (λ h. refl {a = nat_lt now h.at && nat_le h.at n}) (coming d.now cs d.txns)
    ∙ filter-none (λ h. nat_lt now h.at && nat_le h.at n) (coming d.now cs d.txns)
    (each-in_order Q rank (filter (λ h. nat_lt d.now h.at) (all_of cs d.txns)) (each-filter Q (λ h. nat_lt d.now h.at) (all_of cs d.txns)
    (each-map (λ h. h.at ≤ n → h.at ≤ now) Q (λ h silent. grind (arith, nat_tests, silent)) (all_of cs d.txns) (quiet n d.now cs d.txns)))) in
    sym (nothing-due plant e n (tick-sound plant d now sound first (omega arith)) (omega arith) none) ∙ both

-- ---- what a command changes, its act changes

-- At moment n the act makes of the persistent part what the command made of it, if that is anything.
abbrev pub IsAct : List Actuator → ℕ → Act → Persistent → Persistent → Type 0
IsAct plant n done before changed = same_persistent before changed ≡ false → (changed.now ≡ n) × (act_on plant n done before ≡ Some changed)

module _ (plant : List Actuator) (n : ℕ) where
  act-none : (done : Act) (d : Persistent) → IsAct plant n done d d
  act-none done d differs = let same : same_persistent d d ≡ true = persistent-self d in cc

  act-held : (held : Option ℕ) (go : ℕ → Reply) (s : State) (done : ℕ → Act) → ((p : ℕ) → held ≡ Some p → IsAct plant n (done p) s.persistent (go p).state.persistent) →
      IsAct plant n (done (unwrap_or held 0)) s.persistent (if_attached held go s).state.persistent
  act-held None go s done each = act-none (done 0) s.persistent
  act-held (Some p) go s done each = each p refl

  -- what an outcome leaves, if anything, is of this moment
  abbrev IsNow : Outcome → Type 0
  IsNow (refused why) = Unit {0}
  IsNow (did given changed) = changed.now ≡ n

  now-unless : (why : Option Refusal) (given : Answer) (changed : Persistent) → changed.now ≡ n → IsNow (unless why given changed)
  now-unless None given changed now = now
  now-unless (Some why) given changed now = tt

  now-remembered : (owner seq : ℕ) (outcome : Outcome) → IsNow outcome → IsNow (remembered owner seq outcome)
  now-remembered owner seq (refused why) now = tt
  now-remembered owner seq (did given changed) now = now

  act-outcome : (done : Act) (s : State) (outcome : Outcome) → IsNow outcome → act_on plant n done s.persistent ≡ if_did outcome → IsAct plant n done s.persistent (after s outcome).state.persistent
  act-outcome done s (refused why) now acts = act-none done s.persistent
  act-outcome done s (did given changed) now acts = λ differs. (now, acts)

  by-new : (d : Persistent) (owner seq : ℕ) (outcome : Outcome) → is_known_process d owner ≡ true → is_repeat owner seq d ≡ false → by_number owner seq d outcome ≡ if_did (once owner seq d outcome)
  by-new d owner seq outcome known new = ap (λ b. cond b None (by_process d owner (once owner seq d outcome))) new ∙ ap (λ b. cond b (if_did (once owner seq d outcome)) None) known

  -- a numbered request that is a repeat, or of a lesser number, changes nothing; else its act does the same
  act-once : (done : Act) (s : State) (owner seq : ℕ) (outcome : Outcome) → IsNow outcome → is_known_process s.persistent owner ≡ true →
      act_on plant n done s.persistent ≡ by_number owner seq s.persistent outcome → IsAct plant n done s.persistent (after s (once owner seq s.persistent outcome)).state.persistent
  act-once done s owner seq outcome now known acts =
      let d = s.persistent in
      once-by owner seq d outcome (λ o. once owner seq d outcome ≡ o → IsAct plant n done d (after s o).state.persistent)
      (λ none is. act-outcome done s outcome now (acts ∙ by-new d owner seq outcome known (grind (arith, nat_tests)) ∙ ap if_did is))
      (λ some above is. act-outcome done s (remembered owner seq outcome) (now-remembered owner seq outcome now)
      (acts ∙ by-new d owner seq outcome known (no-repeat owner seq d (reply_of d.processes owner) refl above) ∙ ap if_did is))
      (λ reply _ _ _ _. act-none done d) (λ reply _ _ _ _. act-none done d) refl

  -- what each kind of command makes, its act makes
  act-enrol : (session : ℕ) (name : List ℕ) (s : State) (found held : Option ℕ) → process_named s.persistent.processes name ≡ found →
      IsAct plant n (act.Enrol name) s.persistent (joined session (number_of s.persistent.processes found) s
      (unless (first_some (option_map (λ process. refusal.Already (name_of s.persistent.processes process)) held ∷ process_refused s.persistent.processes s.attached found ∷ []))
      (answer.Attached name (next_notice s.persistent.processes (number_of s.persistent.processes found))) (enrol_unless found name n s.persistent))).state.persistent
  act-enrol session name s found (Some p) is = act-none (act.Enrol name) s.persistent
  act-enrol session name s None None is = cond_both (is_full s.persistent.processes) (Some refusal.TooManyProcesses) None
      (λ why. is_full s.persistent.processes ≡ is_full s.persistent.processes → IsAct plant n (act.Enrol name) s.persistent (joined session (length s.persistent.processes) s
      (unless (first_some (why ∷ [])) (answer.Attached name (next_notice s.persistent.processes (length s.persistent.processes))) (enrolled name n s.persistent))).state.persistent)
      (λ _ _. act-none (act.Enrol name) s.persistent)
      (λ room _ differs. (refl, ap (λ f. enrol_if f name n s.persistent) is ∙ ap (λ b. cond b None (Some (enrolled name n s.persistent))) room)) refl
  act-enrol session name s (Some process) None is = known (session_of s.attached process)
    where
      known : (holder : Option ℕ) → IsAct plant n (act.Enrol name) s.persistent (joined session process s
          (unless (first_some (option_map refusal.Taken holder ∷ [])) (answer.Attached name (next_notice s.persistent.processes process)) s.persistent)).state.persistent
      known (Some other) = act-none (act.Enrol name) s.persistent
      known None = act-none (act.Enrol name) s.persistent

  act-lost : (owner : ℕ) (d : Persistent) → is_known_process d owner ≡ true → IsAct plant n (act.Gone owner) d (lost owner n d)
  act-lost owner d known = cond_both (list_any (is_owned_by owner) d.leases) (end_leases (is_owned_by owner) cause.Died n [] d) d
      (λ changed. lost owner n d ≡ changed → IsAct plant n (act.Gone owner) d changed)
      (λ _ same differs. (refl, rw known (ap Some same))) (λ _ _. act-none (act.Gone owner) d) refl

  now-faulted : (policy : Policy) (lease : Lease) (d : Persistent) → (faulted_under policy lease n d).now ≡ n
  now-faulted Abort lease d = refl
  now-faulted Keep lease d = refl

  act-faulted : (point : ℕ) (found : Option Lease) (d : Persistent) → in_force d.leases point ≡ found → is_known_point plant point ≡ true → IsAct plant n (act.Fault point) d (faulted found n d)
  act-faulted point None d is known = act-none (act.Fault point) d
  act-faulted point (Some lease) d is known = λ differs. (
    now-faulted lease.policy lease d,
    ap (λ f. cond (is_known_point plant point && is_some f) (Some (faulted f n d)) None) is ∙ ap (λ b. cond (b && true) (Some (faulted (Some lease) n d)) None) known,
  )

  act-heard : (point : ℕ) (ok : Bool) (s : State) → is_known_point plant point ≡ true → IsAct plant n (act.Fault point) s.persistent (heard n point ok s).persistent
  act-heard point true s known = act-none (act.Fault point) s.persistent
  act-heard point false s known = cond_both (proxy_of s.proxies point).failed s.persistent (faulted (in_force s.persistent.leases point) n s.persistent) (IsAct plant n (act.Fault point) s.persistent)
      (λ _. act-none (act.Fault point) s.persistent) (λ _. act-faulted point (in_force s.persistent.leases point) s.persistent refl known)

  act-report : (point version : ℕ) (ok : Bool) (s : State) → is_known_point plant point ≡ true → IsAct plant n (act.Fault point) s.persistent (report n point version ok s).state.persistent
  act-report point version ok s known = cond_both {A = Reply} (is_current point version s) (record { answer = answer.Noted true; state = heard n point ok s }) (record { answer = answer.Noted false; state = s })
      (λ reply. IsAct plant n (act.Fault point) s.persistent reply.state.persistent) (λ _. act-heard point ok s known) (λ _. act-none (act.Fault point) s.persistent)

  act-hand_out : (done : Act) (found : Option ℕ) (s : State) → IsAct plant n done s.persistent (hand_out found s).state.persistent
  act-hand_out done None s = act-none done s.persistent
  act-hand_out done (Some point) s = act-none done s.persistent

  act-notices : (done : Act) (name : Option (List ℕ)) (session from most : ℕ) (s : State) → IsAct plant n done s.persistent (notices_asked name session from most s).state.persistent
  act-notices done (Some name) session from most s = act-none done s.persistent
  act-notices done None session from most s = by (process_of s.attached session)
    where
      by : (held : Option ℕ) → IsAct plant n done s.persistent (if_attached held (λ p. answered (notices (Some p) from most s.persistent) s) s).state.persistent
      by None = act-none done s.persistent
      by (Some p) = act-none done s.persistent

known-points : (plant : List Actuator) (points : List ℕ) → AllByRecursion (λ point. point < length plant) points → list_all (is_known_point plant) points ≡ true
known-points plant [] all = refl
known-points plant (p ∷ ps) all = let here : p < length plant = all.0 in grind (arith, nat_tests, known-points plant ps all.1)

known-writes : (plant : List Actuator) (writes : List Setting) → AllByRecursion (λ w. w.point < length plant) writes → list_all (λ w. is_known_point plant w.point) writes ≡ true
known-writes plant [] all = refl
known-writes plant (w ∷ ws) all = let here : w.point < length plant = all.0 in grind (arith, nat_tests, known-writes plant ws all.1)

module _ (plant : List Actuator) (n : ℕ) (session : ℕ) (s : State) (attached : AllByRecursion (λ a. a.process < length s.persistent.processes) s.attached) where
  held-known : (p : ℕ) → process_of s.attached session ≡ Some p → is_known_process s.persistent p ≡ true
  held-known p held = let here : p < length s.persistent.processes = found-attached (λ k. k < length s.persistent.processes) s.attached session p attached held in grind (arith, nat_tests)

  -- whatever a command changes, its act changes, in the name of the process that it concerns
  pub act-acts : (c : Command) → IsAllowed plant c → IsAct plant n (act_of c (concerned c session s)) s.persistent (machine.act plant session n c s).state.persistent
  act-acts (command.Attach name) allowed = act-enrol plant n session name s (process_named s.persistent.processes name) (process_of s.attached session) refl
  act-acts (command.Submit writes policy seq) allowed = act-held plant n (process_of s.attached session)
      (λ p. after s (once p seq s.persistent (submit plant p policy writes n s.persistent))) s (λ p. act.Submit p policy writes seq)
      (λ p held. act-once plant n (act.Submit p policy writes seq) s p seq (submit plant p policy writes n s.persistent)
      (now-unless plant n (submit_refused plant writes s.persistent) (answer.Accepted _ _) (submitted p policy writes n s.persistent) refl) (held-known p held)
      (ap (λ b. cond b (by_number p seq s.persistent (submit plant p policy writes n s.persistent)) None) (known-writes plant writes allowed.2)))
  act-acts (command.Renew txn asked points seq) allowed = act-held plant n (process_of s.attached session)
      (λ p. after s (once p seq s.persistent (renew p txn asked points n s.persistent))) s (λ p. act.Renew p txn asked points seq)
      (λ p held. act-once plant n (act.Renew p txn asked points seq) s p seq (renew p txn asked points n s.persistent)
      (now-unless plant n (renew_refused p txn asked points n s.persistent) (answer.Renewed _ _) (renewed txn asked points n s.persistent) refl) (held-known p held)
      (ap (λ b. cond b (by_number p seq s.persistent (renew p txn asked points n s.persistent)) None) (known-points plant points allowed.1)))
  act-acts (command.Cancel txn seq) allowed = act-held plant n (process_of s.attached session)
      (λ p. after s (once p seq s.persistent (cancel p txn n s.persistent))) s (λ p. act.Cancel p txn seq)
      (λ p held. act-once plant n (act.Cancel p txn seq) s p seq (cancel p txn n s.persistent)
      (now-unless plant n (cancel_refused p txn s.persistent) (answer.Cancelled txn n) (end_leases (is_of txn) cause.Cancelled n [] s.persistent) refl) (held-known p held) refl)
  act-acts command.Gone allowed = act-held plant n (process_of s.attached session) (λ p. parted session s (gone p n s.persistent)) s (λ p. act.Gone p)
      (λ p held. act-lost plant n p s.persistent (held-known p held))
  act-acts command.Tick allowed = act-none plant n act.Tick s.persistent
  act-acts (command.Next driver) allowed = act-hand_out plant n act.Tick (find (λ point. driver_of plant point == driver) s.wants) s
  act-acts (command.Report point version ok) allowed = act-report plant n point version ok s (grind (arith, nat_tests))
  act-acts (command.Doubt point differs) allowed = act-none plant n act.Tick s.persistent
  act-acts (command.Read point) allowed = act-none plant n act.Tick s.persistent
  act-acts (command.Array point) allowed = act-none plant n act.Tick s.persistent
  act-acts (command.Status txn) allowed = act-none plant n act.Tick s.persistent
  act-acts (command.Notices name from most) allowed = act-notices plant n act.Tick name session from most s
  act-acts (command.Points from most) allowed = act-none plant n act.Tick s.persistent
  act-acts command.Version allowed = act-none plant n act.Tick s.persistent

-- who is concerned is a matter of the persistent part and of who is attached
pub concerned-bare : (c : Command) (session : ℕ) (s : State) (proxies : List Proxy) (wants : List ℕ) → concerned c session (record s { proxies = proxies; wants = wants }) ≡ concerned c session s
concerned-bare (command.Attach name) session s proxies wants = refl
concerned-bare (command.Submit writes policy seq) session s proxies wants = refl
concerned-bare (command.Renew txn asked points seq) session s proxies wants = refl
concerned-bare (command.Cancel txn seq) session s proxies wants = refl
concerned-bare command.Gone session s proxies wants = refl
concerned-bare command.Tick session s proxies wants = refl
concerned-bare (command.Next driver) session s proxies wants = refl
concerned-bare (command.Report point version ok) session s proxies wants = refl
concerned-bare (command.Doubt point differs) session s proxies wants = refl
concerned-bare (command.Read point) session s proxies wants = refl
concerned-bare (command.Array point) session s proxies wants = refl
concerned-bare (command.Status txn) session s proxies wants = refl
concerned-bare (command.Notices name from most) session s proxies wants = refl
concerned-bare (command.Points from most) session s proxies wants = refl
concerned-bare command.Version session s proxies wants = refl

-- ---- the effect

effect-unchanged : (before ticked changed : Persistent) (owner : ℕ) → effect_of before ticked changed owner ≡ effect.Unchanged → changed ≡ before
effect-unchanged before ticked changed owner is = cond_both (same_persistent before changed) effect.Unchanged (cond (same_persistent ticked changed) (effect.Tick changed.now) (effect.Whole changed.now owner))
    (λ e. e ≡ effect.Unchanged → changed ≡ before) (λ same _. sym (persistent-equal before changed same))
    (λ _ rest. cond_both (same_persistent ticked changed) (effect.Tick changed.now) (effect.Whole changed.now owner) (λ e. e ≡ effect.Unchanged → changed ≡ before) (λ _ x. cc) (λ _ x. cc) rest) is

-- the event of an effect, done again
event-again : (plant : List Actuator) (d : Persistent) (n : ℕ) (c : Command) (owner : ℕ) (changed : Persistent) (event : Event) → IsSoundPersistent plant d → d.now ≤ n → n ≤ last_moment →
    IsAct plant n (act_of c owner) (tick_to n d) changed → event_of c (effect_of d (tick_to n d) changed owner) ≡ Some event → replay plant event d ≡ Some changed
event-again plant d n c owner changed event sound within small acts is =
    let ticked = tick_to n d in
    cond_both (same_persistent d changed) effect.Unchanged (cond (same_persistent ticked changed) (effect.Tick changed.now) (effect.Whole changed.now owner))
    (λ e. event_of c e ≡ Some event → replay plant event d ≡ Some changed)
    (λ _ x. cc)
    (λ differs rest. cond_both (same_persistent ticked changed) (effect.Tick changed.now) (effect.Whole changed.now owner) (λ e. event_of c e ≡ Some event → replay plant event d ≡ Some changed)
    (λ same x.
    let now : event ≡ record { moment = changed.now; act = act.Tick } = cc in
    let equal : ticked ≡ changed = persistent-equal ticked changed same in
    let first : d.now ≤ ticked.now = later-first d.now (due n d) in
    let moment : max d.now changed.now ≡ ticked.now = ap (λ e. max d.now e.now) (sym equal) ∙ omega arith in
    ap (λ e. replay plant e d) now
    ∙ ap (λ k. effective d (Some (tick_to k d))) moment
    ∙ ap (λ e. effective d (Some e)) (tick-again plant d n sound within small ∙ equal)
    ∙ ap (λ b. cond b None (Some changed)) differs)
    (λ other x.
    let whole : event ≡ record { moment = changed.now; act = act_of c owner } = cc in
    let did = acts other in
    let moment : max d.now changed.now ≡ n = ap (λ k. max d.now k) did.0 ∙ omega arith in
    ap (λ e. replay plant e d) whole
    ∙ ap (λ k. effective d (act_on plant k (act_of c owner) (tick_to k d))) moment
    ∙ ap (effective d) did.1
    ∙ ap (λ b. cond b None (Some changed)) differs) rest) is

pub step-again : (plant : List Actuator) (s : State) (session : ℕ) (c : Command) (m : ℕ) (event : Event) → IsSound plant s → IsAllowed plant c → m ≤ last_moment →
    event_of c (step_effect plant session c m s) ≡ Some event → replay plant event s.persistent ≡ Some (step plant session c m s).state.persistent
unfolding step step_effect
step-again plant s session c m event sound allowed small is =
    let n = max s.persistent.now m in
    let now : s.persistent.now ≤ last_moment = sound.persistent.now in
    let ticked = tick_to n s.persistent in
    let passed = pass_time plant n s in
    let changed = (machine.act plant session n c passed).state.persistent in
    let attached : AllByRecursion (λ a. a.process < length ticked.processes) s.attached =
    subst (λ k. AllByRecursion (λ a. a.process < k) s.attached) (sym (tick-length s.persistent n)) sound.attached in
    let same : concerned c session passed ≡ concerned c session (record s { persistent = ticked }) = concerned-bare c session (record s { persistent = ticked }) passed.proxies passed.wants in
    event-again plant s.persistent n c (concerned c session (record s { persistent = ticked })) changed event sound.persistent (omega arith) (omega arith)
    (subst (λ owner. IsAct plant n (act_of c owner) ticked changed) same (act-acts plant n session passed attached c allowed)) is

pub step-unchanged : (plant : List Actuator) (s : State) (session : ℕ) (c : Command) (m : ℕ) → step_effect plant session c m s ≡ effect.Unchanged → (step plant session c m s).state.persistent ≡ s.persistent
unfolding step step_effect
step-unchanged plant s session c m is =
    effect-unchanged s.persistent (tick_to (moment_of s.persistent m) s.persistent) (step plant session c m s).state.persistent _ is

pub unchanged-step : (plant : List Actuator) (s : State) (session : ℕ) (c : Command) (m : ℕ) → (step plant session c m s).state.persistent ≡ s.persistent → step_effect plant session c m s ≡ effect.Unchanged
unfolding step step_effect
unchanged-step plant s session c m is =
    let changed = (step plant session c m s).state.persistent in
    let same : same_persistent s.persistent changed ≡ true = ap (same_persistent s.persistent) is ∙ persistent-self s.persistent in
    ap (λ b. cond b effect.Unchanged (cond (same_persistent (tick_to (moment_of s.persistent m) s.persistent) changed) (effect.Tick changed.now)
    (effect.Whole changed.now (concerned c session (record s { persistent = tick_to (moment_of s.persistent m) s.persistent }))))) same

-- ---- runs

-- a call that the machine takes
abbrev pub IsCall : List Actuator → Call → Type 0
IsCall plant call = IsAllowed plant call.command × (call.moment ≤ last_moment)

events-again : (plant : List Actuator) (s : State) (call : Call) (rest : List Event) → IsSound plant s → IsCall plant call → (found : Option Event) →
    event_of call.command (step_effect plant call.session call.command call.moment s) ≡ found →
    fold (replay_next plant) (Some s.persistent) (cons_option found rest) ≡ fold (replay_next plant) (Some (stepped plant s call).persistent) rest
events-again plant s call rest sound allowed (Some event) is =
    ap (λ d. fold (replay_next plant) d rest) (step-again plant s call.session call.command call.moment event sound allowed.0 allowed.1 is)
events-again plant s call rest sound allowed None is =
    ap (λ d. fold (replay_next plant) (Some d) rest) (sym (step-unchanged plant s call.session call.command call.moment
    (no-event call.command (step_effect plant call.session call.command call.moment s) is)))
  where
    no-event : (c : Command) (e : Effect) → event_of c e ≡ None → e ≡ effect.Unchanged
    no-event c effect.Unchanged none = refl
    no-event c (effect.Tick moment) none = cc
    no-event c (effect.Whole moment owner) none = cc

pub run-again : (plant : List Actuator) (calls : List Call) (s : State) → IsSound plant s → AllByRecursion (IsCall plant) calls →
    replay_all plant s.persistent (events plant s calls) ≡ Some (run plant s calls).persistent
run-again plant [] s sound allowed = refl
run-again plant (call ∷ calls) s sound allowed =
    events-again plant s call (events plant (stepped plant s call) calls) sound allowed.0 (event_of call.command (step_effect plant call.session call.command call.moment s)) refl
    ∙ run-again plant calls (stepped plant s call) (step-sound plant call.session call.command call.moment s allowed.0.0 allowed.0.1 sound) allowed.1
