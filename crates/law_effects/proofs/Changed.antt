-- Each command changes what outlasts a stop exactly where its flag says so.
use Rattle.std.proofs.Common.{◌≡◌, ℕ, zero, suc, ◌<◌, ◌≤◌, ◌==◌, nat_lt, List, [], ◌∷◌, ◌+◌, length, Bool, true, false, not, ◌&&◌, ◌||◌, cond, Option, Some, None, is_none, unsigned_abs, refl, ap, sym, ◌∙◌, subst, arith}
use Rattle.std.specs.Option.{option_and_then, option_map_or}
use Rattle.std.specs.List.{filter, find, list_any, slice_get, AllByRecursion}
use Rattle.std.proofs.lemmas.Bool.Decides.{nat_tests}
use Rattle.boss_model.specs.declared.answer.Answer.{Answer}
use Rattle.boss_model.specs.declared.answer.Answer.TheVariants as answer
use Rattle.boss_model.specs.declared.answer.Refusal.{Refusal}
use Rattle.boss_model.specs.declared.answer.Refusal.TheVariants as refusal
use Rattle.boss_model.specs.declared.command.Command.{Command}
use Rattle.boss_model.specs.declared.command.Command.TheVariants as command
use Rattle.boss_model.specs.declared.kept.Acceptance.{Acceptance}
use Rattle.boss_model.specs.declared.kept.Acceptance.TheVariants as acceptance
use Rattle.boss_model.specs.declared.kept.KeptReply.{KeptReply}
use Rattle.boss_model.specs.declared.notice.Cause.TheVariants as cause
use Rattle.boss_model.specs.declared.state.Actuator.{Actuator}
use Rattle.boss_model.specs.Catalogue.{driver_of}
use Rattle.boss_model.specs.Devices.{Reply, proxy_of, hand_out, is_current, faulted_first, heard}
use Rattle.boss_model.specs.Ends.{is_of, is_owned_by, last_part_end, end_leases, cancel, cancel_refused, gone}
use Rattle.boss_model.specs.Limits.{last_moment}
use Rattle.boss_model.specs.Machine.{answered, after, if_attached, joined, parted, notices_asked, act}
use Rattle.boss_model.specs.Outcomes.{refused, did, unless}
use Rattle.boss_model.specs.Processes.{process_of, process_named, number_of, next_notice, attach_refused, enrol_unless}
use Rattle.boss_model.specs.Queries.{notices}
use Rattle.boss_model.specs.Records.{Transaction}
use Rattle.boss_model.specs.Renew.{transaction_of, if_own, is_meant, renewed, renew, renew_refused}
use Rattle.boss_model.specs.Replies.{answer_of, acceptance_of, reply_of, replied, keep_reply, remembered, once}
use Rattle.boss_model.specs.Same.{same_persistent}
use Rattle.boss_model.specs.Sound.{IsSoundPersistent}
use Rattle.boss_model.specs.State.{Process, Persistent, State}
use Rattle.boss_model.specs.Submit.{first_until, granted, submitted, submit, submit_refused}
use Rattle.boss_model.specs.Target.{in_force}
use Rattle.law_machine.proofs.OnceStep.{kept-back}
use Rattle.law_machine.proofs.SameDecides.{persistent-self}
use Rattle.law_soundness.proofs.ActSound.{cancel-next}
use Rattle.law_soundness.proofs.EndSound.{IsAt}
use Rattle.law_soundness.proofs.OnceCases.{IsAbove, once-by}
use Rattle.law_soundness.proofs.StepSound.{found-attached}
use Rattle.law_effects.specs.Changes.{is_new, is_made, lengthens, renewal_changes, failure_changes, if_held, changes}
use Rattle.law_effects.proofs.Parts.{set-got, differs, enrolled-differs, submitted-differs, submitted-many, ends-differ, renewed-is, renewed-told, faulted-told}

-- the command leaves another persistent part exactly where the flag is set
abbrev pub IsTold : Persistent → Reply → Bool → Type 0
IsTold d reply changed = same_persistent d reply.state.persistent ≡ not changed

pub and-true : (b : Bool) → (b && true) ≡ b
and-true true = refl
and-true false = refl

-- ---- whether a number decides

or-left : (a b : Bool) → a ≡ true → (a || b) ≡ true
or-left a b is = ap (λ k. k || b) is

pub new-bare : (owner seq : ℕ) (d : Persistent) → seq ≡ 0 → is_new owner seq d ≡ true
new-bare owner seq d none = or-left (seq == 0) _ (grind (arith, nat_tests))

new-of : (owner seq : ℕ) (d : Persistent) (found : Option KeptReply) → 0 < seq → reply_of d.processes owner ≡ found →
    is_new owner seq d ≡ option_map_or (λ reply. nat_lt reply.seq seq) found true
new-of owner seq d found some is =
    let numbered : (seq == 0) ≡ false = grind (arith, nat_tests) in
    ap (λ b. b || option_map_or (λ (reply : KeptReply). nat_lt reply.seq seq) (reply_of d.processes owner) true) numbered
    ∙ ap (λ f. option_map_or (λ (reply : KeptReply). nat_lt reply.seq seq) f true) is

pub new-above : (owner seq : ℕ) (d : Persistent) (found : Option KeptReply) → 0 < seq → reply_of d.processes owner ≡ found → IsAbove seq found → is_new owner seq d ≡ true
new-above owner seq d None some is above = new-of owner seq d None some is
new-above owner seq d (Some reply) some is above =
    let less : reply.seq < seq = above in
    let test : nat_lt reply.seq seq ≡ true = grind (arith, nat_tests) in new-of owner seq d (Some reply) some is ∙ test

pub new-not : (owner seq : ℕ) (d : Persistent) (reply : KeptReply) → 0 < seq → reply_of d.processes owner ≡ Some reply → seq ≤ reply.seq → is_new owner seq d ≡ false
new-not owner seq d reply some is most =
    let test : nat_lt reply.seq seq ≡ false = grind (arith, nat_tests) in new-of owner seq d (Some reply) some is ∙ test

-- ---- a reply that is kept

no-place : (ps : List Process) (place : ℕ) → place < length ps → slice_get ps place ≡ None → true ≡ false
no-place [] place within none = absurd (omega arith)
no-place (p ∷ ps) zero within none = cc
no-place (p ∷ ps) (suc place) within none = no-place ps place (omega arith) none

replied-there : (ps : List Process) (owner : ℕ) (reply : KeptReply) (found : Option Process) → slice_get ps owner ≡ found → owner < length ps →
    reply_of (replied ps owner reply found) owner ≡ Some reply
replied-there ps owner reply None is within = absurd (cc (no-place ps owner within is))
replied-there ps owner reply (Some p) is within = ap (option_and_then (λ (q : Process). q.reply)) (set-got ps owner p (record p { reply = Some reply }) is)

-- a reply that was not kept before
pub remembered-differs : (owner seq : ℕ) (accepted : Acceptance) (d changed : Persistent) → IsAbove seq (reply_of d.processes owner) → owner < length d.processes →
    length changed.processes ≡ length d.processes →
    same_persistent d (record changed { processes = keep_reply owner seq (acceptance_of (answer_of accepted)) changed.processes }) ≡ false
remembered-differs owner seq accepted d changed above known many =
    let reply : KeptReply = record { seq = seq; acceptance = accepted } in
    differs d (record changed { processes = keep_reply owner seq (acceptance_of (answer_of accepted)) changed.processes }) (λ same.
    let there : reply_of d.processes owner ≡ Some reply = ap (λ x. reply_of x.processes owner) same
    ∙ ap (λ f. reply_of (keep_reply owner seq f changed.processes) owner) (kept-back accepted)
    ∙ replied-there changed.processes owner reply (slice_get changed.processes owner) refl (subst (λ k. owner < k) (sym many) known) in
    let less : seq < seq = subst (IsAbove seq) there above in
    absurd (omega arith))

-- ---- a request of a process that may be numbered

module _ (owner seq : ℕ) (s : State) (known : owner < length s.persistent.processes) (accepted : Acceptance) (changed : Persistent) (flag : Bool) (why : Option Refusal)
    (many : why ≡ None → length changed.processes ≡ length s.persistent.processes)
    (plain : why ≡ None → seq ≡ 0 → same_persistent s.persistent changed ≡ not flag) (numbered : 0 < seq → flag ≡ true) where
  -- the flag of its outcome, and of the outcome once it is remembered
  bare-told : (x : Option Refusal) → why ≡ x → seq ≡ 0 → IsTold s.persistent (after s (unless x (answer_of accepted) changed)) (is_none x && flag)
  bare-told None is none = plain is none
  bare-told (Some x) is none = persistent-self s.persistent

  remembered-told : (x : Option Refusal) → why ≡ x → 0 < seq → IsAbove seq (reply_of s.persistent.processes owner) →
      IsTold s.persistent (after s (remembered owner seq (unless x (answer_of accepted) changed))) (is_none x && flag)
  remembered-told None is some above = remembered-differs owner seq accepted s.persistent changed above known (many is) ∙ ap not (sym (numbered some))
  remembered-told (Some x) is some above = persistent-self s.persistent

  with-new : (reply : Reply) (new : Bool) → is_new owner seq s.persistent ≡ new → IsTold s.persistent reply ((new && is_none why) && flag) →
      IsTold s.persistent reply (is_made owner seq s.persistent why && flag)
  with-new reply new is told = told ∙ ap (λ b. not ((b && is_none why) && flag)) (sym is)

  pub request-told : IsTold s.persistent (after s (once owner seq s.persistent (unless why (answer_of accepted) changed))) (is_made owner seq s.persistent why && flag)
  request-told =
      let d = s.persistent in
      let outcome = unless why (answer_of accepted) changed in
      once-by owner seq d outcome (λ o. IsTold d (after s o) (is_made owner seq d why && flag))
      (λ none. with-new (after s outcome) true (new-bare owner seq d none) (bare-told why refl none))
      (λ some above. with-new (after s (remembered owner seq outcome)) true (new-above owner seq d (reply_of d.processes owner) some refl above) (remembered-told why refl some above))
      (λ reply some found is. with-new (after s (did (answer_of reply.acceptance) d)) false (new-not owner seq d reply some found (omega arith)) (persistent-self d))
      (λ reply some found less. with-new (after s (refused (refusal.Stale reply.seq))) false (new-not owner seq d reply some found (omega arith)) (persistent-self d))

-- a request whose acceptance always changes something
always-told : (owner seq : ℕ) (s : State) → owner < length s.persistent.processes → (accepted : Acceptance) (changed : Persistent) (why : Option Refusal) →
    (why ≡ None → length changed.processes ≡ length s.persistent.processes) → (why ≡ None → same_persistent s.persistent changed ≡ false) →
    IsTold s.persistent (after s (once owner seq s.persistent (unless why (answer_of accepted) changed))) (is_made owner seq s.persistent why)
always-told owner seq s known accepted changed why many other =
    request-told owner seq s known accepted changed true why many (λ is _. other is) (λ _. refl) ∙ ap not (and-true (is_made owner seq s.persistent why))

held-told : (held : Option ℕ) (go : ℕ → Reply) (test : ℕ → Bool) (s : State) → ((p : ℕ) → held ≡ Some p → IsTold s.persistent (go p) (test p)) →
    IsTold s.persistent (if_attached held go s) (if_held held test)
held-told None go test s each = persistent-self s.persistent
held-told (Some p) go test s each = each p refl

joined-told : (session process : ℕ) (s : State) (why : Option Refusal) (given : Answer) (changed : Persistent) (flag : Bool) → same_persistent s.persistent changed ≡ not flag →
    IsTold s.persistent (joined session process s (unless why given changed)) (is_none why && flag)
joined-told session process s None given changed flag told = told
joined-told session process s (Some why) given changed flag told = persistent-self s.persistent

-- a cancel that is not refused finds a lease
pub cancel-some : (owner : ℕ) (some : Bool) (found : Option Transaction) →
    if_own owner (λ transaction. cond some None (Some (refusal.Over (last_part_end transaction)))) found ≡ None → some ≡ true
cancel-some owner some None none = cc
cancel-some owner true (Some t) none = refl
cancel-some owner false (Some t) none = by (t.owner == owner) none
  where
    by : (own : Bool) → cond own (Some (refusal.Over (last_part_end t))) (Some refusal.NotYours) ≡ None → false ≡ true
    by true is = cc
    by false is = cc

enrol-told : (found : Option ℕ) (name : List ℕ) (n : ℕ) (d : Persistent) → same_persistent d (enrol_unless found name n d) ≡ not (is_none found)
enrol-told None name n d = enrolled-differs name n d
enrol-told (Some process) name n d = persistent-self d

-- ---- commands, in a state up to whose moment time has passed

module _ (plant : List Actuator) (n session : ℕ) (s : State) (sound : IsSoundPersistent plant s.persistent) (at : IsAt n s.persistent) (small : n ≤ last_moment)
    (attached : AllByRecursion (λ a. a.process < length s.persistent.processes) s.attached) where
  held-known : (p : ℕ) → process_of s.attached session ≡ Some p → p < length s.persistent.processes
  held-known p held = found-attached (λ k. k < length s.persistent.processes) s.attached session p attached held

  lost-told : (owner : ℕ) (some : Bool) → list_any (is_owned_by owner) s.persistent.leases ≡ some →
      same_persistent s.persistent (cond some (end_leases (is_owned_by owner) cause.Died n [] s.persistent) s.persistent) ≡ not some
  lost-told owner true some = ends-differ (is_owned_by owner) cause.Died n [] s.persistent at some
  lost-told owner false none = persistent-self s.persistent

  heard-told : (point : ℕ) (ok failed : Bool) → (proxy_of s.proxies point).failed ≡ failed →
      same_persistent s.persistent (heard n point ok s).persistent ≡ not (not ok && (not failed && failure_changes n (in_force s.persistent.leases point) s.persistent))
  heard-told point true failed is = persistent-self s.persistent
  heard-told point false true is = ap (λ b. same_persistent s.persistent (faulted_first b point n s.persistent)) is ∙ persistent-self s.persistent
  heard-told point false false is = ap (λ b. same_persistent s.persistent (faulted_first b point n s.persistent)) is
      ∙ faulted-told plant n s.persistent sound at point (in_force s.persistent.leases point) refl

  report-told : (point version : ℕ) (ok current : Bool) →
      same_persistent s.persistent (cond {A = Reply} current (record { answer = answer.Noted true; state = heard n point ok s }) (record { answer = answer.Noted false; state = s })).state.persistent
      ≡ not (current && (not ok && (not (proxy_of s.proxies point).failed && failure_changes n (in_force s.persistent.leases point) s.persistent)))
  report-told point version ok true = heard-told point ok (proxy_of s.proxies point).failed refl
  report-told point version ok false = persistent-self s.persistent

  notices-told : (name : Option (List ℕ)) (from most : ℕ) → IsTold s.persistent (notices_asked name session from most s) false
  notices-told (Some name) from most = persistent-self s.persistent
  notices-told None from most = by (process_of s.attached session)
    where
      by : (held : Option ℕ) → IsTold s.persistent (if_attached held (λ p. answered (notices (Some p) from most s.persistent) s) s) false
      by None = persistent-self s.persistent
      by (Some p) = persistent-self s.persistent

  hand_out-told : (found : Option ℕ) → IsTold s.persistent (hand_out found s) false
  hand_out-told None = persistent-self s.persistent
  hand_out-told (Some point) = persistent-self s.persistent

  pub act-told : (c : Command) → IsTold s.persistent (act plant session n c s) (changes plant session n c s)
  act-told (command.Attach name) =
      let found = process_named s.persistent.processes name in
      joined-told session (number_of s.persistent.processes found) s (attach_refused session name s.attached s.persistent)
      (answer.Attached name (next_notice s.persistent.processes (number_of s.persistent.processes found))) (enrol_unless found name n s.persistent) (is_none found)
      (enrol-told found name n s.persistent)
  act-told (command.Submit writes policy seq) =
      let why = submit_refused plant writes s.persistent in
      held-told (process_of s.attached session) (λ p. after s (once p seq s.persistent (submit plant p policy writes n s.persistent))) (λ p. is_made p seq s.persistent why) s
      (λ p held. always-told p seq s (held-known p held) (acceptance.Accepted s.persistent.next (first_until (granted p policy s.persistent.next n writes)))
      (submitted p policy writes n s.persistent) why
      (λ _. submitted-many p policy writes n s.persistent)
      (λ _. submitted-differs p policy writes n s.persistent))
  act-told (command.Renew txn asked points seq) =
      let why = λ (p : ℕ). renew_refused p txn asked points n s.persistent in
      let made = renewed txn asked points n s.persistent in
      let flag = renewal_changes n txn asked points seq s.persistent in
      let bare = not (s.persistent.now == n) || lengthens txn points (n + unsigned_abs asked) s.persistent.leases in
      held-told (process_of s.attached session) (λ p. after s (once p seq s.persistent (renew p txn asked points n s.persistent))) (λ p. is_made p seq s.persistent (why p) && flag) s
      (λ p held. request-told p seq s (held-known p held) (acceptance.Renewed txn (first_until (filter (is_meant txn points) made.leases))) made flag (why p)
      (λ _. ap (λ x. length x.processes) (renewed-is plant n s.persistent sound txn asked points))
      (λ _ none. let zero : nat_lt 0 seq ≡ false = grind (arith, nat_tests) in renewed-told plant n s.persistent sound txn asked points ∙ ap (λ b. not (b || bare)) (sym zero))
      (λ some. let numbered : nat_lt 0 seq ≡ true = grind (arith, nat_tests) in ap (λ b. b || bare) numbered))
  act-told (command.Cancel txn seq) =
      let why = λ (p : ℕ). cancel_refused p txn s.persistent in
      held-told (process_of s.attached session) (λ p. after s (once p seq s.persistent (cancel p txn n s.persistent))) (λ p. is_made p seq s.persistent (why p)) s
      (λ p held. always-told p seq s (held-known p held) (acceptance.Cancelled txn n) (end_leases (is_of txn) cause.Cancelled n [] s.persistent) (why p)
      (λ _. (cancel-next plant n s.persistent sound at small txn).processes)
      (λ none. ends-differ (is_of txn) cause.Cancelled n [] s.persistent at
      (cancel-some p (list_any (is_of txn) s.persistent.leases) (transaction_of s.persistent.txns txn) none)))
  act-told command.Gone = held-told (process_of s.attached session) (λ p. parted session s (gone p n s.persistent)) (λ p. list_any (is_owned_by p) s.persistent.leases) s
      (λ p held. lost-told p (list_any (is_owned_by p) s.persistent.leases) refl)
  act-told command.Tick = persistent-self s.persistent
  act-told (command.Next driver) = hand_out-told (find (λ point. driver_of plant point == driver) s.wants)
  act-told (command.Report point version ok) = report-told point version ok (is_current point version s)
  act-told (command.Doubt point differs) = persistent-self s.persistent
  act-told (command.Read point) = persistent-self s.persistent
  act-told (command.Array point) = persistent-self s.persistent
  act-told (command.Status txn) = persistent-self s.persistent
  act-told (command.Notices name from most) = notices-told name from most
  act-told (command.Points from most) = persistent-self s.persistent
  act-told command.Version = persistent-self s.persistent
