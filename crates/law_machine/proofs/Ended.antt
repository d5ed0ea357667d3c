-- An ended refusal is a renewal's, and tells the end that is kept.
use Rattle.std.proofs.Common.{◌≡◌, ℕ, ◌≤◌, ◌==◌, max, ℤ, List, [], ◌∷◌, map, Bool, true, false, not, cond, Option, Some, None, refl, ap, sym, ◌∙◌, subst, arith}
use Rattle.std.specs.Option.{option_map}
use Rattle.std.specs.List.{find, filter_map, cons_option, AllByRecursion, list_any, position}
use Rattle.std.proofs.lemmas.Bool.{cond_both}
use Rattle.boss_model.specs.declared.answer.Answer.{Answer}
use Rattle.boss_model.specs.declared.answer.Answer.TheVariants as answer
use Rattle.boss_model.specs.declared.answer.Refusal.{Refusal}
use Rattle.boss_model.specs.declared.answer.Refusal.TheVariants as refusal
use Rattle.boss_model.specs.declared.command.Command.{Command}
use Rattle.boss_model.specs.declared.command.Command.TheVariants as command
use Rattle.boss_model.specs.declared.command.Setting.{Setting}
use Rattle.boss_model.specs.declared.notice.Cause.{Cause}
use Rattle.boss_model.specs.declared.state.Actuator.{Actuator}
use Rattle.boss_model.specs.Catalogue.{fits_at, driver_of}
use Rattle.boss_model.specs.Devices.{Reply, hand_out, is_current, heard, report}
use Rattle.boss_model.specs.Ends.{is_of, last_part_end, cancel, cancel_refused, gone}
use Rattle.boss_model.specs.Limits.{last_moment, last_number}
use Rattle.boss_model.specs.Lists.{first_some}
use Rattle.boss_model.specs.Machine.{answered, after, if_attached, joined, parted, notices_asked, act, pass_time, step}
use Rattle.boss_model.specs.Outcomes.{Outcome, refused, did, unless}
use Rattle.boss_model.specs.Processes.{process_of, session_of, process_named, name_of, is_full, process_refused, attach_refused}
use Rattle.boss_model.specs.Queries.{notices, notices_of, named, status_of}
use Rattle.boss_model.specs.Records.{End, Part, Transaction}
use Rattle.boss_model.specs.Renew.{transaction_of, if_own, part_on, wrote, named_parts, ended_at, renew, renew_refused}
use Rattle.boss_model.specs.Replies.{remembered, once}
use Rattle.boss_model.specs.Reversions.{courses}
use Rattle.boss_model.specs.Sound.{IsPast, IsPart, IsTransaction, IsSoundPersistent}
use Rattle.boss_model.specs.State.{Process, Persistent, Attachment, State}
use Rattle.boss_model.specs.Submit.{is_level, is_length, is_reversion, repeated, submit, submit_refused}
use Rattle.boss_model.specs.Time.{moment_of}
use Rattle.law_machine.specs.Ended.{IsKeptEnd}
use Rattle.law_machine.proofs.Requests.{never-refused}
use Rattle.law_soundness.proofs.OnceCases.{once-by}
use Rattle.law_time.proofs.Coming.{now_after-within}
use Rattle.law_time.proofs.Filters.{each-found}
use Rattle.law_time.proofs.Orders.{each-map}
use Rattle.law_time.proofs.TickSound.{tick-sound}

-- ---- answers that are not ended refusals

module _ (cause : Cause) (at moment : ℕ) where
  abbrev E : Refusal
  E = refusal.Ended cause at moment

  -- it is not this refusal
  abbrev IsOther : Option Refusal → Type 0
  IsOther why = why ≡ Some E → true ≡ false

  abbrev NotEnded : Answer → Type 0
  NotEnded given = given ≡ answer.Refused E → true ≡ false

  other-first : (x : Option Refusal) (xs : List (Option Refusal)) → IsOther x → IsOther (first_some xs) → IsOther (first_some (x ∷ xs))
  other-first None xs here rest = rest
  other-first (Some x) xs here rest = here

  other-mapped : {X : Type 0} (f : X → Refusal) (x : Option X) → ((y : X) → f y ≡ E → true ≡ false) → IsOther (option_map f x)
  other-mapped f None never is = cc
  other-mapped f (Some y) never is = never y (cc)

  other-if : (b : Bool) (x y : Option Refusal) → IsOther x → IsOther y → IsOther (cond b x y)
  other-if b x y here there = cond_both b x y IsOther (λ _. here) (λ _. there)

  other-own : (owner : ℕ) (why : Transaction → Option Refusal) (found : Option Transaction) → ((t : Transaction) → IsOther (why t)) → IsOther (if_own owner why found)
  other-own owner why None each = λ is. cc
  other-own owner why (Some t) each = other-if (t.owner == owner) (why t) (Some refusal.NotYours) (each t) (λ is. cc)

  other-unless : (s : State) (why : Option Refusal) (given : Answer) (d : Persistent) → IsOther why → NotEnded given → NotEnded (after s (unless why given d)).answer
  other-unless s None given d here there = there
  other-unless s (Some x) given d here there = λ is. here (cc)

  other-remembered : (owner seq : ℕ) (s : State) (outcome : Outcome) → NotEnded (after s outcome).answer → NotEnded (after s (remembered owner seq outcome)).answer
  other-remembered owner seq s (refused why) other = other
  other-remembered owner seq s (did given d) other = other

  other-once : (owner seq : ℕ) (s : State) (outcome : Outcome) → NotEnded (after s outcome).answer → NotEnded (after s (once owner seq s.persistent outcome)).answer
  other-once owner seq s outcome other = once-by owner seq s.persistent outcome (λ o. NotEnded (after s o).answer) (λ _. other) (λ _ _. other-remembered owner seq s outcome other)
      (λ reply _ _ _. never-refused reply.acceptance E) (λ reply _ _ _ is. cc)

  other-joined : (session process : ℕ) (s : State) (why : Option Refusal) (given : Answer) (d : Persistent) → IsOther why → NotEnded given → NotEnded (joined session process s (unless why given d)).answer
  other-joined session process s None given d here there = there
  other-joined session process s (Some x) given d here there = λ is. here (cc)

  other-held : (held : Option ℕ) (go : ℕ → Reply) (s : State) → ((p : ℕ) → NotEnded (go p).answer) → NotEnded (if_attached held go s).answer
  other-held None go s each = λ is. cc
  other-held (Some p) go s each = each p

  other-submit : (plant : List Actuator) (writes : List Setting) (d : Persistent) → IsOther (submit_refused plant writes d)
  other-submit plant writes d =
      other-first (option_map refusal.SamePoint (repeated [] 0 writes)) _ (other-mapped refusal.SamePoint (repeated [] 0 writes) (λ y is. cc))
      (other-first (option_map refusal.BadPriority (position (λ write. not (is_level write.priority)) writes)) _ (other-mapped refusal.BadPriority (position (λ write. not (is_level write.priority)) writes) (λ y is. cc))
      (other-first (option_map refusal.OutOfRange (position (λ write. not (fits_at plant write.point write.value)) writes)) _ (other-mapped refusal.OutOfRange (position (λ write. not (fits_at plant write.point write.value)) writes) (λ y is. cc))
      (other-first (option_map refusal.BadLease (position (λ write. not (is_length write.lease)) writes)) _ (other-mapped refusal.BadLease (position (λ write. not (is_length write.lease)) writes) (λ y is. cc))
      (other-first (option_map refusal.BadReversion (position (λ write. not (is_reversion plant write.point write.revert)) writes)) _
      (other-mapped refusal.BadReversion (position (λ write. not (is_reversion plant write.point write.revert)) writes) (λ y is. cc))
      (other-first (cond (d.next == last_number) (Some refusal.Spent) None) [] (other-if (d.next == last_number) (Some refusal.Spent) None (λ is. cc) (λ is. cc)) (λ is. cc))))))

  other-process : (d : Persistent) (attached : List Attachment) (found : Option ℕ) → IsOther (process_refused d.processes attached found)
  other-process d attached None = other-if (is_full d.processes) (Some refusal.TooManyProcesses) None (λ is. cc) (λ is. cc)
  other-process d attached (Some p) = other-mapped refusal.Taken (session_of attached p) (λ y is. cc)

  other-attach : (session : ℕ) (name : List ℕ) (attached : List Attachment) (d : Persistent) → IsOther (attach_refused session name attached d)
  other-attach session name attached d = other-first (option_map (λ process. refusal.Already (name_of d.processes process)) (process_of attached session)) _
      (other-mapped (λ process. refusal.Already (name_of d.processes process)) (process_of attached session) (λ y is. cc))
      (other-first (process_refused d.processes attached (process_named d.processes name)) [] (other-process d attached (process_named d.processes name)) (λ is. cc))

  other-cancel : (owner txn : ℕ) (d : Persistent) → IsOther (cancel_refused owner txn d)
  other-cancel owner txn d = other-own owner (λ t. cond (list_any (is_of txn) d.leases) None (Some (refusal.Over (last_part_end t)))) (transaction_of d.txns txn)
      (λ t. other-if (list_any (is_of txn) d.leases) None (Some (refusal.Over (last_part_end t))) (λ is. cc) (λ is. cc))

  other-hand_out : (found : Option ℕ) (s : State) → NotEnded (hand_out found s).answer
  other-hand_out None s is = cc
  other-hand_out (Some p) s is = cc

  other-report : (n point version : ℕ) (ok : Bool) (s : State) → NotEnded (report n point version ok s).answer
  other-report n point version ok s = cond_both {A = Reply} (is_current point version s) (record { answer = answer.Noted true; state = heard n point ok s }) (record { answer = answer.Noted false; state = s })
      (λ reply. NotEnded reply.answer) (λ _ is. cc) (λ _ is. cc)

  other-notices_of : (process : Option Process) (from most : ℕ) → NotEnded (notices_of process from most)
  other-notices_of None from most is = cc
  other-notices_of (Some p) from most is = cc

  other-notices : (name : Option (List ℕ)) (session from most : ℕ) (s : State) → NotEnded (notices_asked name session from most s).answer
  other-notices (Some name) session from most s = other-notices_of (named s.persistent.processes (process_named s.persistent.processes name)) from most
  other-notices None session from most s = other-held (process_of s.attached session) (λ p. answered (notices (Some p) from most s.persistent) s) s
      (λ p. other-notices_of (named s.persistent.processes (Some p)) from most)

  other-status : (t : Option Transaction) (d : Persistent) → NotEnded (status_of t d)
  other-status None d is = cc
  other-status (Some t) d is = cc

  -- ---- the renewal

  found-first : (x : Option Refusal) (xs : List (Option Refusal)) → IsOther x → first_some (x ∷ xs) ≡ Some E → first_some xs ≡ Some E
  found-first None xs here found = found
  found-first (Some x) xs here found = cc (here found)

  found-alone : (x : Option Refusal) → first_some (x ∷ []) ≡ Some E → x ≡ Some E
  found-alone None found = cc
  found-alone (Some x) found = found

  found-own : (owner : ℕ) (why : Transaction → Option Refusal) (found : Option Transaction) → if_own owner why found ≡ Some E → (t : Transaction) × (found ≡ Some t) × (why t ≡ Some E)
  found-own owner why None is = cc
  found-own owner why (Some t) is = cond_both (t.owner == owner) (why t) (Some refusal.NotYours) (λ x. x ≡ Some E → (u : Transaction) × (Some t ≡ Some u) × (why u ≡ Some E))
      (λ _ e. (t, refl, e)) (λ _ e. cc) is

  found-end : (n : ℕ) (found : Option End) → option_map (ended_at n) found ≡ Some E → (found ≡ Some (record { cause = cause; at = at })) × (moment ≡ n)
  found-end n None is = cc
  found-end n (Some end) is =
      let same : refusal.Ended end.cause end.at n ≡ refusal.Ended cause at moment = cc in
      let why : end.cause ≡ cause = cc in
      let when : end.at ≡ at = cc in
      let now : n ≡ moment = cc in
      ((λ i. Some (record { cause = why i; at = when i })), sym now)

  found-renew : (owner txn : ℕ) (asked : ℤ) (points : List ℕ) (n : ℕ) (d : Persistent) → renew_refused owner txn asked points n d ≡ Some E →
      (t : Transaction) × (transaction_of d.txns txn ≡ Some t) × (first_some (map (λ part. part.end) (named_parts points t.parts)) ≡ Some (record { cause = cause; at = at })) × (moment ≡ n)
  found-renew owner txn asked points n d is =
      let why = λ (t : Transaction). first_some (
      option_map refusal.NotInTxn (position (λ point. not (wrote t.parts point)) points) ∷ option_map (ended_at n) (first_some (map (λ part. part.end) (named_parts points t.parts))) ∷ []) in
      let rest = found-first (cond (is_length asked) None (Some (refusal.BadLease 0))) (if_own owner why (transaction_of d.txns txn) ∷ []) (other-if (is_length asked) None (Some (refusal.BadLease 0)) (λ e. cc) (λ e. cc)) is in
      let own = found-own owner why (transaction_of d.txns txn) (found-alone (if_own owner why (transaction_of d.txns txn)) rest) in
      let last = found-first (option_map refusal.NotInTxn (position (λ point. not (wrote own.0.parts point)) points))
      (option_map (ended_at n) (first_some (map (λ part. part.end) (named_parts points own.0.parts))) ∷ [])
      (other-mapped refusal.NotInTxn (position (λ point. not (wrote own.0.parts point)) points) (λ y e. cc)) own.2 in
      let end = found-end n (first_some (map (λ part. part.end) (named_parts points own.0.parts))) (found-alone (option_map (ended_at n) (first_some (map (λ part. part.end) (named_parts points own.0.parts)))) last) in
      (own.0, own.1, end.0, end.1)

-- ---- the end is past

first-past : (now : ℕ) (ends : List (Option End)) (end : End) → AllByRecursion (IsPast now) ends → first_some ends ≡ Some end → end.at ≤ now
first-past now [] end all found = cc
first-past now (None ∷ ends) end all found = first-past now ends end all.1 found
first-past now (Some e ∷ ends) end all found = let same : e ≡ end = cc in subst (λ x. x.at ≤ now) same all.0

consed : {X : Type 0} (P : X → Type 0) (x : Option X) (xs : List X) → ((y : X) → x ≡ Some y → P y) → AllByRecursion P xs → AllByRecursion P (cons_option x xs)
consed P None xs here all = all
consed P (Some y) xs here all = (here y refl, all)

chosen-past : (P : Part → Type 0) (points : List ℕ) (parts : List Part) → AllByRecursion P parts → AllByRecursion P (filter_map (part_on parts) points)
chosen-past P [] parts all = tt
chosen-past P (point ∷ points) parts all = consed P (part_on parts point) (filter_map (part_on parts) points) (λ y found. each-found P (λ part. part.point == point) parts y all found) (chosen-past P points parts all)

named-past : (P : Part → Type 0) (points : List ℕ) (parts : List Part) → AllByRecursion P parts → AllByRecursion P (named_parts points parts)
named-past P [] parts all = all
named-past P (point ∷ points) parts all = chosen-past P (point ∷ points) parts all

mapped-past : (now : ℕ) (parts : List Part) → AllByRecursion (λ part. IsPast now part.end) parts → AllByRecursion (IsPast now) (map (λ part. part.end) parts)
mapped-past now [] all = tt
mapped-past now (part ∷ parts) all = (all.0, mapped-past now parts all.1)

renew-kept : (plant : List Actuator) (owner txn seq : ℕ) (asked : ℤ) (points : List ℕ) (n : ℕ) (d : Persistent) (cause : Cause) (at moment : ℕ) → IsSoundPersistent plant d → d.now ≤ n →
    renew_refused owner txn asked points n d ≡ Some (refusal.Ended cause at moment) → IsKeptEnd (command.Renew txn asked points seq) n d cause at moment
renew-kept plant owner txn seq asked points n d cause at moment sound reached is =
    let found = found-renew cause at moment owner txn asked points n d is in
    let t = found.0 in
    let whole : IsTransaction plant d t = each-found (IsTransaction plant d) (λ u. u.txn == txn) d.txns t sound.txns found.1 in
    let past : at ≤ d.now = first-past d.now (map (λ part. part.end) (named_parts points t.parts)) (record { cause = cause; at = at })
    (mapped-past d.now (named_parts points t.parts) (named-past (λ part. IsPast d.now part.end) points t.parts
    (each-map (IsPart plant d.now t.txn d.leases) (λ part. IsPast d.now part.end) (λ part p. p.past) t.parts whole.parts))) found.2 in
    record { txn = txn; length = asked; points = points; seq = seq; transaction = t; renewal = refl; known = found.1; end = found.2; past = omega (arith, found.3); told = found.3 }

module _ (plant : List Actuator) (owner txn seq : ℕ) (asked : ℤ) (points : List ℕ) (n : ℕ) (s : State) (cause : Cause) (at moment : ℕ) where
  -- where it is this refusal, it is that of the renewal itself
  abbrev IsOwn : Outcome → Type 0
  IsOwn (refused why) = why ≡ refusal.Ended cause at moment → renew_refused owner txn asked points n s.persistent ≡ Some why
  IsOwn (did given d) = NotEnded cause at moment given

  own-unless : (why : Option Refusal) (given : Answer) (d : Persistent) → renew_refused owner txn asked points n s.persistent ≡ why → NotEnded cause at moment given → IsOwn (unless why given d)
  own-unless None given d same other = other
  own-unless (Some why) given d same other = λ _. same

  own-remembered : (outcome : Outcome) → IsOwn outcome → IsOwn (remembered owner seq outcome)
  own-remembered (refused why) own = own
  own-remembered (did given d) own = own

  own-once : (outcome : Outcome) → IsOwn outcome → IsOwn (once owner seq s.persistent outcome)
  own-once outcome own = once-by owner seq s.persistent outcome IsOwn (λ _. own) (λ _ _. own-remembered outcome own)
      (λ reply _ _ _. never-refused reply.acceptance (refusal.Ended cause at moment)) (λ reply _ _ _ is. cc)

  own-kept : (outcome : Outcome) → IsOwn outcome → IsSoundPersistent plant s.persistent → s.persistent.now ≤ n → (after s outcome).answer ≡ answer.Refused (refusal.Ended cause at moment) →
      IsKeptEnd (command.Renew txn asked points seq) n (after s outcome).state.persistent cause at moment
  own-kept (did given d) own sound reached is = cc (own is)
  own-kept (refused why) own sound reached is =
      let that : why ≡ refusal.Ended cause at moment = cc in
      renew-kept plant owner txn seq asked points n s.persistent cause at moment sound reached (own that ∙ ap Some that)

held-kept : (plant : List Actuator) (txn seq : ℕ) (asked : ℤ) (points : List ℕ) (n : ℕ) (s : State) (cause : Cause) (at moment : ℕ) (held : Option ℕ) → IsSoundPersistent plant s.persistent → s.persistent.now ≤ n →
    (if_attached held (λ owner. after s (once owner seq s.persistent (renew owner txn asked points n s.persistent))) s).answer ≡ answer.Refused (refusal.Ended cause at moment) →
    IsKeptEnd (command.Renew txn asked points seq) n (if_attached held (λ owner. after s (once owner seq s.persistent (renew owner txn asked points n s.persistent))) s).state.persistent cause at moment
held-kept plant txn seq asked points n s cause at moment None sound reached is = cc
held-kept plant txn seq asked points n s cause at moment (Some owner) sound reached is =
    own-kept plant owner txn seq asked points n s cause at moment (once owner seq s.persistent (renew owner txn asked points n s.persistent))
    (own-once plant owner txn seq asked points n s cause at moment (renew owner txn asked points n s.persistent)
    (own-unless plant owner txn seq asked points n s cause at moment (renew_refused owner txn asked points n s.persistent) (answer.Renewed _ _) _ refl (λ e. cc))) sound reached is

ended-act : (plant : List Actuator) (session n : ℕ) (c : Command) (s : State) (cause : Cause) (at moment : ℕ) → IsSoundPersistent plant s.persistent → s.persistent.now ≤ n →
    (act plant session n c s).answer ≡ answer.Refused (refusal.Ended cause at moment) → IsKeptEnd c n (act plant session n c s).state.persistent cause at moment
ended-act plant session n (command.Attach name) s cause at moment sound reached is =
    cc (other-joined cause at moment session _ s (attach_refused session name s.attached s.persistent) (answer.Attached name _) _ (other-attach cause at moment session name s.attached s.persistent) (λ e. cc) is)
ended-act plant session n (command.Submit writes policy seq) s cause at moment sound reached is =
    cc (other-held cause at moment (process_of s.attached session) (λ p. after s (once p seq s.persistent (submit plant p policy writes n s.persistent))) s
    (λ p. other-once cause at moment p seq s _
    (other-unless cause at moment s (submit_refused plant writes s.persistent) (answer.Accepted _ _) _ (other-submit cause at moment plant writes s.persistent) (λ e. cc))) is)
ended-act plant session n (command.Renew txn asked points seq) s cause at moment sound reached is = held-kept plant txn seq asked points n s cause at moment (process_of s.attached session) sound reached is
ended-act plant session n (command.Cancel txn seq) s cause at moment sound reached is =
    cc (other-held cause at moment (process_of s.attached session) (λ p. after s (once p seq s.persistent (cancel p txn n s.persistent))) s
    (λ p. other-once cause at moment p seq s _
    (other-unless cause at moment s (cancel_refused p txn s.persistent) (answer.Cancelled _ _) _ (other-cancel cause at moment p txn s.persistent) (λ e. cc))) is)
ended-act plant session n command.Gone s cause at moment sound reached is =
    cc (other-held cause at moment (process_of s.attached session) (λ p. parted session s (gone p n s.persistent)) s (λ p e. cc) is)
ended-act plant session n command.Tick s cause at moment sound reached is = cc
ended-act plant session n (command.Next driver) s cause at moment sound reached is = cc (other-hand_out cause at moment (find (λ point. driver_of plant point == driver) s.wants) s is)
ended-act plant session n (command.Report point version ok) s cause at moment sound reached is = cc (other-report cause at moment n point version ok s is)
ended-act plant session n (command.Doubt point differs) s cause at moment sound reached is = cc
ended-act plant session n (command.Read point) s cause at moment sound reached is = cc
ended-act plant session n (command.Array point) s cause at moment sound reached is = cc
ended-act plant session n (command.Status txn) s cause at moment sound reached is = cc (other-status cause at moment (transaction_of s.persistent.txns txn) s.persistent is)
ended-act plant session n (command.Notices name from most) s cause at moment sound reached is = cc (other-notices cause at moment name session from most s is)
ended-act plant session n (command.Points from most) s cause at moment sound reached is = cc
ended-act plant session n command.Version s cause at moment sound reached is = cc

pub ended-step : (plant : List Actuator) (s : State) (session : ℕ) (c : Command) (m : ℕ) (cause : Cause) (at moment : ℕ) → IsSoundPersistent plant s.persistent → m ≤ last_moment →
    (step plant session c m s).answer ≡ answer.Refused (refusal.Ended cause at moment) →
    IsKeptEnd c (moment_of s.persistent m) (step plant session c m s).state.persistent cause at moment
unfolding step
ended-step plant s session c m cause at moment sound small is =
    let n = max s.persistent.now m in
    let now : s.persistent.now ≤ last_moment = sound.now in
    ended-act plant session n c (pass_time plant n s) cause at moment (tick-sound plant s.persistent n sound (omega arith) (omega arith))
    (now_after-within n s.persistent.now (courses s.persistent.pending s.persistent.leases) s.persistent.txns (omega arith)) is
