-- What a step makes of the replies that are kept: a numbered request that is accepted is kept, and nothing else changes them.
use Rattle.std.proofs.Common.{◌≡◌, ◌⊎◌, inl, inr, ℕ, zero, suc, ◌+◌, ◌<◌, ◌≤◌, ◌==◌, nat_lt, List, [], ◌∷◌, ◌++◌, length, ℤ, set, map, not, unsigned_abs, Bool, true, false, ◌&&◌, Option, Some, None, refl, ap, sym, ◌∙◌, subst, arith}
use Rattle.std.specs.Option.{option_map_or}
use Rattle.std.specs.List.{filter, fold, list_any, slice_get}
use Rattle.std.proofs.lemmas.Bool.{cond_both}
use Rattle.std.proofs.lemmas.Bool.Decides.{nat_tests}
use Rattle.boss_model.specs.declared.answer.Answer.{Answer}
use Rattle.boss_model.specs.declared.answer.Answer.TheVariants as answer
use Rattle.boss_model.specs.declared.answer.Refusal.{Refusal}
use Rattle.boss_model.specs.declared.answer.Refusal.TheVariants as refusal
use Rattle.boss_model.specs.declared.command.Command.{Command}
use Rattle.boss_model.specs.declared.command.Command.TheVariants as command
use Rattle.boss_model.specs.declared.command.Policy.{Policy}
use Rattle.boss_model.specs.declared.command.Setting.{Setting}
use Rattle.boss_model.specs.declared.command.Policy.TheVariants.{Abort, Keep}
use Rattle.boss_model.specs.declared.kept.Acceptance.{Acceptance}
use Rattle.boss_model.specs.declared.kept.Acceptance.TheVariants as acceptance
use Rattle.boss_model.specs.declared.kept.KeptReply.{KeptReply}
use Rattle.boss_model.specs.declared.notice.Cause.{Cause}
use Rattle.boss_model.specs.declared.notice.Cause.TheVariants as cause
use Rattle.boss_model.specs.declared.notice.What.{What}
use Rattle.boss_model.specs.declared.state.Actuator.{Actuator}
use Rattle.boss_model.specs.declared.state.Lease.{Lease}
use Rattle.boss_model.specs.declared.state.Pending.{Pending}
use Rattle.boss_model.specs.Devices.{Reply, proxy_of, hand_out, is_current, heard, report}
use Rattle.boss_model.specs.Ends.{shortened, shortened_if, end_if, is_of, is_owned_by, end_leases, cancel, cancel_refused, gone, lost, fault, faulted_under, faulted}
use Rattle.boss_model.specs.Groups.{courses_of, conclude}
use Rattle.boss_model.specs.Happenings.{Happening, rank, ended, lives, done_at, posted, post, tell_of, tell}
use Rattle.boss_model.specs.Limits.{last_number, notices_kept}
use Rattle.boss_model.specs.Lists.{keep_last}
use Rattle.boss_model.specs.Machine.{after, if_attached, joined, parted, notices_asked, act, pass_time, step}
use Rattle.boss_model.specs.Order.{in_order}
use Rattle.boss_model.specs.Outcomes.{Outcome, refused, did, unless}
use Rattle.boss_model.specs.Processes.{process_of, process_named, number_of, enrol_unless, attach, attach_refused}
use Rattle.boss_model.specs.Queries.{notices}
use Rattle.boss_model.specs.Renew.{is_meant, extended_if, renewed, renew, renew_refused}
use Rattle.boss_model.specs.Replies.{answer_of, acceptance_of, reply_of, replied, keep_reply, remembered, once, is_repeat}
use Rattle.boss_model.specs.Reversions.{reversion_of, courses}
use Rattle.boss_model.specs.Settle.{settle}
use Rattle.boss_model.specs.State.{lease_slot, Process, Persistent, State}
use Rattle.boss_model.specs.Submit.{granted, begun, is_taken, superseded, cut, superseded_end, submitted, submit, submit_refused}
use Rattle.boss_model.specs.Target.{in_force}
use Rattle.boss_model.specs.Time.{live, under_way, record_after, due, moment_of, tick_to}
use Rattle.law_machine.specs.Once.{seq_of, IsUnder, kept_seq}
use Rattle.law_machine.proofs.Requests.{IsRequest, submit-request, renew-request, cancel-request, never-refused}
use Rattle.law_soundness.proofs.ActSound.{tick-length}
use Rattle.law_time.proofs.GroupSound.{tell-length}
use Rattle.law_soundness.proofs.OnceCases.{IsAbove, repeat-of, once-by}

-- ---- the replies of some processes

set-same : (ps : List Process) (place owner : ℕ) (p q : Process) → slice_get ps place ≡ Some p → q.reply ≡ p.reply → reply_of (set ps place q) owner ≡ reply_of ps owner
set-same [] place owner p q found same = refl
set-same (x ∷ xs) zero zero p q found same = let here : x ≡ p = cc in same ∙ ap (λ y. y.reply) (sym here)
set-same (x ∷ xs) zero (suc owner) p q found same = refl
set-same (x ∷ xs) (suc place) zero p q found same = refl
set-same (x ∷ xs) (suc place) (suc owner) p q found same = set-same xs place owner p q found same

set-here : (ps : List Process) (place : ℕ) (p q : Process) → slice_get ps place ≡ Some p → reply_of (set ps place q) place ≡ q.reply
set-here [] place p q found = cc
set-here (x ∷ xs) zero p q found = refl
set-here (x ∷ xs) (suc place) p q found = set-here xs place p q found

set-apart : (ps : List Process) (place owner : ℕ) (q : Process) → (place == owner) ≡ false → reply_of (set ps place q) owner ≡ reply_of ps owner
set-apart [] place owner q apart = refl
set-apart (x ∷ xs) zero zero q apart = cc
set-apart (x ∷ xs) zero (suc owner) q apart = refl
set-apart (x ∷ xs) (suc place) zero q apart = refl
set-apart (x ∷ xs) (suc place) (suc owner) q apart = set-apart xs place owner q (grind (arith, nat_tests))

snoc-same : (ps : List Process) (owner : ℕ) (p : Process) → p.reply ≡ None → reply_of (ps ++ p ∷ []) owner ≡ reply_of ps owner
snoc-same [] zero p none = none
snoc-same [] (suc owner) p none = refl
snoc-same (x ∷ xs) zero p none = refl
snoc-same (x ∷ xs) (suc owner) p none = snoc-same xs owner p none

-- telling leaves them
posted-same : (at txn : ℕ) (told : What) (p : Process) → (posted at txn told p).reply ≡ p.reply
posted-same at txn told p = cond_both (p.count == last_number) p
    (record p { count = p.count + 1; kept = keep_last notices_kept (p.kept ++ (record { number = p.count + 1; at = at; txn = txn; what = told }) ∷ []) }) (λ q. q.reply ≡ p.reply) (λ _. refl) (λ _. refl)

post-same : (ps : List Process) (to owner : ℕ) (found : Option Process) (at txn : ℕ) (told : What) → slice_get ps to ≡ found → reply_of (post ps to found at txn told) owner ≡ reply_of ps owner
post-same ps to owner None at txn told is = refl
post-same ps to owner (Some p) at txn told is = set-same ps to owner p (posted at txn told p) is (posted-same at txn told p)

tell_of-same : (told : Option What) (ps : List Process) (owner : ℕ) (h : Happening) → reply_of (tell_of told ps h) owner ≡ reply_of ps owner
tell_of-same None ps owner h = refl
tell_of-same (Some told) ps owner h = post-same ps h.owner owner (slice_get ps h.owner) h.at h.txn told refl

pub tell-same : (ps : List Process) (owner : ℕ) (hs : List Happening) → reply_of (fold tell ps hs) owner ≡ reply_of ps owner
tell-same ps owner [] = refl
tell-same ps owner (h ∷ hs) = tell-same (tell ps h) owner hs ∙ tell_of-same h.told ps owner h

-- ---- what the commands do apart from their numbers

abbrev pub Same : ℕ → Persistent → Persistent → Type 0
Same owner d changed = reply_of changed.processes owner ≡ reply_of d.processes owner

-- the processes of a conclusion are those before it, told of what happened
abbrev Told : Persistent → Persistent → Type 0
Told d changed = (hs : List Happening) × (changed.processes ≡ fold tell d.processes hs)

told-same : (owner : ℕ) (d changed : Persistent) → Told d changed → Same owner d changed
told-same owner d changed told = ap (λ ps. reply_of ps owner) told.1 ∙ tell-same d.processes owner told.0

told-many : (d changed : Persistent) → Told d changed → length changed.processes ≡ length d.processes
told-many d changed told = ap length told.1 ∙ tell-length d.processes told.0

concluded-told : (n : ℕ) (hs : List Happening) (d changed : Persistent) → Told d (conclude n hs d changed)
concluded-told n hs d changed = (
  in_order rank (hs ++ map (done_at n) (filter (λ t. lives t.txn (courses_of d) && not (lives t.txn (courses_of changed))) changed.txns)),
  refl,
)

ended-told : (which : Lease → Bool) (why : Cause) (n : ℕ) (first : List Happening) (d : Persistent) → Told d (end_leases which why n first d)
ended-told which why n first d =
    let leases = map (shortened_if which n) d.leases in
    concluded-told n (first ++ map (λ lease. ended why (reversion_of (shortened n lease))) (filter which d.leases)) d (record d {
      leases = live n leases;
      pending = under_way n (courses d.pending leases);
      txns = map (record_after (end_if which why n) d.leases) d.txns;
    })

submitted-told : (owner : ℕ) (policy : Policy) (writes : List Setting) (n : ℕ) (d : Persistent) → Told d (submitted owner policy writes n d)
submitted-told owner policy writes n d =
    let new = granted owner policy d.next n writes in
    let gone = λ (lease : Lease). is_taken new lease.point lease.priority in
    let broken = λ (reversion : Pending). is_taken new reversion.point reversion.priority in
    concluded-told n (map (superseded d.next n) (filter gone d.leases) ++ map (cut d.next n) (filter broken d.pending)) d (record d {
      next = d.next + 1;
      leases = in_order lease_slot (filter (λ lease. not (gone lease)) d.leases ++ new);
      pending = filter (λ reversion. not (broken reversion)) d.pending;
      txns = map (record_after (superseded_end new d.next n) d.leases) d.txns ++ begun owner policy d.next writes ∷ [];
    })

renewed-told : (txn : ℕ) (asked : ℤ) (points : List ℕ) (n : ℕ) (d : Persistent) → Told d (renewed txn asked points n d)
renewed-told txn asked points n d = concluded-told n [] d (record d { leases = map (extended_if (is_meant txn points) (n + unsigned_abs asked)) d.leases })

abbrev IsQuiet : ℕ → Persistent → Outcome → Type 0
IsQuiet owner d (refused why) = Unit {0}
IsQuiet owner d (did given changed) = Same owner d changed

-- no process goes
abbrev IsMany : Persistent → Outcome → Type 0
IsMany d (refused why) = Unit {0}
IsMany d (did given changed) = length changed.processes ≡ length d.processes

many-unless : (d : Persistent) (why : Option Refusal) (given : Answer) (changed : Persistent) → length changed.processes ≡ length d.processes → IsMany d (unless why given changed)
many-unless d None given changed same = same
many-unless d (Some why) given changed same = tt

quiet-unless : (owner : ℕ) (d : Persistent) (why : Option Refusal) (given : Answer) (changed : Persistent) → Same owner d changed → IsQuiet owner d (unless why given changed)
quiet-unless owner d None given changed same = same
quiet-unless owner d (Some why) given changed same = tt

quiet-lost : (who owner n : ℕ) (d : Persistent) → Same owner d (lost who n d)
quiet-lost who owner n d = cond_both (list_any (is_owned_by who) d.leases) (end_leases (is_owned_by who) cause.Died n [] d) d (Same owner d)
    (λ _. told-same owner d (end_leases (is_owned_by who) cause.Died n [] d) (ended-told (is_owned_by who) cause.Died n [] d)) (λ _. refl)

quiet-under : (policy : Policy) (lease : Lease) (owner n : ℕ) (d : Persistent) → Same owner d (faulted_under policy lease n d)
quiet-under Abort lease owner n d = told-same owner d (end_leases (is_of lease.txn) cause.Fault n (fault n lease ∷ []) d) (ended-told (is_of lease.txn) cause.Fault n (fault n lease ∷ []) d)
quiet-under Keep lease owner n d = told-same owner d (conclude n (fault n lease ∷ []) d d) (concluded-told n (fault n lease ∷ []) d d)

quiet-faulted : (found : Option Lease) (owner n : ℕ) (d : Persistent) → Same owner d (faulted found n d)
quiet-faulted None owner n d = refl
quiet-faulted (Some lease) owner n d = quiet-under lease.policy lease owner n d

quiet-enrol : (found : Option ℕ) (name : List ℕ) (owner n : ℕ) (d : Persistent) → Same owner d (enrol_unless found name n d)
quiet-enrol None name owner n d = snoc-same d.processes owner _ refl
quiet-enrol (Some process) name owner n d = refl

quiet-joined : (session process owner : ℕ) (s : State) (outcome : Outcome) → IsQuiet owner s.persistent outcome → Same owner s.persistent (joined session process s outcome).state.persistent
quiet-joined session process owner s (refused why) same = refl
quiet-joined session process owner s (did given d) same = same

quiet-heard : (n point : ℕ) (ok : Bool) (owner : ℕ) (s : State) → Same owner s.persistent (heard n point ok s).persistent
quiet-heard n point true owner s = refl
quiet-heard n point false owner s = cond_both (proxy_of s.proxies point).failed s.persistent (faulted (in_force s.persistent.leases point) n s.persistent) (Same owner s.persistent)
    (λ _. refl) (λ _. quiet-faulted (in_force s.persistent.leases point) owner n s.persistent)

quiet-report : (n point version : ℕ) (ok : Bool) (owner : ℕ) (s : State) → Same owner s.persistent (report n point version ok s).state.persistent
quiet-report n point version ok owner s = cond_both {A = Reply} (is_current point version s) (record { answer = answer.Noted true; state = heard n point ok s }) (record { answer = answer.Noted false; state = s })
    (λ reply. Same owner s.persistent reply.state.persistent) (λ _. quiet-heard n point ok owner s) (λ _. refl)

quiet-hand_out : (found : Option ℕ) (owner : ℕ) (s : State) → Same owner s.persistent (hand_out found s).state.persistent
quiet-hand_out None owner s = refl
quiet-hand_out (Some point) owner s = refl

quiet-gone : (held : Option ℕ) (session n owner : ℕ) (s : State) → Same owner s.persistent (if_attached held (λ p. parted session s (gone p n s.persistent)) s).state.persistent
quiet-gone None session n owner s = refl
quiet-gone (Some p) session n owner s = quiet-lost p owner n s.persistent

quiet-notices : (name : Option (List ℕ)) (session from most owner : ℕ) (s : State) → Same owner s.persistent (notices_asked name session from most s).state.persistent
quiet-notices (Some name) session from most owner s = refl
quiet-notices None session from most owner s = by (process_of s.attached session)
  where
    by : (held : Option ℕ) → Same owner s.persistent (if_attached held (λ p. record { answer = notices (Some p) from most s.persistent; state = s }) s).state.persistent
    by None = refl
    by (Some p) = refl

-- ---- a numbered request

-- a command that has a number is a request of the session's process
pub record IsAsked (plant : List Actuator) (session n : ℕ) (c : Command) (s : State) : Type 0 where
  pub outcome : ℕ → Outcome
  pub request : (p : ℕ) → IsRequest (outcome p)
  pub quiet : (p owner : ℕ) → IsQuiet owner s.persistent (outcome p)
  pub many : (p : ℕ) → IsMany s.persistent (outcome p)
  pub acts : act plant session n c s ≡ if_attached (process_of s.attached session) (λ p. after s (once p (seq_of c) s.persistent (outcome p))) s

submit-asked : (plant : List Actuator) (session n : ℕ) (writes : List Setting) (policy : Policy) (seq : ℕ) (s : State) → IsAsked plant session n (command.Submit writes policy seq) s
submit-asked plant session n writes policy seq s = record {
  outcome = λ p. submit plant p policy writes n s.persistent;
  request = λ p. submit-request plant p policy writes n s.persistent;
  quiet = λ p owner. let changed = submitted p policy writes n s.persistent in quiet-unless owner s.persistent (submit_refused plant writes s.persistent) _ changed (told-same owner s.persistent changed (submitted-told p policy writes n s.persistent));
  many = λ p. let changed = submitted p policy writes n s.persistent in many-unless s.persistent (submit_refused plant writes s.persistent) _ changed (told-many s.persistent changed (submitted-told p policy writes n s.persistent));
  acts = refl;
}

renew-asked : (plant : List Actuator) (session n txn : ℕ) (asked : ℤ) (points : List ℕ) (seq : ℕ) (s : State) → IsAsked plant session n (command.Renew txn asked points seq) s
renew-asked plant session n txn asked points seq s = record {
  outcome = λ p. renew p txn asked points n s.persistent;
  request = λ p. renew-request p txn asked points n s.persistent;
  quiet = λ p owner. let changed = renewed txn asked points n s.persistent in quiet-unless owner s.persistent (renew_refused p txn asked points n s.persistent) _ changed (told-same owner s.persistent changed (renewed-told txn asked points n s.persistent));
  many = λ p. let changed = renewed txn asked points n s.persistent in many-unless s.persistent (renew_refused p txn asked points n s.persistent) _ changed (told-many s.persistent changed (renewed-told txn asked points n s.persistent));
  acts = refl;
}

cancel-asked : (plant : List Actuator) (session n txn seq : ℕ) (s : State) → IsAsked plant session n (command.Cancel txn seq) s
cancel-asked plant session n txn seq s = record {
  outcome = λ p. cancel p txn n s.persistent;
  request = λ p. cancel-request p txn n s.persistent;
  quiet = λ p owner. let changed = end_leases (is_of txn) cause.Cancelled n [] s.persistent in quiet-unless owner s.persistent (cancel_refused p txn s.persistent) _ changed (told-same owner s.persistent changed (ended-told (is_of txn) cause.Cancelled n [] s.persistent));
  many = λ p. let changed = end_leases (is_of txn) cause.Cancelled n [] s.persistent in many-unless s.persistent (cancel_refused p txn s.persistent) _ changed (told-many s.persistent changed (ended-told (is_of txn) cause.Cancelled n [] s.persistent));
  acts = refl;
}

under-asked : (plant : List Actuator) (session n : ℕ) (c : Command) (s : State) → 0 < seq_of c → IsAsked plant session n c s
under-asked plant session n (command.Submit writes policy seq) s some = submit-asked plant session n writes policy seq s
under-asked plant session n (command.Renew txn asked points seq) s some = renew-asked plant session n txn asked points seq s
under-asked plant session n (command.Cancel txn seq) s some = cancel-asked plant session n txn seq s
under-asked plant session n (command.Attach name) s some = absurd (omega arith)
under-asked plant session n command.Gone s some = absurd (omega arith)
under-asked plant session n command.Tick s some = absurd (omega arith)
under-asked plant session n (command.Next driver) s some = absurd (omega arith)
under-asked plant session n (command.Report point version ok) s some = absurd (omega arith)
under-asked plant session n (command.Doubt point differs) s some = absurd (omega arith)
under-asked plant session n (command.Read point) s some = absurd (omega arith)
under-asked plant session n (command.Array point) s some = absurd (omega arith)
under-asked plant session n (command.Status txn) s some = absurd (omega arith)
under-asked plant session n (command.Notices name from most) s some = absurd (omega arith)
under-asked plant session n (command.Points from most) s some = absurd (omega arith)
under-asked plant session n command.Version s some = absurd (omega arith)

-- ---- the replies after

-- as before, or the process p is the owner, and what it was answered is kept with a number greater than before
abbrev pub IsReplied : Type 0 → ℕ → Option KeptReply → Option KeptReply → Type 0
IsReplied Own seq before after = (after ≡ before) ⊎ (Own × (given : Acceptance) × (after ≡ Some (record { seq = seq; acceptance = given })) × (0 < seq) × IsAbove seq before)

pub kept-back : (given : Acceptance) → acceptance_of (answer_of given) ≡ Some given
kept-back (acceptance.Accepted txn until) = refl
kept-back (acceptance.Renewed txn until) = refl
kept-back (acceptance.Cancelled txn at) = refl

module _ (p owner seq : ℕ) where
  replied-at : (ps : List Process) (given : Acceptance) (found : Option Process) → slice_get ps p ≡ found → 0 < seq → IsAbove seq (reply_of ps p) →
      IsReplied (p ≡ owner) seq (reply_of ps owner) (reply_of (replied ps p (record { seq = seq; acceptance = given }) found) owner)
  replied-at ps given None is some above = inl refl
  replied-at ps given (Some x) is some above =
      let r : KeptReply = record { seq = seq; acceptance = given } in
      let q : Process = record x { reply = Some r } in
      cond_both (p == owner) true false (λ b. (p == owner) ≡ b → IsReplied (p ≡ owner) seq (reply_of ps owner) (reply_of (set ps p q) owner))
      (λ same _. let mine : p ≡ owner = grind (arith, nat_tests) in
      inr (mine, given, subst (λ k. reply_of (set ps p q) k ≡ Some r) mine (set-here ps p x q is), some, subst (λ k. IsAbove seq (reply_of ps k)) mine above))
      (λ other _. inl (set-apart ps p owner q other)) (grind (arith))

  module _ (d : Persistent) where
    abbrev OnReplies : Outcome → Type 0
    OnReplies (refused why) = Unit {0}
    OnReplies (did given changed) = IsReplied (p ≡ owner) seq (reply_of d.processes owner) (reply_of changed.processes owner)

    bare-replied : (outcome : Outcome) → IsQuiet owner d outcome → OnReplies outcome
    bare-replied (refused why) quiet = tt
    bare-replied (did given changed) quiet = inl quiet

    new-replied : (outcome : Outcome) → IsRequest outcome → ((k : ℕ) → IsQuiet k d outcome) → 0 < seq → IsAbove seq (reply_of d.processes p) → OnReplies (remembered p seq outcome)
    new-replied (refused why) is quiet some above = tt
    new-replied (did given changed) is quiet some above =
        let that : acceptance_of given ≡ Some is.0 = ap acceptance_of is.1 ∙ kept-back is.0 in
        subst (λ f. IsReplied (p ≡ owner) seq (reply_of d.processes owner) (reply_of (keep_reply p seq f changed.processes) owner)) (sym that)
        (subst (λ before. IsReplied (p ≡ owner) seq before (reply_of (keep_reply p seq (Some is.0) changed.processes) owner)) (quiet owner)
        (replied-at changed.processes is.0 (slice_get changed.processes p) refl some (subst (IsAbove seq) (sym (quiet p)) above)))

    once-replied : (outcome : Outcome) → IsRequest outcome → ((k : ℕ) → IsQuiet k d outcome) → OnReplies (once p seq d outcome)
    once-replied outcome is quiet = once-by p seq d outcome OnReplies (λ _. bare-replied outcome (quiet owner)) (new-replied outcome is quiet)
        (λ reply _ _ _. inl refl) (λ reply _ _ _. tt)

    after-replied : (s : State) (outcome : Outcome) → d ≡ s.persistent → OnReplies outcome → IsReplied (p ≡ owner) seq (reply_of d.processes owner) (reply_of (after s outcome).state.persistent.processes owner)
    after-replied s (refused why) same replied = inl (ap (λ e. reply_of e.processes owner) (sym same))
    after-replied s (did given changed) same replied = replied

-- the session's process is meant
abbrev pub Own : ℕ → ℕ → State → Type 0
Own session owner s = process_of s.attached session ≡ Some owner

own-replied : (session seq owner : ℕ) (s : State) (p : ℕ) (x : Option KeptReply) → process_of s.attached session ≡ Some p → IsReplied (p ≡ owner) seq (reply_of s.persistent.processes owner) x →
    IsReplied (Own session owner s) seq (reply_of s.persistent.processes owner) x
own-replied session seq owner s p x held (inl same) = inl same
own-replied session seq owner s p x held (inr new) = inr (held ∙ ap Some new.0, new.1, new.2, new.3, new.4)

if-replied : (session seq owner : ℕ) (s : State) (held : Option ℕ) (go : ℕ → Reply) → process_of s.attached session ≡ held →
    ((p : ℕ) → IsReplied (p ≡ owner) seq (reply_of s.persistent.processes owner) (reply_of (go p).state.persistent.processes owner)) →
    IsReplied (Own session owner s) seq (reply_of s.persistent.processes owner) (reply_of (if_attached held go s).state.persistent.processes owner)
if-replied session seq owner s None go is each = inl refl
if-replied session seq owner s (Some p) go is each = own-replied session seq owner s p _ is (each p)

asked-replied : (plant : List Actuator) (session n owner : ℕ) (c : Command) (s : State) → IsAsked plant session n c s →
    IsReplied (Own session owner s) (seq_of c) (reply_of s.persistent.processes owner) (reply_of (act plant session n c s).state.persistent.processes owner)
asked-replied plant session n owner c s asked =
    subst (λ r. IsReplied (Own session owner s) (seq_of c) (reply_of s.persistent.processes owner) (reply_of r.state.persistent.processes owner)) (sym asked.acts)
    (if-replied session (seq_of c) owner s (process_of s.attached session) (λ p. after s (once p (seq_of c) s.persistent (asked.outcome p))) refl
    (λ p. after-replied p owner (seq_of c) s.persistent s (once p (seq_of c) s.persistent (asked.outcome p)) refl
    (once-replied p owner (seq_of c) s.persistent (asked.outcome p) (asked.request p) (asked.quiet p))))

act-replied : (plant : List Actuator) (session n owner : ℕ) (c : Command) (s : State) →
    IsReplied (Own session owner s) (seq_of c) (reply_of s.persistent.processes owner) (reply_of (act plant session n c s).state.persistent.processes owner)
act-replied plant session n owner (command.Submit writes policy seq) s = asked-replied plant session n owner (command.Submit writes policy seq) s (submit-asked plant session n writes policy seq s)
act-replied plant session n owner (command.Renew txn asked points seq) s = asked-replied plant session n owner (command.Renew txn asked points seq) s (renew-asked plant session n txn asked points seq s)
act-replied plant session n owner (command.Cancel txn seq) s = asked-replied plant session n owner (command.Cancel txn seq) s (cancel-asked plant session n txn seq s)
act-replied plant session n owner (command.Attach name) s = inl (quiet-joined session (number_of s.persistent.processes (process_named s.persistent.processes name)) owner s
    (attach session name s.attached n s.persistent) (quiet-unless owner s.persistent (attach_refused session name s.attached s.persistent) _ _ (quiet-enrol (process_named s.persistent.processes name) name owner n s.persistent)))
act-replied plant session n owner command.Gone s = inl (quiet-gone (process_of s.attached session) session n owner s)
act-replied plant session n owner command.Tick s = inl refl
act-replied plant session n owner (command.Next driver) s = inl (quiet-hand_out _ owner s)
act-replied plant session n owner (command.Report point version ok) s = inl (quiet-report n point version ok owner s)
act-replied plant session n owner (command.Doubt point differs) s = inl refl
act-replied plant session n owner (command.Read point) s = inl refl
act-replied plant session n owner (command.Array point) s = inl refl
act-replied plant session n owner (command.Status txn) s = inl refl
act-replied plant session n owner (command.Notices name from most) s = inl (quiet-notices name session from most owner s)
act-replied plant session n owner (command.Points from most) s = inl refl
act-replied plant session n owner command.Version s = inl refl

-- time leaves the replies
pub ticked-same : (d : Persistent) (n owner : ℕ) → reply_of (tick_to n d).processes owner ≡ reply_of d.processes owner
ticked-same d n owner = tell-same d.processes owner (due n d)

pub step-replied : (plant : List Actuator) (session owner : ℕ) (c : Command) (m : ℕ) (s : State) →
    IsReplied (Own session owner s) (seq_of c) (reply_of s.persistent.processes owner) (reply_of (step plant session c m s).state.persistent.processes owner)
unfolding step
step-replied plant session owner c m s =
    let n = moment_of s.persistent m in
    let passed = pass_time plant n s in
    subst (λ before. IsReplied (Own session owner s) (seq_of c) before (reply_of (act plant session n c passed).state.persistent.processes owner)) (ticked-same s.persistent n owner)
    (act-replied plant session n owner c passed)

-- ---- a number that is kept, and lesser ones

once-repeated : (owner seq : ℕ) (d : Persistent) (outcome : Outcome) (reply : KeptReply) → 0 < seq → reply_of d.processes owner ≡ Some reply → reply.seq ≡ seq →
    once owner seq d outcome ≡ did (answer_of reply.acceptance) d
once-repeated owner seq d outcome reply some found same = once-by owner seq d outcome (λ o. o ≡ did (answer_of reply.acceptance) d)
    (λ none. absurd (omega arith))
    (λ _ above. let less : reply.seq < seq = subst (IsAbove seq) found above in absurd (omega arith))
    (λ other _ is _. let equal : other ≡ reply = cc in ap (λ r. did (answer_of r.acceptance) d) equal)
    (λ other _ is less. let equal : other ≡ reply = cc in let less2 : seq < reply.seq = subst (λ r. seq < r.seq) equal less in absurd (omega arith))

once-lesser : (owner seq : ℕ) (d : Persistent) (outcome : Outcome) (reply : KeptReply) → 0 < seq → reply_of d.processes owner ≡ Some reply → seq < reply.seq →
    once owner seq d outcome ≡ refused (refusal.Stale reply.seq)
once-lesser owner seq d outcome reply some found less = once-by owner seq d outcome (λ o. o ≡ refused (refusal.Stale reply.seq))
    (λ none. absurd (omega arith))
    (λ _ above. let more : reply.seq < seq = subst (IsAbove seq) found above in absurd (omega arith))
    (λ other _ is same. let equal : other ≡ reply = cc in let same2 : reply.seq ≡ seq = subst (λ r. r.seq ≡ seq) equal same in absurd (omega arith))
    (λ other _ is _. let equal : other ≡ reply = cc in ap (λ r. refused (refusal.Stale r.seq)) equal)

under-some : (owner seq session : ℕ) (c : Command) (s : State) → IsUnder owner seq session c s → 0 < seq_of c
under-some owner seq session c s under = subst (λ k. 0 < k) (sym under.number) under.some

-- what a request of the session's process comes to
asked-by : (plant : List Actuator) (session n owner : ℕ) (c : Command) (s : State) (outcome : Outcome) → Own session owner s → (asked : IsAsked plant session n c s) →
    once owner (seq_of c) s.persistent (asked.outcome owner) ≡ outcome → act plant session n c s ≡ after s outcome
asked-by plant session n owner c s outcome held asked is = asked.acts ∙ ap (λ h. if_attached h (λ p. after s (once p (seq_of c) s.persistent (asked.outcome p))) s) held ∙ ap (after s) is

pub step-repeated : (plant : List Actuator) (session other owner : ℕ) (c : Command) (m : ℕ) (s : State) (reply : KeptReply) → IsUnder owner reply.seq session c s →
    reply_of s.persistent.processes owner ≡ Some reply →
    ((step plant session c m s).answer ≡ answer_of reply.acceptance) × ((step plant session c m s).state ≡ (step plant other command.Tick m s).state)
unfolding step
step-repeated plant session other owner c m s reply under found =
    let n = moment_of s.persistent m in
    let passed = pass_time plant n s in
    let some : 0 < seq_of c = under-some owner reply.seq session c s under in
    let asked = under-asked plant session n c passed some in
    let acts : act plant session n c passed ≡ after passed (did (answer_of reply.acceptance) passed.persistent) =
    asked-by plant session n owner c passed (did (answer_of reply.acceptance) passed.persistent) under.held asked
    (once-repeated owner (seq_of c) passed.persistent (asked.outcome owner) reply some (ticked-same s.persistent n owner ∙ found) (sym under.number)) in
    (ap (λ r. r.answer) acts, ap (λ r. settle plant r.state) acts)

pub step-lesser : (plant : List Actuator) (session owner seq : ℕ) (c : Command) (m : ℕ) (s : State) (reply : KeptReply) → IsUnder owner seq session c s →
    reply_of s.persistent.processes owner ≡ Some reply → seq < reply.seq → (step plant session c m s).answer ≡ answer.Refused (refusal.Stale reply.seq)
unfolding step
step-lesser plant session owner seq c m s reply under found less =
    let n = moment_of s.persistent m in
    let passed = pass_time plant n s in
    let some : 0 < seq_of c = under-some owner seq session c s under in
    let asked = under-asked plant session n c passed some in
    ap (λ r. r.answer) (asked-by plant session n owner c passed (refused (refusal.Stale reply.seq)) under.held asked
    (once-lesser owner (seq_of c) passed.persistent (asked.outcome owner) reply some (ticked-same s.persistent n owner ∙ found) (subst (λ k. k < reply.seq) (sym under.number) less)))

-- a repeat has its reply kept
pub repeat-found : (owner seq : ℕ) (d : Persistent) → is_repeat owner seq d ≡ true → (reply : KeptReply) × (reply_of d.processes owner ≡ Some reply) × (reply.seq ≡ seq) × (0 < seq)
repeat-found owner seq d is = by (reply_of d.processes owner) refl
  where
    and-false : (b : Bool) → (b && false) ≡ false
    and-false true = refl
    and-false false = refl

    by : (found : Option KeptReply) → reply_of d.processes owner ≡ found → (reply : KeptReply) × (reply_of d.processes owner ≡ Some reply) × (reply.seq ≡ seq) × (0 < seq)
    by None none = let no : false ≡ true = sym (repeat-of owner seq d None none ∙ and-false (nat_lt 0 seq)) ∙ is in absurd cc
    by (Some reply) found = let yes = repeat-of owner seq d (Some reply) found in (reply, found, grind (arith, nat_tests), grind (arith, nat_tests))

-- ---- what is accepted is kept

there : (ps : List Process) (place : ℕ) → place < length ps → (p : Process) × (slice_get ps place ≡ Some p)
there [] place within = absurd (omega arith)
there (p ∷ ps) zero within = (p, refl)
there (p ∷ ps) (suc place) within = there ps place (omega arith)

same-acceptance : (x y : Acceptance) → answer_of x ≡ answer_of y → x ≡ y
same-acceptance x y is = let both : Some x ≡ Some y = sym (kept-back x) ∙ ap acceptance_of is ∙ kept-back y in cc

module _ (owner seq : ℕ) (d : Persistent) (known : owner < length d.processes) (accepted : Acceptance) where
  abbrev OnKept : Outcome → Type 0
  OnKept (refused why) = Unit {0}
  OnKept (did given changed) = (given ≡ answer_of accepted) → reply_of changed.processes owner ≡ Some (record { seq = seq; acceptance = accepted })

  new-kept : (outcome : Outcome) → IsMany d outcome → OnKept (remembered owner seq outcome)
  new-kept (refused why) many = tt
  new-kept (did given changed) many = λ is.
      let r : KeptReply = record { seq = seq; acceptance = accepted } in
      let that : acceptance_of given ≡ Some accepted = ap acceptance_of is ∙ kept-back accepted in
      let found = there changed.processes owner (subst (λ k. owner < k) (sym many) known) in
      ap (λ f. reply_of (keep_reply owner seq f changed.processes) owner) that
      ∙ ap (λ f. reply_of (replied changed.processes owner r f) owner) found.1
      ∙ set-here changed.processes owner found.0 (record found.0 { reply = Some r }) found.1

  once-kept : (outcome : Outcome) → IsMany d outcome → 0 < seq → OnKept (once owner seq d outcome)
  once-kept outcome many some = once-by owner seq d outcome OnKept (λ none. absurd (omega arith)) (λ _ _. new-kept outcome many)
      (λ reply _ found same is. let equal : reply.acceptance ≡ accepted = same-acceptance reply.acceptance accepted is in
      found ∙ (λ i. Some (record { seq = same i; acceptance = equal i })))
      (λ reply _ _ _. tt)

after-kept : (owner seq : ℕ) (s : State) (known : owner < length s.persistent.processes) (accepted : Acceptance) (outcome : Outcome) → OnKept owner seq s.persistent known accepted outcome →
    (after s outcome).answer ≡ answer_of accepted → reply_of (after s outcome).state.persistent.processes owner ≡ Some (record { seq = seq; acceptance = accepted })
after-kept owner seq s known accepted (refused why) kept is = absurd (cc (never-refused accepted why (sym is)))
after-kept owner seq s known accepted (did given changed) kept is = kept is

pub step-kept : (plant : List Actuator) (session owner seq : ℕ) (c : Command) (m : ℕ) (s : State) (accepted : Acceptance) → owner < length s.persistent.processes → IsUnder owner seq session c s →
    (step plant session c m s).answer ≡ answer_of accepted → reply_of (step plant session c m s).state.persistent.processes owner ≡ Some (record { seq = seq; acceptance = accepted })
unfolding step
step-kept plant session owner seq c m s accepted known under is =
    let n = moment_of s.persistent m in
    let passed = pass_time plant n s in
    let some : 0 < seq_of c = under-some owner seq session c s under in
    let asked = under-asked plant session n c passed some in
    let outcome = once owner (seq_of c) passed.persistent (asked.outcome owner) in
    let acts : act plant session n c passed ≡ after passed outcome = asked-by plant session n owner c passed outcome under.held asked refl in
    let here : owner < length passed.persistent.processes = subst (λ k. owner < k) (sym (tick-length s.persistent n)) known in
    ap (λ r. reply_of r.state.persistent.processes owner) acts
    ∙ after-kept owner (seq_of c) passed here accepted outcome (once-kept owner (seq_of c) passed.persistent here accepted (asked.outcome owner) (asked.many owner) some)
    (ap (λ r. r.answer) (sym acts) ∙ is)
    ∙ ap (λ k. Some (record { seq = k; acceptance = accepted })) under.number

-- ---- the number that is kept

below-above : (seq : ℕ) (found : Option KeptReply) → 0 < seq → IsAbove seq found → option_map_or (λ reply. reply.seq) found 0 < seq
below-above seq None some above = some
below-above seq (Some reply) some above = above

pub step-changed : (plant : List Actuator) (session owner : ℕ) (c : Command) (m : ℕ) (s : State) →
    (reply_of (step plant session c m s).state.persistent.processes owner ≡ reply_of s.persistent.processes owner)
    ⊎ (IsUnder owner (seq_of c) session c s × (kept_seq s.persistent owner < seq_of c) × (kept_seq (step plant session c m s).state.persistent owner ≡ seq_of c))
step-changed plant session owner c m s = by (step-replied plant session owner c m s)
  where
    by : IsReplied (Own session owner s) (seq_of c) (reply_of s.persistent.processes owner) (reply_of (step plant session c m s).state.persistent.processes owner) →
        (reply_of (step plant session c m s).state.persistent.processes owner ≡ reply_of s.persistent.processes owner)
        ⊎ (IsUnder owner (seq_of c) session c s × (kept_seq s.persistent owner < seq_of c) × (kept_seq (step plant session c m s).state.persistent owner ≡ seq_of c))
    by (inl same) = inl same
    by (inr new) = inr (
      record { held = new.0; number = refl; some = new.3 },
      below-above (seq_of c) (reply_of s.persistent.processes owner) new.3 new.4,
      ap (λ found. option_map_or (λ (reply : KeptReply). reply.seq) found 0) new.2,
    )

pub never-falls : (plant : List Actuator) (session owner : ℕ) (c : Command) (m : ℕ) (s : State) → kept_seq s.persistent owner ≤ kept_seq (step plant session c m s).state.persistent owner
never-falls plant session owner c m s = by (step-changed plant session owner c m s)
  where
    by : (reply_of (step plant session c m s).state.persistent.processes owner ≡ reply_of s.persistent.processes owner)
        ⊎ (IsUnder owner (seq_of c) session c s × (kept_seq s.persistent owner < seq_of c) × (kept_seq (step plant session c m s).state.persistent owner ≡ seq_of c)) →
        kept_seq s.persistent owner ≤ kept_seq (step plant session c m s).state.persistent owner
    by (inl same) = let equal : kept_seq (step plant session c m s).state.persistent owner ≡ kept_seq s.persistent owner = ap (λ found. option_map_or (λ (reply : KeptReply). reply.seq) found 0) same in omega arith
    by (inr new) = let less : kept_seq s.persistent owner < seq_of c = new.1 in let equal : kept_seq (step plant session c m s).state.persistent owner ≡ seq_of c = new.2 in omega arith
