-- No process goes, and none is sent fewer notices than it was.
use Rattle.std.proofs.Common.{◌≡◌, ℕ, zero, suc, ◌+◌, ◌≤◌, ◌==◌, List, [], ◌∷◌, ◌++◌, ℤ, set, map, not, unsigned_abs, true, false, ◌&&◌, Bool, Option, Some, None, refl, ap, sym, ◌∙◌, subst, arith}
use Rattle.std.specs.List.{filter, fold, list_any, slice_get}
use Rattle.std.proofs.lemmas.Bool.{cond_both}
use Rattle.boss_model.specs.declared.answer.Answer.{Answer}
use Rattle.boss_model.specs.declared.answer.Answer.TheVariants as answer
use Rattle.boss_model.specs.declared.answer.Refusal.{Refusal}
use Rattle.boss_model.specs.declared.command.Command.{Command}
use Rattle.boss_model.specs.declared.command.Command.TheVariants as command
use Rattle.boss_model.specs.declared.command.Policy.{Policy}
use Rattle.boss_model.specs.declared.command.Policy.TheVariants.{Abort, Keep}
use Rattle.boss_model.specs.declared.command.Setting.{Setting}
use Rattle.boss_model.specs.declared.kept.Acceptance.{Acceptance}
use Rattle.boss_model.specs.declared.kept.KeptReply.{KeptReply}
use Rattle.boss_model.specs.declared.notice.Cause.{Cause}
use Rattle.boss_model.specs.declared.notice.Cause.TheVariants as cause
use Rattle.boss_model.specs.declared.notice.What.{What}
use Rattle.boss_model.specs.declared.state.Actuator.{Actuator}
use Rattle.boss_model.specs.declared.state.Lease.{Lease}
use Rattle.boss_model.specs.declared.state.Pending.{Pending}
use Rattle.boss_model.specs.Devices.{Reply, proxy_of, hand_out, is_current, heard, report}
use Rattle.boss_model.specs.Ends.{shortened, shortened_if, end_if, is_of, is_owned_by, end_leases, cancel, cancel_refused, gone, lost, fault, faulted_under, faulted}
use Rattle.boss_model.specs.Groups.{courses_of, conclude}
use Rattle.boss_model.specs.Happenings.{Happening, rank, ended, lives, done_at, posted, post, tell_of, tell}
use Rattle.boss_model.specs.Limits.{last_number, notices_kept}
use Rattle.boss_model.specs.Lists.{keep_last}
use Rattle.boss_model.specs.Machine.{after, if_attached, joined, parted, notices_asked, act, pass_time, step}
use Rattle.boss_model.specs.Order.{in_order}
use Rattle.boss_model.specs.Outcomes.{Outcome, refused, did, unless}
use Rattle.boss_model.specs.Processes.{process_of, process_named, number_of, enrol_unless, attach, attach_refused}
use Rattle.boss_model.specs.Queries.{notices}
use Rattle.boss_model.specs.Renew.{is_meant, extended_if, renewed, renew, renew_refused}
use Rattle.boss_model.specs.Replies.{acceptance_of, replied, keep_reply, remembered, once}
use Rattle.boss_model.specs.Reversions.{reversion_of, courses}
use Rattle.boss_model.specs.State.{lease_slot, Process, Persistent, State}
use Rattle.boss_model.specs.Submit.{granted, begun, is_taken, superseded, cut, superseded_end, submitted, submit, submit_refused}
use Rattle.boss_model.specs.Target.{in_force}
use Rattle.boss_model.specs.Time.{live, under_way, record_after, due, moment_of}
use Rattle.law_soundness.proofs.OnceCases.{once-by}
use Rattle.def_history.specs.declared.entry.Entry.{Entry}
use Rattle.def_history.specs.declared.entry.Entry.TheVariants.{Did, Broke}
use Rattle.def_history.specs.History.{after_entry, run}

-- each of the one is at its place in the other, with as many notices or more
abbrev pub Grown : List Process → List Process → Type 0
Grown [] qs = Unit {0}
Grown (p ∷ ps) [] = ⊥
Grown (p ∷ ps) (q ∷ qs) = (q.name ≡ p.name) × (p.count ≤ q.count) × Grown ps qs

grown-same : (ps : List Process) → Grown ps ps
grown-same [] = tt
grown-same (p ∷ ps) = (refl, omega arith, grown-same ps)

grown-then : (ps qs rs : List Process) → Grown ps qs → Grown qs rs → Grown ps rs
grown-then [] qs rs one other = tt
grown-then (p ∷ ps) [] rs one other = absurd one
grown-then (p ∷ ps) (q ∷ qs) [] one other = absurd other
grown-then (p ∷ ps) (q ∷ qs) (r ∷ rs) one other =
    let first : p.count ≤ q.count = one.1 in let second : q.count ≤ r.count = other.1 in
    (other.0 ∙ one.0, omega arith, grown-then ps qs rs one.2 other.2)

grown-behind : (ps more : List Process) → Grown ps (ps ++ more)
grown-behind [] more = tt
grown-behind (p ∷ ps) more = (refl, omega arith, grown-behind ps more)

grown-set : (ps : List Process) (place : ℕ) (p q : Process) → slice_get ps place ≡ Some p → q.name ≡ p.name → p.count ≤ q.count → Grown ps (set ps place q)
grown-set [] place p q found same more = tt
grown-set (x ∷ xs) zero p q found same more = let here : x ≡ p = cc in
    (same ∙ ap (λ y. y.name) (sym here), subst (λ y. y.count ≤ q.count) (sym here) more, grown-same xs)
grown-set (x ∷ xs) (suc place) p q found same more = (refl, omega arith, grown-set xs place p q found same more)

-- ---- telling

posted-grown : (at txn : ℕ) (told : What) (p : Process) → ((posted at txn told p).name ≡ p.name) × (p.count ≤ (posted at txn told p).count)
posted-grown at txn told p = cond_both (p.count == last_number) p
    (record p { count = p.count + 1; kept = keep_last notices_kept (p.kept ++ (record { number = p.count + 1; at = at; txn = txn; what = told }) ∷ []) })
    (λ q. (q.name ≡ p.name) × (p.count ≤ q.count)) (λ _. (refl, omega arith)) (λ _. (refl, omega arith))

post-grown : (ps : List Process) (to : ℕ) (found : Option Process) (at txn : ℕ) (told : What) → slice_get ps to ≡ found → Grown ps (post ps to found at txn told)
post-grown ps to None at txn told is = grown-same ps
post-grown ps to (Some p) at txn told is = let both = posted-grown at txn told p in grown-set ps to p (posted at txn told p) is both.0 both.1

tell_of-grown : (told : Option What) (ps : List Process) (h : Happening) → Grown ps (tell_of told ps h)
tell_of-grown None ps h = grown-same ps
tell_of-grown (Some told) ps h = post-grown ps h.owner (slice_get ps h.owner) h.at h.txn told refl

tell-grown : (ps : List Process) (hs : List Happening) → Grown ps (fold tell ps hs)
tell-grown ps [] = grown-same ps
tell-grown ps (h ∷ hs) = grown-then ps (tell ps h) (fold tell (tell ps h) hs) (tell_of-grown h.told ps h) (tell-grown (tell ps h) hs)

-- ---- what the commands do

abbrev Grows : Persistent → Persistent → Type 0
Grows d changed = Grown d.processes changed.processes

-- the processes of a conclusion are those before it, told of what happened
concluded-grows : (n : ℕ) (hs : List Happening) (d changed : Persistent) → Grows d (conclude n hs d changed)
concluded-grows n hs d changed =
    tell-grown d.processes (in_order rank (hs ++ map (done_at n) (filter (λ t. lives t.txn (courses_of d) && not (lives t.txn (courses_of changed))) changed.txns)))

ended-grows : (which : Lease → Bool) (why : Cause) (n : ℕ) (first : List Happening) (d : Persistent) → Grows d (end_leases which why n first d)
ended-grows which why n first d =
    let leases = map (shortened_if which n) d.leases in
    concluded-grows n (first ++ map (λ lease. ended why (reversion_of (shortened n lease))) (filter which d.leases)) d (record d {
      leases = live n leases;
      pending = under_way n (courses d.pending leases);
      txns = map (record_after (end_if which why n) d.leases) d.txns;
    })

submitted-grows : (owner : ℕ) (policy : Policy) (writes : List Setting) (n : ℕ) (d : Persistent) → Grows d (submitted owner policy writes n d)
submitted-grows owner policy writes n d =
    let new = granted owner policy d.next n writes in
    let gone = λ (lease : Lease). is_taken new lease.point lease.priority in
    let broken = λ (reversion : Pending). is_taken new reversion.point reversion.priority in
    concluded-grows n (map (superseded d.next n) (filter gone d.leases) ++ map (cut d.next n) (filter broken d.pending)) d (record d {
      next = d.next + 1;
      leases = in_order lease_slot (filter (λ lease. not (gone lease)) d.leases ++ new);
      pending = filter (λ reversion. not (broken reversion)) d.pending;
      txns = map (record_after (superseded_end new d.next n) d.leases) d.txns ++ begun owner policy d.next writes ∷ [];
    })

renewed-grows : (txn : ℕ) (asked : ℤ) (points : List ℕ) (n : ℕ) (d : Persistent) → Grows d (renewed txn asked points n d)
renewed-grows txn asked points n d = concluded-grows n [] d (record d { leases = map (extended_if (is_meant txn points) (n + unsigned_abs asked)) d.leases })

abbrev GrowsBy : Persistent → Outcome → Type 0
GrowsBy d (refused why) = Unit {0}
GrowsBy d (did given changed) = Grows d changed

unless-grows : (d : Persistent) (why : Option Refusal) (given : Answer) (changed : Persistent) → Grows d changed → GrowsBy d (unless why given changed)
unless-grows d None given changed grown = grown
unless-grows d (Some why) given changed grown = tt

lost-grows : (who n : ℕ) (d : Persistent) → Grows d (lost who n d)
lost-grows who n d = cond_both (list_any (is_owned_by who) d.leases) (end_leases (is_owned_by who) cause.Died n [] d) d (Grows d)
    (λ _. ended-grows (is_owned_by who) cause.Died n [] d) (λ _. grown-same d.processes)

under-grows : (policy : Policy) (lease : Lease) (n : ℕ) (d : Persistent) → Grows d (faulted_under policy lease n d)
under-grows Abort lease n d = ended-grows (is_of lease.txn) cause.Fault n (fault n lease ∷ []) d
under-grows Keep lease n d = concluded-grows n (fault n lease ∷ []) d d

faulted-grows : (found : Option Lease) (n : ℕ) (d : Persistent) → Grows d (faulted found n d)
faulted-grows None n d = grown-same d.processes
faulted-grows (Some lease) n d = under-grows lease.policy lease n d

enrol-grows : (found : Option ℕ) (name : List ℕ) (n : ℕ) (d : Persistent) → Grows d (enrol_unless found name n d)
enrol-grows None name n d = grown-behind d.processes _
enrol-grows (Some process) name n d = grown-same d.processes

joined-grows : (session process : ℕ) (s : State) (outcome : Outcome) → GrowsBy s.persistent outcome → Grows s.persistent (joined session process s outcome).state.persistent
joined-grows session process s (refused why) grown = grown-same s.persistent.processes
joined-grows session process s (did given d) grown = grown

heard-grows : (n point : ℕ) (ok : Bool) (s : State) → Grows s.persistent (heard n point ok s).persistent
heard-grows n point true s = grown-same s.persistent.processes
heard-grows n point false s = cond_both (proxy_of s.proxies point).failed s.persistent (faulted (in_force s.persistent.leases point) n s.persistent) (Grows s.persistent)
    (λ _. grown-same s.persistent.processes) (λ _. faulted-grows (in_force s.persistent.leases point) n s.persistent)

report-grows : (n point version : ℕ) (ok : Bool) (s : State) → Grows s.persistent (report n point version ok s).state.persistent
report-grows n point version ok s = cond_both {A = Reply} (is_current point version s) (record { answer = answer.Noted true; state = heard n point ok s }) (record { answer = answer.Noted false; state = s })
    (λ reply. Grows s.persistent reply.state.persistent) (λ _. heard-grows n point ok s) (λ _. grown-same s.persistent.processes)

hand_out-grows : (found : Option ℕ) (s : State) → Grows s.persistent (hand_out found s).state.persistent
hand_out-grows None s = grown-same s.persistent.processes
hand_out-grows (Some point) s = grown-same s.persistent.processes

gone-grows : (held : Option ℕ) (session n : ℕ) (s : State) → Grows s.persistent (if_attached held (λ p. parted session s (gone p n s.persistent)) s).state.persistent
gone-grows None session n s = grown-same s.persistent.processes
gone-grows (Some p) session n s = lost-grows p n s.persistent

notices-grows : (name : Option (List ℕ)) (session from most : ℕ) (s : State) → Grows s.persistent (notices_asked name session from most s).state.persistent
notices-grows (Some name) session from most s = grown-same s.persistent.processes
notices-grows None session from most s = by (process_of s.attached session)
  where
    by : (held : Option ℕ) → Grows s.persistent (if_attached held (λ p. record { answer = notices (Some p) from most s.persistent; state = s }) s).state.persistent
    by None = grown-same s.persistent.processes
    by (Some p) = grown-same s.persistent.processes

-- ---- requests, with their numbers

replied-grown : (ps : List Process) (owner : ℕ) (reply : KeptReply) (found : Option Process) → slice_get ps owner ≡ found → Grown ps (replied ps owner reply found)
replied-grown ps owner reply None is = grown-same ps
replied-grown ps owner reply (Some p) is = grown-set ps owner p (record p { reply = Some reply }) is refl (omega arith)

kept-grown : (owner seq : ℕ) (given : Option Acceptance) (ps : List Process) → Grown ps (keep_reply owner seq given ps)
kept-grown owner seq None ps = grown-same ps
kept-grown owner seq (Some given) ps = replied-grown ps owner (record { seq = seq; acceptance = given }) (slice_get ps owner) refl

remembered-grows : (owner seq : ℕ) (d : Persistent) (outcome : Outcome) → GrowsBy d outcome → GrowsBy d (remembered owner seq outcome)
remembered-grows owner seq d (refused why) grown = tt
remembered-grows owner seq d (did given changed) grown = grown-then d.processes changed.processes (keep_reply owner seq (acceptance_of given) changed.processes)
    grown (kept-grown owner seq (acceptance_of given) changed.processes)

once-grows : (owner seq : ℕ) (d : Persistent) (outcome : Outcome) → GrowsBy d outcome → GrowsBy d (once owner seq d outcome)
once-grows owner seq d outcome grown = once-by owner seq d outcome (GrowsBy d) (λ _. grown) (λ _ _. remembered-grows owner seq d outcome grown)
    (λ reply _ _ _. grown-same d.processes) (λ reply _ _ _. tt)

after-grows : (s : State) (outcome : Outcome) → GrowsBy s.persistent outcome → Grows s.persistent (after s outcome).state.persistent
after-grows s (refused why) grown = grown-same s.persistent.processes
after-grows s (did given changed) grown = grown

request-grows : (held : Option ℕ) (seq : ℕ) (s : State) (outcome : ℕ → Outcome) → ((p : ℕ) → GrowsBy s.persistent (outcome p)) →
    Grows s.persistent (if_attached held (λ p. after s (once p seq s.persistent (outcome p))) s).state.persistent
request-grows None seq s outcome grown = grown-same s.persistent.processes
request-grows (Some p) seq s outcome grown = after-grows s (once p seq s.persistent (outcome p)) (once-grows p seq s.persistent (outcome p) (grown p))

-- ---- a step, and a history

act-grows : (plant : List Actuator) (session n : ℕ) (c : Command) (s : State) → Grows s.persistent (act plant session n c s).state.persistent
act-grows plant session n (command.Submit writes policy seq) s = request-grows (process_of s.attached session) seq s (λ p. submit plant p policy writes n s.persistent)
    (λ p. unless-grows s.persistent (submit_refused plant writes s.persistent) _ (submitted p policy writes n s.persistent) (submitted-grows p policy writes n s.persistent))
act-grows plant session n (command.Renew txn asked points seq) s = request-grows (process_of s.attached session) seq s (λ p. renew p txn asked points n s.persistent)
    (λ p. unless-grows s.persistent (renew_refused p txn asked points n s.persistent) _ (renewed txn asked points n s.persistent) (renewed-grows txn asked points n s.persistent))
act-grows plant session n (command.Cancel txn seq) s = request-grows (process_of s.attached session) seq s (λ p. cancel p txn n s.persistent)
    (λ p. unless-grows s.persistent (cancel_refused p txn s.persistent) _ (end_leases (is_of txn) cause.Cancelled n [] s.persistent) (ended-grows (is_of txn) cause.Cancelled n [] s.persistent))
act-grows plant session n (command.Attach name) s = joined-grows session (number_of s.persistent.processes (process_named s.persistent.processes name)) s (attach session name s.attached n s.persistent)
    (unless-grows s.persistent (attach_refused session name s.attached s.persistent) _ _ (enrol-grows (process_named s.persistent.processes name) name n s.persistent))
act-grows plant session n command.Gone s = gone-grows (process_of s.attached session) session n s
act-grows plant session n command.Tick s = grown-same s.persistent.processes
act-grows plant session n (command.Next driver) s = hand_out-grows _ s
act-grows plant session n (command.Report point version ok) s = report-grows n point version ok s
act-grows plant session n (command.Doubt point differs) s = grown-same s.persistent.processes
act-grows plant session n (command.Read point) s = grown-same s.persistent.processes
act-grows plant session n (command.Array point) s = grown-same s.persistent.processes
act-grows plant session n (command.Status txn) s = grown-same s.persistent.processes
act-grows plant session n (command.Notices name from most) s = notices-grows name session from most s
act-grows plant session n (command.Points from most) s = grown-same s.persistent.processes
act-grows plant session n command.Version s = grown-same s.persistent.processes

pub step-grows : (plant : List Actuator) (session : ℕ) (c : Command) (m : ℕ) (s : State) → Grown s.persistent.processes (step plant session c m s).state.persistent.processes
unfolding step
step-grows plant session c m s =
    let n = moment_of s.persistent m in
    let passed = pass_time plant n s in
    grown-then s.persistent.processes passed.persistent.processes (act plant session n c passed).state.persistent.processes
    (tell-grown s.persistent.processes (due n s.persistent)) (act-grows plant session n c passed)

pub run-grows : (plant : List Actuator) (entries : List Entry) (s : State) → Grown s.persistent.processes (run plant entries s).persistent.processes
run-grows plant [] s = grown-same s.persistent.processes
run-grows plant (Did session c m given ∷ entries) s =
    let next = after_entry plant (Did session c m given) s in
    grown-then s.persistent.processes next.persistent.processes (run plant entries next).persistent.processes (step-grows plant session c m s) (run-grows plant entries next)
run-grows plant (Broke session calls others ∷ entries) s = run-grows plant entries s
