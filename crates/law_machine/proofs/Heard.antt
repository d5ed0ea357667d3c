-- A settled point has the value that its device told to have taken.
use Rattle.std.proofs.Common.{◌≡◌, ◌⊎◌, inl, inr, ℕ, zero, suc, ◌+◌, ◌<◌, ◌==◌, List, [], ◌∷◌, length, set, Bool, true, false, not, ◌&&◌, ◌||◌, cond, Option, Some, None, refl, ap, sym, ◌∙◌, subst, arith, zero-add}
use Rattle.std.specs.List.{find, range_with_len}
use Rattle.std.proofs.Math.ListN.{length-set}
use Rattle.std.proofs.lemmas.Bool.{cond_both}
use Rattle.std.proofs.lemmas.Bool.Decides.{nat_tests}
use Rattle.boss_model.specs.declared.answer.Answer.{Answer}
use Rattle.boss_model.specs.declared.answer.Answer.TheVariants as answer
use Rattle.boss_model.specs.declared.answer.Mark.TheVariants as mark
use Rattle.boss_model.specs.declared.answer.Refusal.{Refusal}
use Rattle.boss_model.specs.declared.command.Command.{Command}
use Rattle.boss_model.specs.declared.command.Command.TheVariants as command
use Rattle.boss_model.specs.declared.kept.Acceptance.{Acceptance}
use Rattle.boss_model.specs.declared.kept.Acceptance.TheVariants as acceptance
use Rattle.boss_model.specs.declared.state.Actuator.{Actuator}
use Rattle.boss_model.specs.declared.state.Proxy.{Proxy}
use Rattle.boss_model.specs.Catalogue.{driver_of}
use Rattle.boss_model.specs.Devices.{Reply, proxy_of, hand_out, is_current, taken, not_taken, heard, report, is_doubted, doubted}
use Rattle.boss_model.specs.Ends.{cancel, gone}
use Rattle.boss_model.specs.Lists.{member, without}
use Rattle.boss_model.specs.Machine.{answered, after, if_attached, joined, parted, notices_asked, act, ticked, pass_time, step}
use Rattle.boss_model.specs.Outcomes.{Outcome, refused, did, unless}
use Rattle.boss_model.specs.Processes.{process_of, process_named}
use Rattle.boss_model.specs.Queries.{notices, notices_of, named, status_of}
use Rattle.boss_model.specs.Records.{Transaction}
use Rattle.boss_model.specs.Renew.{renew, transaction_of}
use Rattle.boss_model.specs.Run.{Call, run}
use Rattle.boss_model.specs.Replies.{answer_of, once}
use Rattle.boss_model.specs.Settle.{fresh, opened, places, changed_if, wanted_anew, is_retried, retried, is_moved, recommanded, settle}
use Rattle.boss_model.specs.State.{Process, Persistent, State}
use Rattle.boss_model.specs.Submit.{submit}
use Rattle.boss_model.specs.Target.{target}
use Rattle.boss_model.specs.Time.{moment_of}
use Rattle.boss_model.proofs.Members.{member-filter}
use Rattle.law_machine.proofs.Requests.{IsRequest, submit-request, renew-request, cancel-request, request-once}
use Rattle.law_machine.specs.Heard.{Sent, Heard, nothing_heard, asked_by, took_by, heard_after, last_heard}
use Rattle.law_soundness.proofs.Fresh.{commanded-settled, fresh-at, length-range}
use Rattle.law_time.proofs.Places.{member-wanted_anew, length-changed, proxy_of-changed, change_at, member-places, proxy_of-set, proxy_of-other}

abbrev sent : Proxy → Sent
sent proxy = record { version = proxy.version; value = proxy.commanded }

-- what is known of a point, from what was heard of it
record IsHeard (point : ℕ) (s : State) (h : Heard) : Type 0 where
  known : point < length s.proxies
  asked : member point s.wants ≡ false → h.asked ≡ Some (sent (proxy_of s.proxies point))
  took : (proxy_of s.proxies point).mark ≡ mark.Settled → h.took ≡ Some (sent (proxy_of s.proxies point))

-- ---- retries and settling

module _ (test : ℕ × Proxy → Bool) (change : ℕ × Proxy → Proxy) (pending : (place : ℕ × Proxy) → (change place).mark ≡ mark.Pending) where
  heard-changed : (point : ℕ) (s : State) (h : Heard) → IsHeard point s h →
      IsHeard point (record s { proxies = changed_if test change s.proxies; wants = wanted_anew (places test s.proxies) s.wants }) h
  heard-changed point s h is =
      let p = proxy_of s.proxies point in
      let there : proxy_of (changed_if test change s.proxies) point ≡ change_at test change (point, p) = proxy_of-changed test change point s.proxies is.known in
      let wanted : member point (wanted_anew (places test s.proxies) s.wants) ≡ (member point s.wants || test (point, p)) =
      member-wanted_anew point (places test s.proxies) s.wants ∙ ap (λ b. member point s.wants || b) (member-places test point s.proxies is.known) in
      record {
        known = subst (λ n. point < n) (sym (length-changed test change s.proxies)) is.known;
        asked = λ away.
            let none : test (point, p) ≡ false = grind (arith, nat_tests) in
            let before : member point s.wants ≡ false = grind (arith, nat_tests) in
            let same : proxy_of (changed_if test change s.proxies) point ≡ p = there ∙ ap (λ b. cond b (change (point, p)) p) none in
            is.asked before ∙ ap (λ q. Some (sent q)) (sym same);
        took = λ settled. cond_both (test (point, p)) (change (point, p)) p (λ q. proxy_of (changed_if test change s.proxies) point ≡ q → h.took ≡ Some (sent (proxy_of (changed_if test change s.proxies) point)))
            (λ _ same. let both : mark.Pending ≡ mark.Settled = sym (pending (point, p)) ∙ ap (λ q. q.mark) (sym same) ∙ settled in cc)
            (λ _ same. is.took (ap (λ q. q.mark) (sym same) ∙ settled) ∙ ap (λ q. Some (sent q)) (sym same)) there;
      }

heard-persistent : (point : ℕ) (s t : State) (h : Heard) → s.proxies ≡ t.proxies → s.wants ≡ t.wants → IsHeard point s h → IsHeard point t h
heard-persistent point s t h p w is = record {
  known = subst (λ ps. point < length ps) p is.known;
  asked = λ away. is.asked (ap (member point) w ∙ away) ∙ ap (λ ps. Some (sent (proxy_of ps point))) p;
  took = λ settled. is.took (ap (λ ps. (proxy_of ps point).mark) p ∙ settled) ∙ ap (λ ps. Some (sent (proxy_of ps point))) p;
}

heard-settled : (plant : List Actuator) (point : ℕ) (s : State) (h : Heard) → IsHeard point s h → IsHeard point (settle plant s) h
heard-settled plant point s h is = heard-changed (is_moved plant s.persistent) (recommanded plant s.persistent) (λ place. refl) point s h is

heard-passed : (plant : List Actuator) (n point : ℕ) (s : State) (h : Heard) → IsHeard point s h → IsHeard point (pass_time plant n s) h
heard-passed plant n point s h is =
    heard-settled plant point _ h (heard-changed (is_retried n) retried (λ place. refl) point (ticked n s) h (heard-persistent point s (ticked n s) h refl refl is))

-- after settling the commanded value is the target
-- ---- commands

-- a reply that leaves devices and wants as they are
record IsQuiet (s : State) (reply : Reply) : Type 0 where
  proxies : s.proxies ≡ reply.state.proxies
  wants : s.wants ≡ reply.state.wants
  answer : (point : ℕ) (before : Option Sent) → asked_by point reply.answer before ≡ before

-- an answer that asks no device for anything
abbrev IsNoWant : Answer → Type 0
IsNoWant given = (point : ℕ) (before : Option Sent) → asked_by point given before ≡ before

quiet-accepted : (accepted : Acceptance) → IsNoWant (answer_of accepted)
quiet-accepted (acceptance.Accepted txn until) point before = refl
quiet-accepted (acceptance.Renewed txn until) point before = refl
quiet-accepted (acceptance.Cancelled txn at) point before = refl

quiet-after : (s : State) (outcome : Outcome) → IsRequest outcome → IsQuiet s (after s outcome)
quiet-after s (refused why) is = record { proxies = refl; wants = refl; answer = λ point before. refl }
quiet-after s (did given d) is = record { proxies = refl; wants = refl; answer = subst IsNoWant (sym is.1) (quiet-accepted is.0) }

quiet-joined : (session process : ℕ) (s : State) (refusal : Option Refusal) (given : Answer) (d : Persistent) → IsNoWant given →
    IsQuiet s (joined session process s (unless refusal given d))
quiet-joined session process s (Some why) given d none = record { proxies = refl; wants = refl; answer = λ point before. refl }
quiet-joined session process s None given d none = record { proxies = refl; wants = refl; answer = none }

quiet-if : (held : Option ℕ) (go : ℕ → Reply) (s : State) → ((p : ℕ) → IsQuiet s (go p)) → IsQuiet s (if_attached held go s)
quiet-if None go s each = record { proxies = refl; wants = refl; answer = λ point before. refl }
quiet-if (Some p) go s each = each p

quiet-notices_of : (process : Option Process) (from most : ℕ) → IsNoWant (notices_of process from most)
quiet-notices_of None from most point before = refl
quiet-notices_of (Some process) from most point before = refl

quiet-notices : (name : Option (List ℕ)) (session from most : ℕ) (s : State) → IsQuiet s (notices_asked name session from most s)
quiet-notices (Some name) session from most s =
    record { proxies = refl; wants = refl; answer = quiet-notices_of (named s.persistent.processes (process_named s.persistent.processes name)) from most }
quiet-notices None session from most s = quiet-if (process_of s.attached session) (λ p. answered (notices (Some p) from most s.persistent) s) s
    (λ p. record { proxies = refl; wants = refl; answer = quiet-notices_of (named s.persistent.processes (Some p)) from most })

quiet-status : (t : Option Transaction) (d : Persistent) → IsNoWant (status_of t d)
quiet-status None d point before = refl
quiet-status (Some t) d point before = refl

-- what is heard of a command that is no report is what its answer asks for
took-other : (point : ℕ) (c : Command) (given : Answer) (h : Heard) → ((other version : ℕ) (ok : Bool) → c ≡ command.Report other version ok → false ≡ true) →
    took_by point c given h ≡ h.took
took-other point (command.Attach name) given h other = refl
took-other point (command.Submit writes policy seq) given h other = refl
took-other point (command.Renew txn length points seq) given h other = refl
took-other point (command.Cancel txn seq) given h other = refl
took-other point command.Gone given h other = refl
took-other point command.Tick given h other = refl
took-other point (command.Next driver) given h other = refl
took-other point (command.Report p version ok) given h other = cc (other p version ok refl)
took-other point (command.Read p) given h other = refl
took-other point (command.Array p) given h other = refl
took-other point (command.Status txn) given h other = refl
took-other point (command.Notices name from most) given h other = refl
took-other point (command.Doubt p differs) given h other = refl
took-other point (command.Points from most) given h other = refl
took-other point command.Version given h other = refl

heard-quiet : (point : ℕ) (c : Command) (s : State) (reply : Reply) (h : Heard) →
    ((other version : ℕ) (ok : Bool) → c ≡ command.Report other version ok → false ≡ true) → IsQuiet s reply → IsHeard point s h →
    IsHeard point reply.state (heard_after point c reply.answer h)
heard-quiet point c s reply h other quiet is =
    let same : heard_after point c reply.answer h ≡ h = λ i. record { asked = quiet.answer point h.asked i; took = took-other point c reply.answer h other i } in
    subst (IsHeard point reply.state) (sym same) (heard-persistent point s reply.state h quiet.proxies quiet.wants is)

heard-hand_out : (point driver : ℕ) (found : Option ℕ) (s : State) (h : Heard) → IsHeard point s h →
    IsHeard point (hand_out found s).state (heard_after point (command.Next driver) (hand_out found s).answer h)
heard-hand_out point driver None s h is = is
heard-hand_out point driver (Some other) s h is = record {
  known = is.known;
  asked = λ away. cond_both (other == point) (Some (sent (proxy_of s.proxies other))) h.asked
      (λ asked. (other == point) ≡ (other == point) → asked ≡ Some (sent (proxy_of s.proxies point)))
      (λ here _. let same : other ≡ point = grind (arith, nat_tests) in ap (λ k. Some (sent (proxy_of s.proxies k))) same)
      (λ apart _. is.asked (
      let gone : member point (without other s.wants) ≡ (not (point == other) && member point s.wants) = member-filter point (λ k. not (k == other)) s.wants in
      grind (arith, nat_tests))) refl;
  took = is.took;
}

-- the point of a report that counts
heard-report : (n point other version : ℕ) (ok : Bool) (s : State) (h : Heard) → IsHeard point s h →
    IsHeard point (report n other version ok s).state (heard_after point (command.Report other version ok) (report n other version ok s).answer h)
heard-report n point other version true s h is =
    cond_both {A = Reply} (is_current other version s) (record { answer = answer.Noted true; state = heard n other true s }) (record { answer = answer.Noted false; state = s })
    (λ reply. IsHeard point reply.state (heard_after point (command.Report other version true) reply.answer h))
    (λ current. cond_both (other == point) h.asked h.took (λ took. (other == point) ≡ (other == point) → IsHeard point (heard n other true s) (record { asked = h.asked; took = took }))
    (λ here _. let same : other ≡ point = grind (arith, nat_tests) in
    let away : member other s.wants ≡ false = grind (arith, nat_tests) in
    let there : proxy_of (set s.proxies other (taken n (proxy_of s.proxies other))) point ≡ taken n (proxy_of s.proxies point) =
    subst (λ k. proxy_of (set s.proxies k (taken n (proxy_of s.proxies k))) point ≡ taken n (proxy_of s.proxies point)) (sym same)
    (proxy_of-set s.proxies point (taken n (proxy_of s.proxies point)) is.known) in
    let asked : h.asked ≡ Some (sent (proxy_of s.proxies point)) = is.asked (subst (λ k. member k s.wants ≡ false) same away) in
    record {
      known = subst (λ k. point < k) (sym (length-set s.proxies other (taken n (proxy_of s.proxies other)))) is.known;
      asked = λ _. asked ∙ ap (λ q. Some (sent q)) (sym there);
      took = λ _. asked ∙ ap (λ q. Some (sent q)) (sym there);
    })
    (λ apart _. let there : proxy_of (set s.proxies other (taken n (proxy_of s.proxies other))) point ≡ proxy_of s.proxies point =
    proxy_of-other s.proxies other point (taken n (proxy_of s.proxies other)) (grind (arith, nat_tests)) in
    record {
      known = subst (λ k. point < k) (sym (length-set s.proxies other (taken n (proxy_of s.proxies other)))) is.known;
      asked = λ away. is.asked away ∙ ap (λ q. Some (sent q)) (sym there);
      took = λ settled. is.took (ap (λ q. q.mark) (sym there) ∙ settled) ∙ ap (λ q. Some (sent q)) (sym there);
    }) refl)
    (λ _. is)
heard-report n point other version false s h is =
    cond_both {A = Reply} (is_current other version s) (record { answer = answer.Noted true; state = heard n other false s }) (record { answer = answer.Noted false; state = s })
    (λ reply. IsHeard point reply.state (heard_after point (command.Report other version false) reply.answer h))
    (λ current.
    let q = not_taken n (proxy_of s.proxies other) in
    cond_both (point == other) true false (λ b. (point == other) ≡ b → IsHeard point (heard n other false s) h)
    (λ here _. let same : other ≡ point = grind (arith, nat_tests) in
    let there : proxy_of (set s.proxies other q) point ≡ not_taken n (proxy_of s.proxies point) =
    subst (λ k. proxy_of (set s.proxies k (not_taken n (proxy_of s.proxies k))) point ≡ not_taken n (proxy_of s.proxies point)) (sym same)
    (proxy_of-set s.proxies point (not_taken n (proxy_of s.proxies point)) is.known) in
    record {
      known = subst (λ k. point < k) (sym (length-set s.proxies other q)) is.known;
      asked = λ away. is.asked away ∙ ap (λ x. Some (sent x)) (sym there);
      took = λ settled. let both : mark.Failed ≡ mark.Settled = sym (ap (λ x. x.mark) there) ∙ settled in cc;
    })
    (λ apart _. let there : proxy_of (set s.proxies other q) point ≡ proxy_of s.proxies point = proxy_of-other s.proxies other point q apart in
    record {
      known = subst (λ k. point < k) (sym (length-set s.proxies other q)) is.known;
      asked = λ away. is.asked away ∙ ap (λ x. Some (sent x)) (sym there);
      took = λ settled. is.took (ap (λ x. x.mark) (sym there) ∙ settled) ∙ ap (λ x. Some (sent x)) (sym there);
    }) (grind arith))
    (λ _. is)

heard-act : (plant : List Actuator) (session n point : ℕ) (c : Command) (s : State) (h : Heard) → IsHeard point s h →
    IsHeard point (act plant session n c s).state (heard_after point c (act plant session n c s).answer h)
heard-act plant session n point (command.Attach name) s h is = heard-quiet point (command.Attach name) s (act plant session n (command.Attach name) s) h (λ other version ok e. cc)
    (quiet-joined session _ s _ (answer.Attached name _) _ (λ point before. refl)) is
heard-act plant session n point (command.Submit writes policy seq) s h is = heard-quiet point (command.Submit writes policy seq) s (act plant session n (command.Submit writes policy seq) s) h (λ other version ok e. cc)
    (quiet-if (process_of s.attached session) (λ p. after s (once p seq s.persistent (submit plant p policy writes n s.persistent))) s
    (λ p. quiet-after s _ (request-once p seq s.persistent _ (submit-request plant p policy writes n s.persistent)))) is
heard-act plant session n point (command.Renew txn length points seq) s h is = heard-quiet point (command.Renew txn length points seq) s (act plant session n (command.Renew txn length points seq) s) h (λ other version ok e. cc)
    (quiet-if (process_of s.attached session) (λ p. after s (once p seq s.persistent (renew p txn length points n s.persistent))) s
    (λ p. quiet-after s _ (request-once p seq s.persistent _ (renew-request p txn length points n s.persistent)))) is
heard-act plant session n point (command.Cancel txn seq) s h is = heard-quiet point (command.Cancel txn seq) s (act plant session n (command.Cancel txn seq) s) h (λ other version ok e. cc)
    (quiet-if (process_of s.attached session) (λ p. after s (once p seq s.persistent (cancel p txn n s.persistent))) s
    (λ p. quiet-after s _ (request-once p seq s.persistent _ (cancel-request p txn n s.persistent)))) is
heard-act plant session n point command.Gone s h is = heard-quiet point command.Gone s (act plant session n command.Gone s) h (λ other version ok e. cc)
    (quiet-if (process_of s.attached session) (λ p. parted session s (gone p n s.persistent)) s (λ p. record { proxies = refl; wants = refl; answer = λ point before. refl })) is
heard-act plant session n point command.Tick s h is = is
heard-act plant session n point (command.Next driver) s h is = heard-hand_out point driver (find (λ p. driver_of plant p == driver) s.wants) s h is
heard-act plant session n point (command.Report other version ok) s h is = heard-report n point other version ok s h is
heard-act plant session n point (command.Doubt other differs) s h is = heard-changed (is_doubted other) (doubted differs) (λ place. refl) point s h is
heard-act plant session n point (command.Read p) s h is = is
heard-act plant session n point (command.Array p) s h is = is
heard-act plant session n point (command.Status txn) s h is = heard-quiet point (command.Status txn) s (act plant session n (command.Status txn) s) h (λ other version ok e. cc)
    (record { proxies = refl; wants = refl; answer = quiet-status (transaction_of s.persistent.txns txn) s.persistent }) is
heard-act plant session n point (command.Notices name from most) s h is = heard-quiet point (command.Notices name from most) s (act plant session n (command.Notices name from most) s) h (λ other version ok e. cc)
    (quiet-notices name session from most s) is
heard-act plant session n point (command.Points from most) s h is = is
heard-act plant session n point command.Version s h is = is

-- ---- runs

heard-step : (plant : List Actuator) (session point m : ℕ) (c : Command) (s : State) (h : Heard) → IsHeard point s h →
    IsHeard point (step plant session c m s).state (heard_after point c (step plant session c m s).answer h)
    × ((proxy_of (step plant session c m s).state.proxies point).commanded ≡ target plant (step plant session c m s).state.persistent point)
unfolding step
heard-step plant session point m c s h is =
    let n = moment_of s.persistent m in
    let reply = act plant session n c (pass_time plant n s) in
    let acted : IsHeard point reply.state (heard_after point c reply.answer h) = heard-act plant session n point c (pass_time plant n s) h (heard-passed plant n point s h is) in
    (heard-settled plant point reply.state (heard_after point c reply.answer h) acted, commanded-settled plant point reply.state acted.known)

heard-run : (plant : List Actuator) (point : ℕ) (calls : List Call) (s : State) (h : Heard) → IsHeard point s h →
    (proxy_of s.proxies point).commanded ≡ target plant s.persistent point →
    IsHeard point (run plant s calls) (last_heard plant point s calls h)
    × ((proxy_of (run plant s calls).proxies point).commanded ≡ target plant (run plant s calls).persistent point)
heard-run plant point [] s h is same = (is, same)
heard-run plant point (call ∷ calls) s h is same =
    let next = heard-step plant call.session point call.moment call.command s h is in
    let reply = step plant call.session call.command call.moment s in
    heard-run plant point calls reply.state (heard_after point call.command reply.answer h) next.0 next.1

-- ---- the opened state

pub member-range : (place k count : ℕ) → k < count → member (place + k) (range_with_len place count) ≡ true
member-range place k zero within = absurd (omega arith)
member-range place zero (suc count) within = grind (arith, nat_tests)
member-range place (suc k) (suc count) within =
    let rest : member (place + 1 + k) (range_with_len (place + 1) count) ≡ true = member-range (place + 1) k count (omega arith) in
    let next : place + suc k ≡ place + 1 + k = omega arith in
    subst (λ n. member n (place ∷ range_with_len (place + 1) count) ≡ true) (sym next) (grind (arith, nat_tests))

heard-opened : (plant : List Actuator) (d : Persistent) (point : ℕ) → point < length plant → IsHeard point (opened plant d) nothing_heard
heard-opened plant d point known =
    let here : proxy_of (opened plant d).proxies point ≡ fresh (target plant d (0 + point)) = fresh-at (λ p. target plant d p) 0 point (length plant) known in
    let wanted : member point (opened plant d).wants ≡ true = subst (λ n. member n (range_with_len 0 (length plant)) ≡ true) (zero-add point) (member-range 0 point (length plant) known) in
    record {
      known = subst (λ n. point < n) (sym (length-range (λ p. fresh (target plant d p)) 0 (length plant))) known;
      asked = λ away. cc;
      took = λ settled. let both : mark.Pending ≡ mark.Settled = sym (ap (λ q. q.mark) here) ∙ settled in cc;
    }

pub settled-run : (plant : List Actuator) (d : Persistent) (calls : List Call) (point : ℕ) → point < length plant →
    (proxy_of (run plant (opened plant d) calls).proxies point).mark ≡ mark.Settled →
    (last_heard plant point (opened plant d) calls nothing_heard).took
    ≡ Some (record { version = (proxy_of (run plant (opened plant d) calls).proxies point).version; value = target plant (run plant (opened plant d) calls).persistent point })
settled-run plant d calls point known settled =
    let here : (proxy_of (opened plant d).proxies point).commanded ≡ target plant d point =
    ap (λ q. q.commanded) (fresh-at (λ p. target plant d p) 0 point (length plant) known) ∙ ap (target plant d) (zero-add point) in
    let ran = heard-run plant point calls (opened plant d) nothing_heard (heard-opened plant d point known) here in
    ran.0.took settled ∙ ap (λ x. Some (record { version = (proxy_of (run plant (opened plant d) calls).proxies point).version; value = x })) ran.1

-- ---- what was taken changes only by a report of the point that tells so, and that counts

abbrev IsTold : ℕ → Command → Answer → Heard → Type 0
IsTold point c given h = (took_by point c given h ≡ h.took)
    ⊎ ((version : ℕ) × (c ≡ command.Report point version true) × (given ≡ answer.Noted true) × (took_by point c given h ≡ h.asked))

told-report : (point other version : ℕ) (given : Answer) (h : Heard) → IsTold point (command.Report other version true) given h
told-report point other version (answer.Noted true) h = cond_both (other == point) h.asked h.took
    (λ took. (other == point) ≡ (other == point) → (took ≡ h.took)
    ⊎ ((number : ℕ) × (command.Report other version true ≡ command.Report point number true) × (answer.Noted true ≡ answer.Noted true) × (took ≡ h.asked)))
    (λ here _. let same : other ≡ point = grind (arith, nat_tests) in inr (version, ap (λ k. command.Report k version true) same, refl, refl))
    (λ apart _. inl refl) refl
told-report point other version (answer.Noted false) h = inl refl
told-report point other version (answer.Attached name next) h = inl refl
told-report point other version (answer.Accepted txn until) h = inl refl
told-report point other version (answer.Renewed txn until) h = inl refl
told-report point other version (answer.Cancelled txn at) h = inl refl
told-report point other version (answer.Gone ended) h = inl refl
told-report point other version (answer.Ticked now) h = inl refl
told-report point other version (answer.Want p number value) h = inl refl
told-report point other version answer.Nothing h = inl refl
told-report point other version (answer.Reading p value basis stands differed last) h = inl refl
told-report point other version (answer.Array p slots) h = inl refl
told-report point other version (answer.Status txn owner stage live pending) h = inl refl
told-report point other version (answer.Notices first next list) h = inl refl
told-report point other version (answer.Points from most) h = inl refl
told-report point other version answer.Version h = inl refl
told-report point other version (answer.Refused why) h = inl refl

pub told : (point : ℕ) (c : Command) (given : Answer) (h : Heard) → IsTold point c given h
told point (command.Report other version true) given h = told-report point other version given h
told point (command.Report other version false) given h = inl refl
told point (command.Attach name) given h = inl refl
told point (command.Submit writes policy seq) given h = inl refl
told point (command.Renew txn length points seq) given h = inl refl
told point (command.Cancel txn seq) given h = inl refl
told point command.Gone given h = inl refl
told point command.Tick given h = inl refl
told point (command.Next driver) given h = inl refl
told point (command.Read p) given h = inl refl
told point (command.Array p) given h = inl refl
told point (command.Status txn) given h = inl refl
told point (command.Notices name from most) given h = inl refl
told point (command.Doubt p differs) given h = inl refl
told point (command.Points from most) given h = inl refl
told point command.Version given h = inl refl
