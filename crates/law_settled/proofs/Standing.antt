-- A settled point has its target as the value that its device reported to have taken.
use Rattle.std.proofs.Common.{◌≡◌, ℕ, zero, suc, ◌+◌, ◌<◌, ◌==◌, List, [], ◌∷◌, length, set, Bool, true, false, not, ◌&&◌, ◌||◌, cond, Option, Some, None, refl, ap, sym, ◌∙◌, subst, arith, zero-add}
use Rattle.std.specs.List.{find}
use Rattle.std.proofs.Math.ListN.{length-set}
use Rattle.std.proofs.lemmas.Bool.{cond_both}
use Rattle.std.proofs.lemmas.Bool.Decides.{nat_tests}
use Rattle.boss_model.specs.declared.answer.Answer.TheVariants as answer
use Rattle.boss_model.specs.declared.answer.Mark.TheVariants as mark
use Rattle.boss_model.specs.declared.command.Command.{Command}
use Rattle.boss_model.specs.declared.command.Command.TheVariants as command
use Rattle.boss_model.specs.declared.state.Actuator.{Actuator}
use Rattle.boss_model.specs.declared.state.Proxy.{Proxy}
use Rattle.boss_model.specs.Catalogue.{driver_of}
use Rattle.boss_model.specs.Devices.{Reply, proxy_of, hand_out, is_current, taken, not_taken, heard, report, is_doubted, doubted}
use Rattle.boss_model.specs.Ends.{cancel, gone}
use Rattle.boss_model.specs.Lists.{member, without}
use Rattle.boss_model.specs.Machine.{answered, after, if_attached, joined, parted, notices_asked, act, ticked, pass_time, step}
use Rattle.boss_model.specs.Outcomes.{Outcome, refused, did}
use Rattle.boss_model.specs.Processes.{process_of}
use Rattle.boss_model.specs.Queries.{notices}
use Rattle.boss_model.specs.Renew.{renew}
use Rattle.boss_model.specs.Replies.{once}
use Rattle.boss_model.specs.Settle.{fresh, opened, places, changed_if, wanted_anew, is_retried, retried, is_moved, recommanded, settle}
use Rattle.boss_model.specs.Sound.{IsSound, IsWant, Settled}
use Rattle.boss_model.specs.State.{Persistent, State}
use Rattle.boss_model.specs.Submit.{submit}
use Rattle.boss_model.specs.Target.{target}
use Rattle.boss_model.specs.Time.{moment_of}
use Rattle.boss_model.proofs.Members.{member-filter}
use Rattle.law_machine.proofs.Draining.{find-member}
use Rattle.law_soundness.proofs.Fresh.{commanded-settled, fresh-at, length-range}
use Rattle.law_time.proofs.Places.{member-wanted_anew, length-changed, proxy_of-changed, change_at, member-places, member-each, proxy_of-set, proxy_of-other}
use Rattle.def_history.specs.declared.entry.Entry.{Entry}
use Rattle.def_history.specs.declared.entry.Entry.TheVariants.{Did, Broke}
use Rattle.def_history.specs.History.{IsLegal, run}
use Rattle.law_settled.specs.Settled.{IsSettled}
use Rattle.law_settled.proofs.Told.{Told, if_asked, reports, told_by, told_in, told_at, took_at}

-- what is known of a point, from what was told of it
record IsAt (point : ℕ) (s : State) (told : Told) : Type 0 where
  known : point < length s.proxies
  pending : member point s.wants ≡ true → (proxy_of s.proxies point).mark ≡ mark.Pending
  asked : member point s.wants ≡ false → told.asked ≡ Some (proxy_of s.proxies point).commanded
  took : (proxy_of s.proxies point).mark ≡ mark.Settled → told.took ≡ Some (proxy_of s.proxies point).commanded

-- ---- retries and settling

module _ (test : ℕ × Proxy → Bool) (change : ℕ × Proxy → Proxy) (pends : (place : ℕ × Proxy) → (change place).mark ≡ mark.Pending) where
  at-changed : (point : ℕ) (s : State) (told : Told) → IsAt point s told →
      IsAt point (record s { proxies = changed_if test change s.proxies; wants = wanted_anew (places test s.proxies) s.wants }) told
  at-changed point s told is =
      let p = proxy_of s.proxies point in
      let there : proxy_of (changed_if test change s.proxies) point ≡ change_at test change (point, p) = proxy_of-changed test change point s.proxies is.known in
      let wanted : member point (wanted_anew (places test s.proxies) s.wants) ≡ (member point s.wants || test (point, p)) =
      member-wanted_anew point (places test s.proxies) s.wants ∙ ap (λ b. member point s.wants || b) (member-places test point s.proxies is.known) in
      record {
        known = subst (λ n. point < n) (sym (length-changed test change s.proxies)) is.known;
        pending = λ wants. cond_both (test (point, p)) (change (point, p)) p (λ q. proxy_of (changed_if test change s.proxies) point ≡ q → (proxy_of (changed_if test change s.proxies) point).mark ≡ mark.Pending)
            (λ _ same. ap (λ q. q.mark) same ∙ pends (point, p))
            (λ no same. let before : member point s.wants ≡ true = grind (arith, nat_tests) in ap (λ q. q.mark) same ∙ is.pending before) there;
        asked = λ away.
            let none : test (point, p) ≡ false = grind (arith, nat_tests) in
            let before : member point s.wants ≡ false = grind (arith, nat_tests) in
            let same : proxy_of (changed_if test change s.proxies) point ≡ p = there ∙ ap (λ b. cond b (change (point, p)) p) none in
            is.asked before ∙ ap (λ q. Some q.commanded) (sym same);
        took = λ settled. cond_both (test (point, p)) (change (point, p)) p (λ q. proxy_of (changed_if test change s.proxies) point ≡ q → told.took ≡ Some (proxy_of (changed_if test change s.proxies) point).commanded)
            (λ _ same. let both : mark.Pending ≡ mark.Settled = sym (pends (point, p)) ∙ ap (λ q. q.mark) (sym same) ∙ settled in cc)
            (λ _ same. is.took (ap (λ q. q.mark) (sym same) ∙ settled) ∙ ap (λ q. Some q.commanded) (sym same)) there;
      }

at-settled : (plant : List Actuator) (point : ℕ) (s : State) (told : Told) → IsAt point s told → IsAt point (settle plant s) told
at-settled plant point s told is = at-changed (is_moved plant s.persistent) (recommanded plant s.persistent) (λ place. refl) point s told is

at-passed : (plant : List Actuator) (n point : ℕ) (s : State) (told : Told) → IsAt point s told → IsAt point (pass_time plant n s) told
at-passed plant n point s told is =
    at-settled plant point _ told (at-changed (is_retried n) retried (λ place. refl) point (ticked n s) told
    (record { known = is.known; pending = is.pending; asked = is.asked; took = is.took }))

-- ---- commands that leave devices and wants as they are

IsQuiet : State → Reply → Type 0
IsQuiet s reply = (s.proxies ≡ reply.state.proxies) × (s.wants ≡ reply.state.wants)

quiet-after : (s : State) (outcome : Outcome) → IsQuiet s (after s outcome)
unfolding IsQuiet
quiet-after s (refused why) = (refl, refl)
quiet-after s (did given d) = (refl, refl)

quiet-joined : (session process : ℕ) (s : State) (outcome : Outcome) → IsQuiet s (joined session process s outcome)
unfolding IsQuiet
quiet-joined session process s (refused why) = (refl, refl)
quiet-joined session process s (did given d) = (refl, refl)

quiet-parted : (session : ℕ) (s : State) (outcome : Outcome) → IsQuiet s (parted session s outcome)
unfolding IsQuiet
quiet-parted session s (refused why) = (refl, refl)
quiet-parted session s (did given d) = (refl, refl)

quiet-if : (held : Option ℕ) (go : ℕ → Reply) (s : State) → ((p : ℕ) → IsQuiet s (go p)) → IsQuiet s (if_attached held go s)
unfolding IsQuiet
quiet-if None go s each = (refl, refl)
quiet-if (Some p) go s each = each p

quiet-notices : (name : Option (List ℕ)) (session from most : ℕ) (s : State) → IsQuiet s (notices_asked name session from most s)
unfolding IsQuiet
quiet-notices (Some name) session from most s = (refl, refl)
quiet-notices None session from most s = quiet-if (process_of s.attached session) (λ p. answered (notices (Some p) from most s.persistent) s) s (λ p. (refl, refl))

at-quiet : (point : ℕ) (s : State) (reply : Reply) (told : Told) → IsQuiet s reply → IsAt point s told → IsAt point reply.state told
unfolding IsQuiet
at-quiet point s reply told quiet is = record {
  known = subst (λ ps. point < length ps) quiet.0 is.known;
  pending = λ wants. ap (λ ps. (proxy_of ps point).mark) (sym quiet.0) ∙ is.pending (ap (member point) quiet.1 ∙ wants);
  asked = λ away. is.asked (ap (member point) quiet.1 ∙ away) ∙ ap (λ ps. Some (proxy_of ps point).commanded) quiet.0;
  took = λ settled. is.took (ap (λ ps. (proxy_of ps point).mark) quiet.0 ∙ settled) ∙ ap (λ ps. Some (proxy_of ps point).commanded) quiet.0;
}

-- ---- a want is handed out, and reported

at-hand_out : (point : ℕ) (found : Option ℕ) (s : State) (told : Told) → ((other : ℕ) → found ≡ Some other → member other s.wants ≡ true) → IsAt point s told →
    IsAt point (hand_out found s).state (told_by point (command.Next 0) (hand_out found s).answer told)
at-hand_out point None s told wanted is = is
at-hand_out point (Some other) s told wanted is =
    let gone : member point (without other s.wants) ≡ (not (point == other) && member point s.wants) = member-filter point (λ k. not (k == other)) s.wants in
    cond_both (other == point) (Some (proxy_of s.proxies other).commanded) None
    (λ asked. (other == point) ≡ (other == point) → IsAt point (record s { wants = without other s.wants }) (if_asked asked told))
    (λ here _.
    let same : other ≡ point = grind (arith, nat_tests) in
    let pends : (proxy_of s.proxies point).mark ≡ mark.Pending = is.pending (subst (λ k. member k s.wants ≡ true) same (wanted other refl)) in
    record {
      known = is.known;
      pending = λ wants. pends;
      asked = λ away. ap (λ k. Some (proxy_of s.proxies k).commanded) same;
      took = λ settled. let both : mark.Pending ≡ mark.Settled = sym pends ∙ settled in cc;
    })
    (λ apart _. record {
      known = is.known;
      pending = λ wants. is.pending (grind (arith, nat_tests));
      asked = λ away. is.asked (grind (arith, nat_tests));
      took = is.took;
    }) refl

at-report : (n point other version : ℕ) (ok : Bool) (s : State) (told : Told) → IsAt point s told →
    IsAt point (report n other version ok s).state (told_by point (command.Report other version ok) (report n other version ok s).answer told)
at-report n point other version true s told is =
    cond_both {A = Reply} (is_current other version s) (record { answer = answer.Noted true; state = heard n other true s }) (record { answer = answer.Noted false; state = s })
    (λ reply. IsAt point reply.state (told_by point (command.Report other version true) reply.answer told))
    (λ current. cond_both (other == point) (reports true told) told (λ next. (other == point) ≡ (other == point) → IsAt point (heard n other true s) next)
    (λ here _. let same : other ≡ point = grind (arith, nat_tests) in
    let away : member other s.wants ≡ false = grind (arith, nat_tests) in
    let off : member point s.wants ≡ false = subst (λ k. member k s.wants ≡ false) same away in
    let there : proxy_of (set s.proxies other (taken n (proxy_of s.proxies other))) point ≡ taken n (proxy_of s.proxies point) =
    subst (λ k. proxy_of (set s.proxies k (taken n (proxy_of s.proxies k))) point ≡ taken n (proxy_of s.proxies point)) (sym same)
    (proxy_of-set s.proxies point (taken n (proxy_of s.proxies point)) is.known) in
    record {
      known = subst (λ k. point < k) (sym (length-set s.proxies other (taken n (proxy_of s.proxies other)))) is.known;
      pending = λ wants. let both : true ≡ false = sym wants ∙ off in cc;
      asked = λ _. is.asked off ∙ ap (λ q. Some q.commanded) (sym there);
      took = λ _. is.asked off ∙ ap (λ q. Some q.commanded) (sym there);
    })
    (λ apart _. let there : proxy_of (set s.proxies other (taken n (proxy_of s.proxies other))) point ≡ proxy_of s.proxies point =
    proxy_of-other s.proxies other point (taken n (proxy_of s.proxies other)) (grind (arith, nat_tests)) in
    record {
      known = subst (λ k. point < k) (sym (length-set s.proxies other (taken n (proxy_of s.proxies other)))) is.known;
      pending = λ wants. ap (λ q. q.mark) there ∙ is.pending wants;
      asked = λ away. is.asked away ∙ ap (λ q. Some q.commanded) (sym there);
      took = λ settled. is.took (ap (λ q. q.mark) (sym there) ∙ settled) ∙ ap (λ q. Some q.commanded) (sym there);
    }) refl)
    (λ _. is)
at-report n point other version false s told is =
    let q = not_taken n (proxy_of s.proxies other) in
    cond_both {A = Reply} (is_current other version s) (record { answer = answer.Noted true; state = heard n other false s }) (record { answer = answer.Noted false; state = s })
    (λ reply. IsAt point reply.state (told_by point (command.Report other version false) reply.answer told))
    (λ current. cond_both (other == point) (reports false told) told (λ next. (other == point) ≡ (other == point) → IsAt point (heard n other false s) next)
    (λ here _. let same : other ≡ point = grind (arith, nat_tests) in
    let away : member other s.wants ≡ false = grind (arith, nat_tests) in
    let off : member point s.wants ≡ false = subst (λ k. member k s.wants ≡ false) same away in
    let there : proxy_of (set s.proxies other q) point ≡ not_taken n (proxy_of s.proxies point) =
    subst (λ k. proxy_of (set s.proxies k (not_taken n (proxy_of s.proxies k))) point ≡ not_taken n (proxy_of s.proxies point)) (sym same)
    (proxy_of-set s.proxies point (not_taken n (proxy_of s.proxies point)) is.known) in
    record {
      known = subst (λ k. point < k) (sym (length-set s.proxies other q)) is.known;
      pending = λ wants. let both : true ≡ false = sym wants ∙ off in cc;
      asked = λ _. is.asked off ∙ ap (λ x. Some x.commanded) (sym there);
      took = λ settled. let both : mark.Failed ≡ mark.Settled = sym (ap (λ x. x.mark) there) ∙ settled in cc;
    })
    (λ apart _. let there : proxy_of (set s.proxies other q) point ≡ proxy_of s.proxies point = proxy_of-other s.proxies other point q (grind (arith, nat_tests)) in
    record {
      known = subst (λ k. point < k) (sym (length-set s.proxies other q)) is.known;
      pending = λ wants. ap (λ x. x.mark) there ∙ is.pending wants;
      asked = λ away. is.asked away ∙ ap (λ x. Some x.commanded) (sym there);
      took = λ settled. is.took (ap (λ x. x.mark) (sym there) ∙ settled) ∙ ap (λ x. Some x.commanded) (sym there);
    }) refl)
    (λ _. is)

-- ---- each command, each step and each history

at-act : (plant : List Actuator) (session n point : ℕ) (c : Command) (s : State) (told : Told) → IsAt point s told →
    IsAt point (act plant session n c s).state (told_by point c (act plant session n c s).answer told)
unfolding IsQuiet
at-act plant session n point (command.Attach name) s told is = at-quiet point s (act plant session n (command.Attach name) s) told (quiet-joined session _ s _) is
at-act plant session n point (command.Submit writes policy seq) s told is = at-quiet point s (act plant session n (command.Submit writes policy seq) s) told
    (quiet-if (process_of s.attached session) (λ p. after s (once p seq s.persistent (submit plant p policy writes n s.persistent))) s (λ p. quiet-after s _)) is
at-act plant session n point (command.Renew txn length points seq) s told is = at-quiet point s (act plant session n (command.Renew txn length points seq) s) told
    (quiet-if (process_of s.attached session) (λ p. after s (once p seq s.persistent (renew p txn length points n s.persistent))) s (λ p. quiet-after s _)) is
at-act plant session n point (command.Cancel txn seq) s told is = at-quiet point s (act plant session n (command.Cancel txn seq) s) told
    (quiet-if (process_of s.attached session) (λ p. after s (once p seq s.persistent (cancel p txn n s.persistent))) s (λ p. quiet-after s _)) is
at-act plant session n point command.Gone s told is = at-quiet point s (act plant session n command.Gone s) told
    (quiet-if (process_of s.attached session) (λ p. parted session s (gone p n s.persistent)) s (λ p. quiet-parted session s (gone p n s.persistent))) is
at-act plant session n point command.Tick s told is = is
at-act plant session n point (command.Next driver) s told is = at-hand_out point (find (λ p. driver_of plant p == driver) s.wants) s told
    (λ other found. find-member (λ p. driver_of plant p == driver) s.wants other found) is
at-act plant session n point (command.Report other version ok) s told is = at-report n point other version ok s told is
at-act plant session n point (command.Doubt other differs) s told is = at-changed (is_doubted other) (doubted differs) (λ place. refl) point s told is
at-act plant session n point (command.Read p) s told is = is
at-act plant session n point (command.Array p) s told is = is
at-act plant session n point (command.Status txn) s told is = is
at-act plant session n point (command.Notices name from most) s told is =
    at-quiet point s (act plant session n (command.Notices name from most) s) told (quiet-notices name session from most s) is
at-act plant session n point (command.Points from most) s told is = is
at-act plant session n point command.Version s told is = is

at-step : (plant : List Actuator) (session point m : ℕ) (c : Command) (s : State) (told : Told) → IsAt point s told →
    IsAt point (step plant session c m s).state (told_by point c (step plant session c m s).answer told)
    × ((proxy_of (step plant session c m s).state.proxies point).commanded ≡ target plant (step plant session c m s).state.persistent point)
unfolding step
at-step plant session point m c s told is =
    let n = moment_of s.persistent m in
    let reply = act plant session n c (pass_time plant n s) in
    let acted : IsAt point reply.state (told_by point c reply.answer told) = at-act plant session n point c (pass_time plant n s) told (at-passed plant n point s told is) in
    (at-settled plant point reply.state (told_by point c reply.answer told) acted, commanded-settled plant point reply.state acted.known)

at-run : (plant : List Actuator) (point : ℕ) (log : List Entry) (s : State) (told : Told) → IsLegal plant log s → IsAt point s told →
    (proxy_of s.proxies point).commanded ≡ target plant s.persistent point →
    IsAt point (run plant log s) (told_in point log told) × ((proxy_of (run plant log s).proxies point).commanded ≡ target plant (run plant log s).persistent point)
at-run plant point [] s told legal is same = (is, same)
at-run plant point (Did session c m given ∷ log) s told legal is same =
    let next = at-step plant session point m c s told is in
    at-run plant point log (step plant session c m s).state (told_by point c given told) legal.2
    (subst (λ a. IsAt point (step plant session c m s).state (told_by point c a told)) (sym legal.0.1) next.0) next.1
at-run plant point (Broke session commands others ∷ log) s told legal is same = at-run plant point log s told legal.2 is same

-- ---- from a state on

at-start : (point : ℕ) (s : State) → point < length s.proxies → (member point s.wants ≡ true → (proxy_of s.proxies point).mark ≡ mark.Pending) →
    IsAt point s (told_at s point)
at-start point s known pending = record {
  known = known;
  pending = pending;
  asked = λ away. refl;
  took = λ settled. ap (λ stands. took_at stands (proxy_of s.proxies point).commanded) settled;
}

settled-from : (plant : List Actuator) (point : ℕ) (log : List Entry) (s : State) → point < length s.proxies →
    (member point s.wants ≡ true → (proxy_of s.proxies point).mark ≡ mark.Pending) → (proxy_of s.proxies point).commanded ≡ target plant s.persistent point →
    IsLegal plant log s → IsSettled (run plant log s) point → (told_in point log (told_at s point)).took ≡ Some (target plant (run plant log s).persistent point)
settled-from plant point log s known pending same legal settled =
    let ran = at-run plant point log s (told_at s point) legal (at-start point s known pending) same in
    ran.0.took settled ∙ ap Some ran.1

-- an opened state
fresh-opened : (plant : List Actuator) (d : Persistent) (point : ℕ) → point < length plant → proxy_of (opened plant d).proxies point ≡ fresh (target plant d point)
fresh-opened plant d point known = fresh-at (λ p. target plant d p) 0 point (length plant) known ∙ ap (λ p. fresh (target plant d p)) (zero-add point)

pub settled-opened : (plant : List Actuator) (point : ℕ) (log : List Entry) (d : Persistent) → point < length plant → IsLegal plant log (opened plant d) →
    IsSettled (run plant log (opened plant d)) point →
    (told_in point log (told_at (opened plant d) point)).took ≡ Some (target plant (run plant log (opened plant d)).persistent point)
settled-opened plant point log d known legal settled =
    let here = fresh-opened plant d point known in
    settled-from plant point log (opened plant d) (subst (λ n. point < n) (sym (length-range (λ p. fresh (target plant d p)) 0 (length plant))) known)
    (λ wants. ap (λ q. q.mark) here) (ap (λ q. q.commanded) here) legal settled

-- nothing was told to have been taken
pub nothing-taken : (plant : List Actuator) (point : ℕ) (d : Persistent) → point < length plant → (told_at (opened plant d) point).took ≡ None
nothing-taken plant point d known = ap (λ q. took_at q.mark q.commanded) (fresh-opened plant d point known)

-- and a sound one
commanded-at : (plant : List Actuator) (d : Persistent) (ps : List Proxy) (k place : ℕ) → k < length ps → Settled plant d place ps → (proxy_of ps k).commanded ≡ target plant d (place + k)
commanded-at plant d [] k place known settled = absurd (omega arith)
commanded-at plant d (p ∷ ps) zero place known settled = settled.0 ∙ ap (target plant d) (omega arith)
commanded-at plant d (p ∷ ps) (suc k) place known settled = commanded-at plant d ps k (place + 1) (omega arith) settled.1 ∙ ap (target plant d) (omega arith)

pub commanded-sound : (plant : List Actuator) (point : ℕ) (s : State) → point < length plant → IsSound plant s → (proxy_of s.proxies point).commanded ≡ target plant s.persistent point
commanded-sound plant point s known sound =
    let there : point < length s.proxies = subst (λ n. point < n) (sym sound.proxies) known in
    commanded-at plant s.persistent s.proxies point 0 there sound.commanded ∙ ap (target plant s.persistent) (zero-add point)

pub settled-sound : (plant : List Actuator) (point : ℕ) (log : List Entry) (s : State) → point < length plant → IsSound plant s → IsLegal plant log s →
    IsSettled (run plant log s) point → (told_in point log (told_at s point)).took ≡ Some (target plant (run plant log s).persistent point)
settled-sound plant point log s known sound legal settled =
    settled-from plant point log s (subst (λ n. point < n) (sym sound.proxies) known)
    (λ wants. (member-each (IsWant s.proxies) point s.wants sound.wants wants).pending) (commanded-sound plant point s known sound) legal settled
