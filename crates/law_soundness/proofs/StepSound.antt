-- A step keeps a sound state sound.
use Rattle.std.proofs.Common.{◌≡◌, ℕ, suc, ◌+◌, ◌<◌, ◌≤◌, ◌==◌, max, nat_eq, List, [], ◌∷◌, ◌++◌, length, map, set, Bool, true, false, not, Option, Some, None, refl, ap, sym, ◌∙◌, subst, arith, length-append}
use Rattle.std.specs.Option.{option_map}
use Rattle.std.specs.List.{filter, find, AllByRecursion}
use Rattle.std.specs.Cmp.Lexicographic.{pointwise}
use Rattle.std.proofs.Math.ListN.{length-set}
use Rattle.std.proofs.lemmas.Bool.{cond_both}
use Rattle.std.proofs.lemmas.Bool.Decides.{nat_tests}
use Rattle.boss_model.specs.declared.answer.Answer.TheVariants as answer
use Rattle.boss_model.specs.declared.answer.Mark.TheVariants as mark
use Rattle.boss_model.specs.declared.answer.Refusal.TheVariants as refusal
use Rattle.boss_model.specs.declared.command.Command.{Command}
use Rattle.boss_model.specs.declared.command.Command.TheVariants as command
use Rattle.boss_model.specs.declared.state.Actuator.{Actuator}
use Rattle.boss_model.specs.declared.state.Proxy.{Proxy}
use Rattle.boss_model.specs.Catalogue.{driver_of}
use Rattle.boss_model.specs.Devices.{Reply, proxy_of, hand_out, next, is_current, taken, not_taken, faulted_first, heard, report, is_doubted, doubted}
use Rattle.boss_model.specs.Ends.{cancel, gone, lost, faulted}
use Rattle.boss_model.specs.Limits.{last_moment, last_number}
use Rattle.boss_model.specs.Lists.{member, first_some}
use Rattle.boss_model.specs.Machine.{answered, after, if_attached, joined, parted, notices_asked, act, ticked, pass_time, step}
use Rattle.boss_model.specs.Names.{is_name}
use Rattle.boss_model.specs.Outcomes.{Outcome, refused, did, unless}
use Rattle.boss_model.specs.Processes.{process_of, session_of, process_named, number_of, name_of, is_full, process_refused, enrol_unless, attached_too, next_notice}
use Rattle.boss_model.specs.Queries.{notices}
use Rattle.boss_model.specs.Renew.{renew}
use Rattle.boss_model.specs.Replies.{once}
use Rattle.boss_model.specs.Settle.{places, changed_if, wanted_anew, is_retried, retried, retry, is_moved, recommanded, settle}
use Rattle.boss_model.specs.Sound.{Distinct, Settled, IsWant, IsSoundPersistent, IsSound, IsAllowed}
use Rattle.boss_model.specs.State.{Persistent, Attachment, State}
use Rattle.boss_model.specs.Submit.{submit}
use Rattle.boss_model.specs.Target.{target, in_force}
use Rattle.boss_model.specs.Time.{tick_to}
use Rattle.boss_model.proofs.Members.{Distinct-filter, Distinct-snoc}
use Rattle.law_soundness.proofs.ActSound.{tick-length, lost-next, faulted-next, enrol-sound}
use Rattle.law_soundness.proofs.ConcludeSound.{IsNext}
use Rattle.law_soundness.proofs.EndSound.{IsAt, at-tick}
use Rattle.law_soundness.proofs.Fresh.{commanded-settled}
use Rattle.law_soundness.proofs.ReplySound.{IsGood, once-good, submit-good, renew-good, cancel-good}
use Rattle.law_time.proofs.Filters.{position-within}
use Rattle.law_time.proofs.Orders.{each-map, each-filter, each-append}
use Rattle.law_time.proofs.Places.{member-wanted_anew, Distinct-wanted_anew, length-changed, proxy_of-changed, change_at, Distinct-places, member-places, below-places, each-member, member-each, proxy_of-other}
use Rattle.law_time.proofs.TickSound.{tick-sound}

-- sound but for the commanded values, which settling makes so
pub record IsUnsettled (plant : List Actuator) (s : State) : Type 0 where
  pub persistent : IsSoundPersistent plant s.persistent
  pub sessions : Distinct (map (λ attachment. attachment.session) s.attached)
  pub held : Distinct (map (λ attachment. attachment.process) s.attached)
  pub attached : AllByRecursion (λ attachment. attachment.process < length s.persistent.processes) s.attached
  pub proxies : length s.proxies ≡ length plant
  pub wants : AllByRecursion (IsWant s.proxies) s.wants
  pub once : Distinct s.wants

pub unsettled : (plant : List Actuator) (s : State) → IsSound plant s → IsUnsettled plant s
unsettled plant s sound = record {
  persistent = sound.persistent;
  sessions = sound.sessions;
  held = sound.held;
  attached = sound.attached;
  proxies = sound.proxies;
  wants = sound.wants;
  once = sound.once;
}

-- ---- retries and settling

module _ (plant : List Actuator) (test : ℕ × Proxy → Bool) (change : ℕ × Proxy → Proxy) (pending : (place : ℕ × Proxy) → (change place).mark ≡ mark.Pending) where
  changed-unsettled : (s : State) → IsUnsettled plant s → IsUnsettled plant (record s { proxies = changed_if test change s.proxies; wants = wanted_anew (places test s.proxies) s.wants })
  changed-unsettled s u =
      let ps = changed_if test change s.proxies in
      let many : length ps ≡ length s.proxies = length-changed test change s.proxies in
      record {
        persistent = u.persistent;
        sessions = u.sessions;
        held = u.held;
        attached = u.attached;
        proxies = many ∙ u.proxies;
        wants = each-member (IsWant ps) (wanted_anew (places test s.proxies) s.wants) (λ k there.
            let known : k < length s.proxies = within k there in
            let new : proxy_of ps k ≡ change_at test change (k, proxy_of s.proxies k) = proxy_of-changed test change k s.proxies known in
            record {
              known = omega arith;
              pending = ap (λ p. p.mark) new ∙ cond_both (test (k, proxy_of s.proxies k)) (change (k, proxy_of s.proxies k)) (proxy_of s.proxies k) (λ p. p.mark ≡ mark.Pending)
                  (λ _. pending (k, proxy_of s.proxies k))
                  (λ still.
                  let moved : member k (places test s.proxies) ≡ false = member-places test k s.proxies known ∙ still in
                  let was : member k s.wants ≡ true = let all = member-wanted_anew k (places test s.proxies) s.wants in grind (arith) in
                  (member-each (IsWant s.proxies) k s.wants u.wants was).pending);
            });
        once = Distinct-wanted_anew (places test s.proxies) s.wants (Distinct-places test s.proxies) u.once;
      }
    where
      within : (k : ℕ) → member k (wanted_anew (places test s.proxies) s.wants) ≡ true → k < length s.proxies
      within k there = cond_both (member k s.wants) true false (λ b. member k s.wants ≡ b → k < length s.proxies)
          (λ was _. (member-each (IsWant s.proxies) k s.wants u.wants was).known)
          (λ out _. member-each (λ j. j < length s.proxies) k (places test s.proxies) (below-places test s.proxies)
          (let all = member-wanted_anew k (places test s.proxies) s.wants in grind (arith))) (grind (arith))

settled-from : (plant : List Actuator) (d : Persistent) (place : ℕ) (ps : List Proxy) → ((k : ℕ) → k < length ps → (proxy_of ps k).commanded ≡ target plant d (place + k)) → Settled plant d place ps
settled-from plant d place [] each = tt
settled-from plant d place (p ∷ ps) each = (
  each 0 (omega arith) ∙ ap (target plant d) (let same : place + 0 ≡ place = omega arith in same),
  settled-from plant d (place + 1) ps (λ k within. each (suc k) (omega arith) ∙ ap (target plant d) (let same : place + suc k ≡ place + 1 + k = omega arith in same)),
)

pub settle-sound : (plant : List Actuator) (s : State) → IsUnsettled plant s → IsSound plant (settle plant s)
settle-sound plant s u =
    let v = changed-unsettled plant (is_moved plant s.persistent) (recommanded plant s.persistent) (λ place. refl) s u in
    record {
      persistent = v.persistent;
      sessions = v.sessions;
      held = v.held;
      attached = v.attached;
      proxies = v.proxies;
      wants = v.wants;
      once = v.once;
      commanded = settled-from plant s.persistent 0 (settle plant s).proxies (λ k within. commanded-settled plant k s (let known : k < length (settle plant s).proxies = within in
          omega (arith, length-changed (is_moved plant s.persistent) (recommanded plant s.persistent) s.proxies))
          ∙ ap (target plant s.persistent) (let same : k ≡ 0 + k = omega arith in same));
    }

with-persistent : (plant : List Actuator) (s : State) (d : Persistent) → IsUnsettled plant s → IsNext plant s.persistent d → IsUnsettled plant (record s { persistent = d })
with-persistent plant s d u next = record {
  persistent = next.sound;
  sessions = u.sessions;
  held = u.held;
  proxies = u.proxies;
  wants = u.wants;
  once = u.once;
  attached = subst (λ k. AllByRecursion (λ attachment. attachment.process < k) s.attached) (sym next.processes) u.attached;
}

pub passed-sound : (plant : List Actuator) (n : ℕ) (s : State) → s.persistent.now ≤ n → n ≤ last_moment → IsSound plant s → IsSound plant (pass_time plant n s)
passed-sound plant n s within small sound = settle-sound plant (retry n (ticked n s))
    (changed-unsettled plant (is_retried n) retried (λ place. refl) (ticked n s)
    (with-persistent plant s (tick_to n s.persistent) (unsettled plant s sound)
    (record { sound = tick-sound plant s.persistent n sound.persistent within small; processes = tick-length s.persistent n })))

-- ---- commands

after-sound : (plant : List Actuator) (s : State) (outcome : Outcome) → IsUnsettled plant s → IsGood plant s.persistent outcome → IsUnsettled plant (after s outcome).state
after-sound plant s (refused why) u good = u
after-sound plant s (did given d) u good = with-persistent plant s d u good.0

pub found-attached : (P : ℕ → Type 0) (attached : List Attachment) (session process : ℕ) → AllByRecursion (λ a. P a.process) attached → process_of attached session ≡ Some process → P process
found-attached P [] session process all found = cc
found-attached P (a ∷ rest) session process all found = cond_both (a.session == session) (Some a) (find (λ b. b.session == session) rest)
    (λ f. option_map (λ b. b.process) f ≡ Some process → P process) (λ _ e. let same : a.process ≡ process = cc in subst P same all.0) (λ _ e. found-attached P rest session process all.1 e) found

if-sound : (plant : List Actuator) (held : Option ℕ) (go : ℕ → Reply) (s : State) → IsUnsettled plant s → ((p : ℕ) → held ≡ Some p → IsUnsettled plant (go p).state) →
    IsUnsettled plant (if_attached held go s).state
if-sound plant None go s u each = u
if-sound plant (Some p) go s u each = each p refl

-- a session that holds nothing may be attached to a process that nobody holds
not-session : (attached : List Attachment) (session : ℕ) → process_of attached session ≡ None → member session (map (λ a. a.session) attached) ≡ false
not-session [] session none = refl
not-session (a ∷ rest) session none = cond_both (a.session == session) (Some a) (find (λ b. b.session == session) rest)
    (λ f. option_map (λ b. b.process) f ≡ None → (a.session == session) ≡ (a.session == session) → member session (map (λ x. x.session) (a ∷ rest)) ≡ false)
    (λ _ e _. cc) (λ other e _. grind (arith, nat_tests, not-session rest session e)) none refl

not-held : (attached : List Attachment) (process : ℕ) → session_of attached process ≡ None → member process (map (λ a. a.process) attached) ≡ false
not-held [] process none = refl
not-held (a ∷ rest) process none = cond_both (a.process == process) (Some a) (find (λ b. b.process == process) rest)
    (λ f. option_map (λ b. b.session) f ≡ None → (a.process == process) ≡ (a.process == process) → member process (map (λ x. x.process) (a ∷ rest)) ≡ false)
    (λ _ e _. cc) (λ other e _. grind (arith, nat_tests, not-held rest process e)) none refl

new-not-held : (attached : List Attachment) (count : ℕ) → AllByRecursion (λ a. a.process < count) attached → member count (map (λ a. a.process) attached) ≡ false
new-not-held [] count all = refl
new-not-held (a ∷ rest) count all = let early : a.process < count = all.0 in grind (arith, nat_tests, new-not-held rest count all.1)

map-snoc : {X Y : Type 0} (f : X → Y) (xs : List X) (x : X) → map f (xs ++ x ∷ []) ≡ map f xs ++ f x ∷ []
map-snoc f [] x = refl
map-snoc f (y ∷ ys) x = ap (λ zs. f y ∷ zs) (map-snoc f ys x)

attached-sound : (plant : List Actuator) (s : State) (session process : ℕ) (d : Persistent) → IsUnsettled plant s → process_of s.attached session ≡ None →
    member process (map (λ a. a.process) s.attached) ≡ false → IsSoundPersistent plant d → length s.persistent.processes ≤ length d.processes → process < length d.processes →
    IsUnsettled plant (record s { persistent = d; attached = attached_too session process s.attached })
attached-sound plant s session process d u none free sound more known =
    let a : Attachment = record { session = session; process = process } in
    record {
      persistent = sound;
      proxies = u.proxies;
      wants = u.wants;
      once = u.once;
      sessions = subst Distinct (sym (map-snoc (λ x. x.session) s.attached a)) (Distinct-snoc (map (λ x. x.session) s.attached) session u.sessions (not-session s.attached session none));
      held = subst Distinct (sym (map-snoc (λ x. x.process) s.attached a)) (Distinct-snoc (map (λ x. x.process) s.attached) process u.held free);
      attached = each-append (λ x. x.process < length d.processes) s.attached (a ∷ [])
          (each-map (λ x. x.process < length s.persistent.processes) (λ x. x.process < length d.processes) (λ x early. omega arith) s.attached u.attached) (known, tt);
    }

module _ (plant : List Actuator) (n : ℕ) (s : State) (u : IsUnsettled plant s) (at : IsAt n s.persistent) (small : n ≤ last_moment) where
  joined-sound : (session : ℕ) (name : List ℕ) (found : Option ℕ) (held : Option ℕ) → process_named s.persistent.processes name ≡ found → process_of s.attached session ≡ held → is_name name ≡ true →
      IsUnsettled plant (joined session (number_of s.persistent.processes found) s
      (unless (first_some (option_map (λ process. refusal.Already (name_of s.persistent.processes process)) held ∷ process_refused s.persistent.processes s.attached found ∷ []))
      (answer.Attached name (next_notice s.persistent.processes (number_of s.persistent.processes found))) (enrol_unless found name n s.persistent))).state
  joined-sound session name found (Some process) is holds named = u
  joined-sound session name None None is holds named = cond_both (is_full s.persistent.processes) (Some refusal.TooManyProcesses) None
      (λ why. is_full s.persistent.processes ≡ is_full s.persistent.processes → IsUnsettled plant (joined session (length s.persistent.processes) s
      (unless (first_some (why ∷ [])) (answer.Attached name (next_notice s.persistent.processes (length s.persistent.processes))) (enrol_unless None name n s.persistent))).state)
      (λ _ _. u)
      (λ room _. attached-sound plant s session (length s.persistent.processes) (enrol_unless None name n s.persistent) u holds
      (new-not-held s.attached (length s.persistent.processes) u.attached) (enrol-sound plant n s.persistent u.persistent at small name named is room)
      (omega (arith, length-append s.persistent.processes ((record { name = name; count = 0; kept = []; reply = None }) ∷ [])))
      (omega (arith, length-append s.persistent.processes ((record { name = name; count = 0; kept = []; reply = None }) ∷ [])))) refl
  joined-sound session name (Some process) None is holds named = known-sound (session_of s.attached process) refl
    where
      known-sound : (holder : Option ℕ) → session_of s.attached process ≡ holder → IsUnsettled plant (joined session process s
          (unless (first_some (option_map refusal.Taken holder ∷ [])) (answer.Attached name (next_notice s.persistent.processes process)) s.persistent)).state
      known-sound (Some other) held = u
      known-sound None held = attached-sound plant s session process s.persistent u holds (not-held s.attached process held) u.persistent (omega arith)
          (position-within (λ p. pointwise nat_eq p.name name) s.persistent.processes process is)

  parted-sound : (session owner : ℕ) → IsUnsettled plant (parted session s (gone owner n s.persistent)).state
  parted-sound session owner =
      let next = lost-next plant n s.persistent u.persistent at small owner in
      let v = with-persistent plant s (lost owner n s.persistent) u next in
      let keeps = λ (a : Attachment). not (a.session == session) in
      record {
        persistent = v.persistent;
        proxies = v.proxies;
        wants = v.wants;
        once = v.once;
        sessions = fewer-distinct (λ a. a.session) keeps s.attached v.sessions;
        held = fewer-distinct (λ a. a.process) keeps s.attached v.held;
        attached = each-filter (λ a. a.process < length (lost owner n s.persistent).processes) keeps s.attached v.attached;
      }
    where
      fewer-member : (f : Attachment → ℕ) (keeps : Attachment → Bool) (k : ℕ) (xs : List Attachment) → member k (map f xs) ≡ false → member k (map f (filter keeps xs)) ≡ false
      fewer-member f keeps k [] away = away
      fewer-member f keeps k (x ∷ xs) away = cond_both (keeps x) (x ∷ filter keeps xs) (filter keeps xs) (λ ys. member k (map f ys) ≡ false)
          (λ _. grind (arith, nat_tests, fewer-member f keeps k xs)) (λ _. fewer-member f keeps k xs (grind (arith)))

      fewer-distinct : (f : Attachment → ℕ) (keeps : Attachment → Bool) (xs : List Attachment) → Distinct (map f xs) → Distinct (map f (filter keeps xs))
      fewer-distinct f keeps [] once = tt
      fewer-distinct f keeps (x ∷ xs) once = cond_both (keeps x) (x ∷ filter keeps xs) (filter keeps xs) (λ ys. Distinct (map f ys))
          (λ _. (fewer-member f keeps (f x) xs once.0, fewer-distinct f keeps xs once.1)) (λ _. fewer-distinct f keeps xs once.1)

  hand_out-sound : (found : Option ℕ) → IsUnsettled plant (hand_out found s).state
  hand_out-sound None = u
  hand_out-sound (Some point) = record {
    persistent = u.persistent;
    sessions = u.sessions;
    held = u.held;
    attached = u.attached;
    proxies = u.proxies;
    wants = each-filter (IsWant s.proxies) (λ other. not (other == point)) s.wants u.wants;
    once = Distinct-filter (λ other. not (other == point)) s.wants u.once;
  }

  -- a mark on a point that is not wanted
  marked-sound : (d : Persistent) (point : ℕ) (proxy : Proxy) → member point s.wants ≡ false → IsNext plant s.persistent d →
      IsUnsettled plant (record s { persistent = d; proxies = set s.proxies point proxy })
  marked-sound d point proxy away next =
      let v = with-persistent plant s d u next in
      record {
        persistent = v.persistent;
        sessions = v.sessions;
        held = v.held;
        attached = v.attached;
        once = v.once;
        proxies = length-set s.proxies point proxy ∙ v.proxies;
        wants = each-member (IsWant (set s.proxies point proxy)) s.wants (λ k there.
            let is = member-each (IsWant s.proxies) k s.wants u.wants there in
            record {
              known = subst (λ m. k < m) (sym (length-set s.proxies point proxy)) is.known;
              pending = ap (λ p. p.mark) (proxy_of-other s.proxies point k proxy
                  (cond_both (k == point) true false (λ b. (k == point) ≡ b → (k == point) ≡ false)
                  (λ same _. let equal : k ≡ point = grind (arith, nat_tests) in let in_it : member point s.wants ≡ true = subst (λ j. member j s.wants ≡ true) equal there in cc)
                  (λ other _. other) (grind (arith)))) ∙ is.pending;
            });
      }

  heard-sound : (point : ℕ) (ok : Bool) → member point s.wants ≡ false → IsUnsettled plant (heard n point ok s)
  heard-sound point true away = marked-sound s.persistent point (taken n (proxy_of s.proxies point)) away (record { sound = u.persistent; processes = refl })
  heard-sound point false away = marked-sound (faulted_first (proxy_of s.proxies point).failed point n s.persistent) point (not_taken n (proxy_of s.proxies point)) away
      (cond_both (proxy_of s.proxies point).failed s.persistent (faulted (in_force s.persistent.leases point) n s.persistent) (IsNext plant s.persistent)
      (λ _. record { sound = u.persistent; processes = refl }) (λ _. faulted-next plant n s.persistent u.persistent at small point))

  report-sound : (point version : ℕ) (ok : Bool) → IsUnsettled plant (report n point version ok s).state
  report-sound point version ok = cond_both {A = Reply} (is_current point version s) (record { answer = answer.Noted true; state = heard n point ok s }) (record { answer = answer.Noted false; state = s })
      (λ reply. IsUnsettled plant reply.state) (λ current. heard-sound point ok (grind (arith, nat_tests))) (λ _. u)

  notices-sound : (name : Option (List ℕ)) (session from most : ℕ) → IsUnsettled plant (notices_asked name session from most s).state
  notices-sound (Some name) session from most = u
  notices-sound None session from most = if-sound plant (process_of s.attached session) (λ p. answered (notices (Some p) from most s.persistent) s) s u (λ p _. u)

  -- a request of the session's process that may be numbered
  numbered-sound : (session seq : ℕ) (go : ℕ → Outcome) → seq < last_number → ((p : ℕ) → p < length s.persistent.processes → IsGood plant s.persistent (go p)) →
      IsUnsettled plant (if_attached (process_of s.attached session) (λ p. after s (once p seq s.persistent (go p))) s).state
  numbered-sound session seq go few good = if-sound plant (process_of s.attached session) (λ p. after s (once p seq s.persistent (go p))) s u
      (λ p held. after-sound plant s (once p seq s.persistent (go p)) u (once-good plant s.persistent p seq (go p) u.persistent few
      (good p (found-attached (λ k. k < length s.persistent.processes) s.attached session p u.attached held))))

  pub act-sound : (session : ℕ) (c : Command) → IsAllowed plant c → IsUnsettled plant (act plant session n c s).state
  act-sound session (command.Attach name) allowed = joined-sound session name (process_named s.persistent.processes name) (process_of s.attached session) refl refl allowed
  act-sound session (command.Submit writes policy seq) allowed = numbered-sound session seq (λ p. submit plant p policy writes n s.persistent) allowed.3
      (λ p held. submit-good plant n s.persistent u.persistent at small p policy writes allowed.0 allowed.1 allowed.2 held)
  act-sound session (command.Renew txn asked points seq) allowed = numbered-sound session seq (λ p. renew p txn asked points n s.persistent) allowed.2
      (λ p _. renew-good plant n s.persistent u.persistent at small p txn asked points)
  act-sound session (command.Cancel txn seq) allowed = numbered-sound session seq (λ p. cancel p txn n s.persistent) allowed
      (λ p _. cancel-good plant n s.persistent u.persistent at small p txn)
  act-sound session command.Gone allowed = if-sound plant (process_of s.attached session) (λ p. parted session s (gone p n s.persistent)) s u (λ p _. parted-sound session p)
  act-sound session command.Tick allowed = u
  act-sound session (command.Next driver) allowed = hand_out-sound (find (λ point. driver_of plant point == driver) s.wants)
  act-sound session (command.Report point version ok) allowed = report-sound point version ok
  act-sound session (command.Doubt point differs) allowed = changed-unsettled plant (is_doubted point) (doubted differs) (λ place. refl) s u
  act-sound session (command.Read point) allowed = u
  act-sound session (command.Array point) allowed = u
  act-sound session (command.Status txn) allowed = u
  act-sound session (command.Notices name from most) allowed = notices-sound name session from most
  act-sound session (command.Points from most) allowed = u
  act-sound session command.Version allowed = u

pub step-sound : (plant : List Actuator) (session : ℕ) (c : Command) (m : ℕ) (s : State) → IsAllowed plant c → m ≤ last_moment → IsSound plant s → IsSound plant (step plant session c m s).state
unfolding step
step-sound plant session c m s allowed small sound =
    let n = max s.persistent.now m in
    let now : s.persistent.now ≤ last_moment = sound.persistent.now in
    let early : n ≤ last_moment = omega arith in
    let passed : IsSound plant (pass_time plant n s) = passed-sound plant n s (omega arith) early sound in
    settle-sound plant (act plant session n c (pass_time plant n s)).state
    (act-sound plant n (pass_time plant n s) (unsettled plant (pass_time plant n s) passed) (at-tick s.persistent n (omega arith)) early session c allowed)
